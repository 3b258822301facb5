-- What accepted commands change of the registers.
use Rattle.std.specs.Prelude.{ℕ, List, [], ◌∷◌, ◌++◌}
use Rattle.tpm_types.specs.declared.alg.Alg.{Alg}
use Rattle.tpm_types.specs.declared.handle_sets.PcrOrNull.TheVariants.{Pcr, Null}
use Rattle.tpm_types.specs.declared.handle_sets.PcrOrNull.{PcrOrNull}
use Rattle.tpm_commands.specs.declared.command.CommandBody.{CommandBody}
use Rattle.tpm_commands.specs.declared.command.CommandBody.TheVariants as bodies
use Rattle.tpm_pcr.specs.Registers.Change.{Restart, Reset, Extend}
use Rattle.tpm_pcr.specs.Registers.{Change, event_digests}
use Rattle.tpm_model.specs.Steps.{History, PowerCycle, Accepted}

-- TPM_RH_NULL is no register.
abbrev pub extends : PcrOrNull → List (Alg × List ℕ) → List Change
extends (Pcr q) ds = Extend q ds ∷ []
extends Null ds = []

-- what an accepted command changes, the newest first
abbrev pub changes_by : CommandBody → List Change
changes_by (bodies.Startup kind) = Restart ∷ []
changes_by (bodies.PcrExtend q ds) = extends q ds
changes_by (bodies.PcrEvent q event) = extends q (event_digests event)
changes_by (bodies.PcrReset q) = Reset q ∷ []
changes_by _ = []

-- the changes of a history, the newest first
abbrev pub changes : History → List Change
changes [] = []
changes (PowerCycle ∷ h) = Restart ∷ changes h
changes (Accepted c r n ∷ h) = changes_by c.body ++ changes h
