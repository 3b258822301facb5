-- The lives of a device: it is made again of its NV memory after the power took what it had not kept (Part 1, "NV
-- Memory").
use Rattle.std.specs.Prelude.{◌≡◌, ℕ, List, [], ◌∷◌, ◌++◌, flat_map, Option, Ok}
use Rattle.tpm_types.specs.declared.handle_sets.NvAuthHandle.{NvAuthHandle}
use Rattle.tpm_commands.specs.declared.command.CommandBody.TheVariants.{NvIncrement}
use Rattle.tpm_model.specs.Steps.{History, PowerCycle, Origin}
use Rattle.tpm_model.specs.Counters.{nv_memory, value_at}
use Rattle.tpm_model.specs.Present.{present}
use Rattle.tpm_model.specs.Answers.{Done, outcome, answer, next}
use Rattle.tpm_model.specs.Callers.{Seal}
use Rattle.tpm_model.specs.Runs.Stimulus.{Given, Cycled}
use Rattle.tpm_model.specs.Runs.{Stimulus, after}
use Rattle.tpm_model.specs.Premises.{IsAccepted, HasSessionMac, NoncesDiffer, Keyed, texts_checked, AreFree}
use Rattle.tpm_model.specs.Premises.{IsSealedBy, SealsDiffer, texts_replied, Opening, texts_opened}
use Rattle.tpm_hmac.specs.Among.{IsAmong}

-- A run of a device, until it loses its power. Each response that was handed out is to one of the kept stimuli, and the
-- next life begins from the NV memory after them. The lost stimuli were executed after them, and their responses were
-- not handed out.
pub record Life : Type 0 where
  pub kept : List Stimulus
  pub lost : List Stimulus

-- all that was executed in a life
abbrev pub executed : Life → List Stimulus
executed life = life.kept ++ life.lost

-- of the device that is made for the next life: the same owner's value, and the NV memory after the kept stimuli
abbrev pub origin_after : Origin → Life → Origin
origin_after o life = record o { nv = nv_memory o (after o [] life.kept) }

-- ---- the buffers that were executed

-- a buffer and its nonce, executed at a history of one of the lives, which has this origin
pub record Execution : Type 0 where
  pub origin : Origin
  pub history : History
  pub bytes : List ℕ
  pub nonce : List ℕ

-- those of stimuli, the first of them first
abbrev pub executions_of : Origin → History → List Stimulus → List Execution
executions_of o h [] = []
executions_of o h (Given bytes nonce ∷ es) =
    record { origin = o; history = h; bytes = bytes; nonce = nonce } ∷ executions_of o (next o h bytes nonce) es
executions_of o h (Cycled ∷ es) = executions_of o (PowerCycle ∷ h) es

-- those of one part of each life
abbrev pub executions_in : (Life → List Stimulus) → Origin → List Life → List Execution
executions_in part o [] = []
executions_in part o (life ∷ lives) = executions_of o [] (part life) ++ executions_in part (origin_after o life) lives

-- all of them
abbrev pub executions : Origin → List Life → List Execution
executions = executions_in executed

-- those of the kept stimuli: each whose response was handed out is one of them
abbrev pub kept_executions : Origin → List Life → List Execution
kept_executions = executions_in (λ life. life.kept)

-- what it is answered with
abbrev pub reply_to : Execution → List ℕ
reply_to x = answer x.origin x.history x.bytes x.nonce

-- It is answered with code 0.
abbrev pub WasAccepted : Execution → Type 0
WasAccepted x = IsAccepted x.origin x.history x.bytes x.nonce

-- It is an accepted increment of this index.
abbrev pub Increments : Execution → ℕ → Type 0
Increments x i = (d : Done) × (by : NvAuthHandle)
    × (outcome (present x.origin x.history) x.bytes x.nonce ≡ Ok d) × (d.command.body ≡ NvIncrement by i)

-- the value that the index has after it
abbrev pub value_after : Execution → ℕ → Option ℕ
value_after x = value_at x.origin (next x.origin x.history x.bytes x.nonce)

-- ---- premises

-- The nonces handed in over all lives are pairwise different in their first 16 bytes.
abbrev pub NoncesDifferOver : List Life → Type 0
NoncesDifferOver lives = NoncesDiffer (flat_map executed lives)

-- the texts of all lives, by those of a run
abbrev pub texts_over : (Origin → History → List Stimulus → List Keyed) → Origin → List Life → List Keyed
texts_over texts o [] = []
texts_over texts o (life ∷ lives) = texts o [] (executed life) ++ texts_over texts (origin_after o life) lives

-- No two different texts whose HMACs are checked in all lives have the same HMAC.
abbrev pub NoCollisionOver : Origin → List Life → Type 0
NoCollisionOver o lives = AreFree (texts_over texts_checked o lives)

-- ---- callers and lives

-- Each buffer that is accepted in one of the lives, and whose session is an HMAC or policy session with a nonempty
-- HMAC, is sealed by one of these.
abbrev pub AreSealedOver : Origin → List Seal → List Life → Type 0
AreSealedOver o seals lives =
    (x : Execution) → IsAmong x (executions o lives) → WasAccepted x → HasSessionMac x.bytes → IsSealedBy seals x.bytes

-- A device's lives from this origin: their accepted commands with session HMACs are sealed by callers, the nonceCallers
-- are pairwise different, and no two different texts have the same HMAC, of those that are checked in all lives, those
-- of all replies, and those that opening checks.
pub record IsOfCallersOver (o : Origin) (seals : List Seal) (xs : List Opening) (lives : List Life) : Type 0 where
  pub sealed : AreSealedOver o seals lives
  pub differ : SealsDiffer seals
  pub no_collision : AreFree
      (texts_over texts_checked o lives ++ (texts_over texts_replied o lives ++ texts_opened xs))
