-- What the checks look at.
use Rattle.std.specs.Prelude.{ℕ, Bool, List, Option}
use Rattle.tpm_model.specs.Steps.{History, Origin, started}
use Rattle.tpm_pcr.specs.Registers.{Registers, registers_after}
use Rattle.tpm_model.specs.Changes.{changes}
use Rattle.tpm_model.specs.Sessions.{Session, sessions_at}
use Rattle.tpm_model.specs.Counters.{NvMemory, nv_memory}

-- All that an answer depends on, beside the buffer and the nonce.
pub record Present : Type 0 where
  pub started : Bool
  pub owner : List ℕ
  pub registers : Registers
  -- by slot
  pub sessions : List (Option Session)
  pub nv : NvMemory

-- what is there at a history
abbrev pub present : Origin → History → Present
present o h = record {
  started = started h;
  owner = o.owner;
  registers = registers_after (changes h);
  sessions = sessions_at o h;
  nv = nv_memory o h;
}
