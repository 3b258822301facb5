-- How the program ends: its status, and what it writes on each stream (this profile).
use Rattle.std.specs.Prelude.{◌≡◌, ◌⊎◌, ◌++◌, ℕ, List, [], ◌∷◌, OnOk, Option, Result, codes, string_bytes}
use Rattle.std.specs.Io.KnownBytes.{Appends}
use Rattle.std.specs.declared.io.ErrorKind.TheVariants.{OutOfMemory}
use Rattle.std.specs.declared.io.ErrorKind.{ErrorKind}
use Rattle.clap.specs.declared.error.kind.ErrorKind.TheVariants.{InvalidValue}
use Rattle.clap.specs.Words.{Text, subcommand_of}
use Rattle.tpm_output.specs.declared.status.Status.{Status}
use Rattle.tpm_output.specs.declared.fault.ToolFault.TheVariants as faults
use Rattle.tpm_output.specs.Status.{status_number}
use Rattle.tpm_output.specs.declared.written.WriteFailed.{WriteFailed}
use Rattle.tpm_args.specs.declared.stop.Stop.TheVariants.{Help, Usage, Memory}
use Rattle.tpm_args.specs.declared.stop.Stop.{Stop}
use Rattle.tpm_args.specs.declared.task.Task.TheVariants.{Build}
use Rattle.tpm_args.specs.declared.task.Task.{Task}
use Rattle.tpm_show.specs.Build.{BuildTells}
use Rattle.tpm_words.specs.Program.{program_app}
use Rattle.tpm_args.specs.Stop.{Refuses, StopsFor}
use Rattle.tpm_args.specs.Task.{Asks}
use Rattle.tpm_program.specs.declared.ended.Ended.{Ended}
use Rattle.tpm_program.specs.declared.fault.Fault.TheVariants.{Tool}
use Rattle.tpm_program.specs.declared.fault.Fault.{Fault}
use Rattle.tpm_program.specs.FaultText.{fault_text}
use Rattle.tpm_program.specs.Fails.{Fails}
use Rattle.tpm_program.specs.Offered.{Offered}
use Rattle.tpm_program.specs.Performs.{Performs}

-- ---- streams

-- what standard output and standard error hold before a run, and behind it
pub record Streams : Type 0 where
  pub out : Option (List ℕ)
  pub out-behind : Option (List ℕ)
  pub errors : Option (List ℕ)
  pub errors-behind : Option (List ℕ)

-- The text is on standard output, and nothing is on standard error.
abbrev pub Prints : Streams → List ℕ → Type 0
Prints s text = Appends s.out s.out-behind text × (s.errors-behind ≡ s.errors)

-- whether standard error took what was to be told there
abbrev pub Written : Type 0
Written = Result (Unit {0}) WriteFailed

-- The text is on standard error, where no write there failed.
abbrev pub Tells : Streams → Written → List ℕ → Type 0
Tells s written text = OnOk written (Appends s.errors s.errors-behind text)

-- the line of standard error that tells a fault
abbrev pub fault_line : Fault → List ℕ
fault_line fault = fault_text fault ++ codes "\n"

-- ---- words that ask for a task

-- These words ask for this task.
abbrev pub AskFor : List Text → Task → Type 0
AskFor words task = Asks (subcommand_of program_app words) task

-- what is told beside the answer of a task: what `build` refuses, and else nothing
abbrev pub Remarks : Task → List ℕ → Type 0
Remarks (Build name handles sessions parameters) remark =
    BuildTells (record {
      code = name;
      handles = handles.now;
      sessions = sessions.now;
      parameters = parameters.now;
    }) remark
Remarks _ remark = remark ≡ []

-- Nothing is on standard error, or the remark, where no write there failed.
abbrev pub IsRemarked : (remark : List ℕ) → Written → (old new : Option (List ℕ)) → Type 0
IsRemarked [] written old new = new ≡ old
IsRemarked (first ∷ others) written old new = OnOk written (Appends old new (first ∷ others))

-- The task has an answer, which is on standard output, with its status and what is told beside it; or it fails, and the
-- status is 3.
abbrev pub EndsFor : Offered → Task → Streams → Ended → Type 0
EndsFor offered task s ended =
    ((status : Status) × (text : List ℕ) × (remark : List ℕ) × Performs offered task status text × Remarks task remark
    × (ended.status ≡ status_number status)
    × Appends s.out s.out-behind text × IsRemarked remark ended.written s.errors s.errors-behind)
    ⊎ ((fault : Fault) × Fails offered task fault × (ended.status ≡ 3) × Tells s ended.written (fault_line fault))

-- ---- words that ask for none

-- Help is on standard output, and the status is 0, or 3 where a write there failed; a usage fault is on standard error,
-- and the status is 2; and where memory is wanted it is 3.
abbrev pub EndsBy : Stop → Streams → Ended → Type 0
EndsBy (Help text) s ended = ((ended.status ≡ 0) × Prints s (string_bytes text))
    ⊎ ((failed : WriteFailed) × (ended.status ≡ 3) × Tells s ended.written (fault_line (Tool (faults.Write failed))))
EndsBy (Usage text) s ended = (ended.status ≡ 2) × (s.out-behind ≡ s.out) × Tells s ended.written (string_bytes text)
EndsBy Memory s ended =
    (ended.status ≡ 3) × (s.out-behind ≡ s.out) × Tells s ended.written (fault_line (Tool faults.Memory))

-- ---- any words

-- A run with these words ends as the task does that they ask for, or by why they are refused.
abbrev pub Ends : Offered → List Text → Streams → Ended → Type 0
Ends offered words s ended =
    ((task : Task) × AskFor words task × EndsFor offered task s ended)
    ⊎ ((stop : Stop) × Refuses words stop × EndsBy stop s ended)

-- ---- words that can't be read

-- memory is wanted, or they are not text
abbrev pub EndsUnread : ErrorKind → Streams → Ended → Type 0
EndsUnread OutOfMemory s ended = EndsBy Memory s ended
EndsUnread kind s ended = (stop : Stop) × StopsFor InvalidValue stop × EndsBy stop s ended
