-- What keeps one file from being read, and which one it is.
use Rattle.std.specs.Prelude.{◌≡◌, ℕ, zero, List, Option, Some, None, Err}
use Rattle.std.specs.Borrow.{Bor}
use Rattle.tpm_output.specs.declared.fault.ToolFault.TheVariants.{Memory, Read, Write}
use Rattle.tpm_output.specs.declared.fault.ToolFault.{ToolFault}
use Rattle.tpm_program.specs.declared.fault.Fault.TheVariants.{File, Tool}
use Rattle.tpm_program.specs.declared.fault.Fault.{Fault}
use Rattle.tpm_program.specs.Offered.{Offered}
use Rattle.tpm_program.specs.Fails.{ReadFails, IsUnread}

-- ---- one file

-- It is not opened.
abbrev pub IsNotOpened : Offered → (path : List ℕ) → Fault → Type 0
IsNotOpened offered path (File at cause) = (at.now ≡ path) × offered.opens path (Err cause)
IsNotOpened offered path (Tool fault) = ⊥

-- There is a path, and the file at it is not opened.
abbrev pub IsNotOpenedIf : Offered → (path : Option (Bor (List ℕ))) → Fault → Type 0
IsNotOpenedIf offered None fault = ⊥
IsNotOpenedIf offered (Some path) fault = IsNotOpened offered path.now fault

-- A read of it failed.
abbrev pub IsNotRead : Offered → (path : List ℕ) → Fault → Type 0
IsNotRead offered path (File at cause) = (at.now ≡ path) × ReadFails offered path cause
IsNotRead offered path (Tool fault) = ⊥

-- where a subcommand has no answer for this fault, and a read that failed was one of this file
abbrev pub IsOfReading : Offered → (path : List ℕ) → ToolFault → Fault → Type 0
IsOfReading offered path Read fault = IsNotRead offered path fault
IsOfReading offered path other fault = fault ≡ Tool other

-- It is not opened or not read, or memory is wanted; `Write` is what any subcommand may answer.
abbrev pub FailsAt : Offered → (path : List ℕ) → Fault → Type 0
FailsAt offered path (File at cause) = (at.now ≡ path) × IsUnread offered path cause
FailsAt offered path (Tool Memory) = Unit {0}
FailsAt offered path (Tool (Write failed)) = Unit {0}
FailsAt offered path (Tool _) = ⊥

-- There is a path, and the file at it is not opened or not read, or memory is wanted, or the answer isn't written.
abbrev pub FailsAtIf : Offered → (path : Option (Bor (List ℕ))) → Fault → Type 0
FailsAtIf offered None fault = ⊥
FailsAtIf offered (Some path) fault = FailsAt offered path.now fault

-- ---- a log and a list that are opened

-- which of them was read last: the list is read behind the log, where no read of that failed
abbrev pub read_last : (failures : ℕ) → (log : List ℕ) → (list : Option (Bor (List ℕ))) → List ℕ
read_last zero log (Some list) = list.now
read_last _ log list = log
