-- What keeps the program from an answer, by each task (this profile).
use Rattle.std.specs.Prelude.{◌≡◌, ◌⊎◌, ◌++◌, ℕ, Bool, true, false, List, [], ◌∷◌, Option, Some, None}
use Rattle.std.specs.Prelude.{Ok, Err}
use Rattle.std.specs.Borrow.{Bor}
use Rattle.tpm_output.specs.declared.fault.ToolFault.TheVariants.{Memory, Read, Write, InputTooLong}
use Rattle.tpm_args.specs.declared.task.Task.TheVariants.{ShowCapture, ShowPackets, ShowNv, Run}
use Rattle.tpm_args.specs.declared.task.Task.TheVariants.{Check, CheckListed, Events, EventsHeader}
use Rattle.tpm_args.specs.declared.task.Task.{Task}
use Rattle.tpm_check.specs.Check.{ReadsTooMuchIfList}
use Rattle.tpm_show.specs.Capture.{ReadsTooMuchCapture}
use Rattle.tpm_script.specs.Script.{ReadsTooMuch}
use Rattle.tpm_program.specs.declared.cause.Cause.TheVariants.{Directory, Other}
use Rattle.tpm_program.specs.declared.cause.Cause.{Cause}
use Rattle.tpm_program.specs.declared.fault.Fault.TheVariants.{File, Tool}
use Rattle.tpm_program.specs.declared.fault.Fault.{Fault}
use Rattle.tpm_program.specs.Offered.{Offered, OfFileIf, OfPlace}

-- ---- files

-- the path, where there is one
abbrev pub path_if : Option (Bor (List ℕ)) → List (List ℕ)
path_if None = []
path_if (Some path) = path.now ∷ []

-- the paths of the files that a task opens, in this order
abbrev pub files_of : Task → List (List ℕ)
files_of (ShowCapture c) = path_if c.file
files_of (ShowPackets p) = p.file.now ∷ []
files_of (ShowNv file) = file.now ∷ []
files_of (Check c) =
    c.files.log.now ∷ (path_if c.files.registers ++ (path_if c.files.attest ++ path_if c.files.allow))
files_of (CheckListed l) = l.log.now ∷ []
files_of (EventsHeader l) = l.log.now ∷ []
files_of (Events e) = e.log.now ∷ path_if e.attest
files_of _ = []

-- why no more could be read: a folder has no bytes
abbrev pub unread_cause : (is_folder : Bool) → Cause
unread_cause true = Directory
unread_cause false = Other

-- The file at this path is opened.
abbrev pub IsOpened : Offered → (path : List ℕ) → Type 0
IsOpened offered path = (coming : Option (List ℕ)) × offered.opens path (Ok coming)

-- A read of it failed.
abbrev pub ReadFails : Offered → (path : List ℕ) → Cause → Type 0
ReadFails offered path cause =
    offered.fails × (folder : Bool) × offered.is_folder path folder × (cause ≡ unread_cause folder)

-- The file at this path is not opened, or a read of it failed.
abbrev pub IsUnread : Offered → (path : List ℕ) → Cause → Type 0
IsUnread offered path cause =
    offered.opens path (Err cause) ⊎ (IsOpened offered path × ReadFails offered path cause)

-- One of these files is not read, and those before it are opened.
abbrev pub IsUnreadOf : Offered → List (List ℕ) → (path : List ℕ) → Cause → Type 0
IsUnreadOf offered [] path cause = ⊥
IsUnreadOf offered (file ∷ files) path cause =
    ((path ≡ file) × IsUnread offered file cause) ⊎ (IsOpened offered file × IsUnreadOf offered files path cause)

-- ---- standard input

-- The task reads standard input.
abbrev pub ReadsInput : Task → Type 0
ReadsInput (ShowCapture c) = c.file ≡ None
ReadsInput (Run owner greatest) = Unit {0}
ReadsInput _ = ⊥

-- ---- more than is taken

-- The capture, the script or the list of registers has more bytes than are taken.
abbrev pub IsTooLong : Offered → Task → Type 0
IsTooLong offered (ShowCapture c) =
    OfPlace offered c.file (λ capture. (rest : Option (List ℕ)) × ReadsTooMuchCapture capture rest)
IsTooLong offered (Run owner greatest) =
    OfPlace offered None (λ input. (rest : Option (List ℕ)) × ReadsTooMuch input rest)
IsTooLong offered (Check c) =
    IsOpened offered c.files.log.now
    × OfFileIf offered c.files.registers (λ list. (rest : Option (Option (List ℕ))) × ReadsTooMuchIfList list rest)
IsTooLong offered _ = ⊥

-- ---- each task

-- A file of the task is not read, a read of standard input failed, an input is too long, memory is wanted, or the
-- answer isn't written.
abbrev pub Fails : Offered → Task → Fault → Type 0
Fails offered task (File path cause) = IsUnreadOf offered (files_of task) path.now cause
Fails offered task (Tool Read) = ReadsInput task × offered.fails
Fails offered task (Tool InputTooLong) = IsTooLong offered task
Fails offered task (Tool Memory) = Unit {0}
Fails offered task (Tool (Write failed)) = Unit {0}
