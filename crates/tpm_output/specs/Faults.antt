-- What keeps a subcommand from its answer.
use Rattle.std.specs.Prelude.{Result, Ok, Err}
use Rattle.tpm_output.specs.declared.fault.ToolFault.TheVariants.{Memory, Read, Write, InputTooLong}
use Rattle.tpm_output.specs.declared.fault.ToolFault.{ToolFault}

-- an answer, or want of memory, or a write that failed
abbrev pub FailsByMemoryOrWrite : {X : Type 0} → Result X ToolFault → Type 0
FailsByMemoryOrWrite (Ok x) = Unit {0}
FailsByMemoryOrWrite (Err Memory) = Unit {0}
FailsByMemoryOrWrite (Err (Write failed)) = Unit {0}
FailsByMemoryOrWrite (Err Read) = ⊥
FailsByMemoryOrWrite (Err InputTooLong) = ⊥
