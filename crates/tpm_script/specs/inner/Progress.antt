-- What comes of a line of a script.
use Rattle.std.specs.Prelude.{◌≡◌, ◌≢◌, ℕ, ◌+◌, true, List, [], ◌∷◌, Option, Some, None}
use Rattle.tpm_model.specs.Steps.{History, Origin}
use Rattle.tpm_model.specs.Runs.{after}
use Rattle.tpm_device.specs.declared.device.Device.{Device}
use Rattle.tpm_device.specs.Stands.{Stands}
use Rattle.tpm_script.specs.declared.lines.ScriptLine.{ScriptLine as RustLine}
use Rattle.tpm_script.specs.declared.script.Run.{Run}
use Rattle.tpm_script.specs.Script.{ScriptLine, Blank, Power, Command, NotHexadecimal, Script, stimuli_from, line_of}
use Rattle.tpm_script.specs.Script.{most_digits, refused_line, script_text}
use Rattle.tpm_script.specs.declared.lines.ScriptLine.TheVariants as rust
use Rattle.tpm_output.specs.LineSinks.{Limits, LineStep}

-- what was read of a line
abbrev pub read_as : RustLine → ScriptLine
read_as rust.Blank = Blank
read_as rust.Power = Power
read_as (rust.Command bytes) = Command bytes.items
read_as rust.NotHexadecimal = NotHexadecimal

-- ---- the device

-- The device stands at the history.
unfoldable pub StandsAt : Origin → History → Device → Type 0
StandsAt o h d = Stands o h d

-- The device went through the script, with this text.
abbrev pub GoesThrough : Script → (old new : Device) → (text : List ℕ) → Type 0
GoesThrough s old new text = (o : Origin) (h : History) → StandsAt o h old → record {
  stands : StandsAt o (after o h s.stimuli) new;
  text : text ≡ script_text o h s;
}

-- ---- a line

-- Every byte of a line counts, and one of more digits than a buffer has is refused.
abbrev pub digits : Limits
digits = record { counts = λ _. true; most = most_digits; long_ends = true }

-- the number of the command behind this line
abbrev pub next_command : ℕ → ScriptLine → ℕ
next_command k (Command bytes) = k + 1
next_command k _ = k

-- What was read of the line was run, up to the other script, or it is refused.
abbrev pub RunsTo : ScriptLine → LineStep Run → Option Run → Type 0
RunsTo l step (Some new) = record {
  accepted : l ≢ NotHexadecimal;
  performs : GoesThrough (record { stimuli = stimuli_from step.old.command (l ∷ []); refused = None })
      step.old.device new.device step.text;
  command : new.command ≡ next_command step.old.command l;
}
RunsTo l step None = (l ≡ NotHexadecimal) × (step.text ≡ refused_line step.number)

abbrev pub Runs : LineStep Run → Type 0
Runs step = RunsTo (line_of step.line) step step.new
