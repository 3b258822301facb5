-- What becomes of the parts of a command, as the program has it.
use Rattle.std.specs.Prelude.{◌≡◌, string_bytes}
use Rattle.tpm_show.specs.declared.built.BuiltText.{BuiltText}
use Rattle.tpm_show.specs.Build.{Outcome, remark_of, status_of, text_of}

-- the status, the text and the remark of it
abbrev pub TextOf : BuiltText → Outcome → Type 0
TextOf b o = (b.built.status ≡ status_of o) × (string_bytes b.text ≡ text_of o)
    × (string_bytes b.built.remark ≡ remark_of o)
