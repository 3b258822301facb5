-- What is told, in the form that was asked for (this profile).
use Rattle.std.specs.Prelude.{ℕ, List}
use Rattle.tpm_output.specs.declared.form.Form.TheVariants.{Lines, Json}
use Rattle.tpm_output.specs.declared.form.Form.{Form}
use Rattle.tpm_output.specs.Fields.{as_line}
use Rattle.tpm_output.specs.Json.{as_object}
use Rattle.tpm_output.specs.Marks.{Mark}

-- these lines, or one object
abbrev pub told_as : Form → (lines : List ℕ) → List Mark → List ℕ
told_as Lines lines marks = lines
told_as Json lines marks = as_object marks

-- a line of words, or one object
abbrev pub told_by : Form → (words members : List Mark) → List ℕ
told_by form words members = told_as form (as_line words) members
