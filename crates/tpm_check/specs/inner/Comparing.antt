-- What comes of a line of a list of registers.
use Rattle.std.specs.Prelude.{◌≡◌, ℕ, true, List, [], ◌++◌, Option, Some, None}
use Rattle.tpm_check.specs.declared.compared.Comparing.{Comparing}
use Rattle.tpm_lists.specs.ListLines.{Stated, ListLine, States, Heads, Passes, Wrong, line_under, most_line}
use Rattle.tpm_check.specs.Compare.{Beside, Comparison, is_value, compared_text, no_register_text, not_a_register_text}
use Rattle.tpm_check.specs.Compare.{status_if}
use Rattle.tpm_check.specs.inner.Told.{told}
use Rattle.tpm_output.specs.Status.{both}
use Rattle.tpm_output.specs.LineSinks.{Limits, LineStep}

-- Every byte of a line counts, and one that is too long is wrong.
abbrev pub list_line : Limits
list_line = record { counts = λ _. true; most = most_line; long_ends = true }

-- what is printed of a line that states this, and how the comparison stands behind it
abbrev pub stated_text : Beside → Stated → List ℕ
stated_text b s = compared_text b.form (is_value b.value s) s.bank s.register

abbrev pub stated_behind : Comparing → Stated → Comparing
stated_behind c s = record c {
  status = both c.status (status_if (is_value (told c.found.now).value s));
  any = true;
}

-- what is printed of the line of this number, which says this, and how the comparison stands behind it, where it is
-- not wrong
abbrev pub line_text : Beside → (number : ℕ) → ListLine → List ℕ
line_text b n (States s) = stated_text b s
line_text b n (Heads heading) = []
line_text b n Passes = []
line_text b n Wrong = not_a_register_text b.form n

abbrev pub line_behind : Comparing → ListLine → Option Comparing
line_behind c (States s) = Some (stated_behind c s)
line_behind c (Heads heading) = Some (record c { heading = heading })
line_behind c Passes = Some c
line_behind c Wrong = None

-- So a line is compared.
abbrev pub Compares : LineStep Comparing → Type 0
Compares step = let says = line_under step.old.heading step.line in
    (step.new ≡ line_behind step.old says) × (step.text ≡ line_text (told step.old.found.now) step.number says)

-- what is printed of a whole list whose lines leave this, and of which this was printed
abbrev pub finished : Option Comparing → (text : List ℕ) → Comparison
finished None text = record { text = text; status = None }
finished (Some c) text = record {
  text = text ++ no_register_text c.found.now.form c.any;
  status = Some (both c.status (status_if c.any));
}
