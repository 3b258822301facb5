use Rattle.std.proofs.Common.{◌≡◌, ◌∙◌, Err, Ok, arith, refl}
use Rattle.tpm_lists.specs.AllowLines.{allowed_in}
use Rattle.tpm_lists.specs.inner.ListReading.{ReadsOn}
use Rattle.tpm_lists.proofs.AllowReading.{to_end}
use Rattle.tpm_lists.proofs.ListReading.{all_read, is_said}
use Rattle.tpm_lists.proofs.allow_file.ListReader.end.Goals as goal

pub returns-then-self : goal.returns-then-self
returns-then-self c = λ bytes counted read.
    let on : ReadsOn c.args.self.ended c.read.new.self c.args.self.held.items = rw c.as_slice.ensures.value at c.in_ok-read.ensures in
    let is : allowed_in bytes ≡ Err c.read.new.self.number =
    all_read bytes c.args.self read c.read.new.self on ∙ rw c.if-self.true refl in
    is_said bytes (Err c.read.new.self.number) (omega (arith, counted, c.if-given-gt-MOST_LIST.false)) is

pub returns : goal.returns
returns c = λ bytes counted read.
    let on : ReadsOn c.args.self.ended c.read.new.self c.args.self.held.items = rw c.as_slice.ensures.value at c.in_ok-read.ensures in
    let is : allowed_in bytes ≡ Ok c.read.new.self.found.items =
    all_read bytes c.args.self read c.read.new.self on ∙ rw c.if-self.false (to_end c.read.new.self.found.items) in
    is_said bytes (Ok c.read.new.self.found.items) (omega (arith, counted, c.if-given-gt-MOST_LIST.false)) is
