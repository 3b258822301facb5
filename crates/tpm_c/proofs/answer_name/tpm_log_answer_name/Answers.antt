use Rattle.std.proofs.Common.{length, ℕ, List, Option, Some, refl, subst}
use Rattle.tpm_c.specs.Written.{in_room, IsIn}
use Rattle.tpm_c.proofs.answer_name.tpm_log_answer_name.Goals as goal

pub returns-in-Some : goal.returns-in-Some
returns-in-Some c =
    let old = c.args.out.now in
    let new = c.put_in_room.new.out in
    let count = c.put_in_room.result in
    subst (λ (o : Option (List ℕ)). IsIn (in_room (length old) o) old new count) c.in-Some.ensures
    (subst (λ (text : List ℕ). IsIn (in_room (length old) (Some text)) old new count) c.as_bytes.ensures.value c.put_in_room.ensures)

pub returns-in-None : goal.returns-in-None
returns-in-None c =
    let old = c.args.out.now in
    subst (λ (o : Option (List ℕ)). IsIn (in_room (length old) o) old old 0) c.in-None.ensures
    (record { bytes = refl; count_is = refl })
