use Rattle.std.proofs.Common.{◌≡◌, ◌++◌, List, Option, codes, flat_map, refl, subst}
use Rattle.std.proofs.lemmas.Result.{IfOk-weaker}
use Rattle.std.specs.Prelude.{IfOk}
use Rattle.tpm_output.specs.declared.status.Status.{Status}
use Rattle.tpm_show.specs.Capture.{TellsOther, untold}
use Rattle.tpm_show.specs.CommandNames.{Listed}
use Rattle.tpm_show.specs.Pieces.{Piece}
use Rattle.tpm_show.proofs.capture_frames.tell_other_reply.Goals as goal

pub returns-in-None : goal.returns-in-None
returns-in-None g c =
    let told = g.T.Teller.told in
    subst (λ (o : Option Listed). IfOk c.tell_untold.result (λ (status : Status). (pieces : List Piece)
    × TellsOther o c.args.bytes.now status pieces
    × (told c.tell_untold.new.teller ≡ told c.args.teller.now ++ flat_map g.T.Teller.marks pieces)))
    c.in-None.ensures
    (IfOk-weaker c.tell_untold.result _ _ (λ status t. (untold (codes "its command is not known"), (t.0, refl), t.1)) c.tell_untold.ensures)
