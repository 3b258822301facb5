use Rattle.std.proofs.lemmas.Result.{on_ok_weaker}
use Rattle.tpm_show.proofs.packets.tell_entry.Goals as goal

pub returns-in-Command : goal.returns-in-Command
returns-in-Command c = rw c.in-Command.is (on_ok_weaker c.tell_frame.result (λ f. record {
  status = f.status;
  text = f.text;
  tells = f.tells;
  added = f.added;
  place = f.place;
  all = f.all;
}) (rw c.as_slice.ensures.value at c.tell_frame.ensures))
