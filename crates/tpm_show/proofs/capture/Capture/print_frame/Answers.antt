use Rattle.std.proofs.Common.{◌≡◌, [], ℕ, List, rules}
use Rattle.std.proofs.lemmas.Result.{on_ok_weaker}
use Rattle.std.specs.Prelude.{string_bytes}
use Rattle.tpm_show.proofs.capture.Capture.print_frame.Goals as goal

pub returns-clause-ok : goal.returns-clause-ok
returns-clause-ok g c =
    let f = c.in_ok-tell_frame.ensures in
    let none : string_bytes c.new-text.result ≡ [] = search rules in
    on_ok_weaker c.write.result (λ added. record {
      status = f.status;
      text = f.text;
      tells = f.tells;
      added = rw (f.added, none) at added;
      place = f.place;
      all = f.all;
    }) c.write.ensures.ok
