use Rattle.std.proofs.Common.{codes, refl}
use Rattle.std.proofs.lemmas.Result.{IfOk-weaker}
use Rattle.tpm_show.specs.Capture.{untold}
use Rattle.tpm_show.proofs.capture_frames.tell_rest.Goals as goal

pub returns-in-Reply-Unknown : goal.returns-in-Reply-Unknown
returns-in-Reply-Unknown g c = rw (c.in-Reply-Unknown.is-0, c.in-Reply-Unknown.is-1) (IfOk-weaker c.tell_untold.result _ _
    (λ status told. (untold (codes "its command is not known"), (told.0, refl), told.1)) c.tell_untold.ensures)

pub returns-in-Reply-Nothing : goal.returns-in-Reply-Nothing
returns-in-Reply-Nothing g c = rw (c.in-Reply-Nothing.is-0, c.in-Reply-Nothing.is-1) (IfOk-weaker c.tell_untold-in-Reply-Nothing.result _ _
    (λ status told. (untold (codes "no command is before it"), (told.0, refl), told.1)) c.tell_untold-in-Reply-Nothing.ensures)
