use Rattle.std.proofs.Common.{length, refl, subst, sym}
use Rattle.tpm_event_data.specs.LoadOptions.{as_option}
use Rattle.tpm_c.specs.LoadOptions.{option_view, IsOptionTold}
use Rattle.tpm_c.proofs.LoadOptions.{option_views}
use Rattle.tpm_c.proofs.load_option.tpm_log_load_option.Goals as goal

pub option_view-requires : goal.option_view-requires
option_view-requires c = (option_views c.args.bytes.now (as_option c.in-Ok.option) (sym c.in-Ok.ensures)).1

pub returns-in-Ok : goal.returns-in-Ok
returns-in-Ok c =
    let bytes = c.args.bytes.now in
    let o = as_option c.in-Ok.option in
    rw c.option_view.ensures
    (subst (λ r. IsOptionTold r bytes (record { answer = 94; old = c.args.view.now; new = option_view (length bytes) o })) c.in-Ok.ensures
    (refl, (option_views bytes o (sym c.in-Ok.ensures)).0, refl))
