-- `tpm_device_counter` meets its contract: the device is lent to `counter`, which leaves it as it was.
use Rattle.tpm_c.proofs.Steps.{◌≡◌, refl, sym, w32, w64, full_share, named, uint_vals, uint_Tells, mut_Tells, id⊢, ◌$◌}
use Rattle.tpm_c.proofs.Steps.{ !, done, addr, stop, of_opd, and_then, no_more, returns, enter, alloc_all, pass_all}
use Rattle.tpm_c.proofs.Steps.{free_all, look_at, through, get, sets, lands_as, uint_Lawful, mut_vals, lies_at}
use Rattle.tpm_c.proofs.Steps.{triple_of}
use Rattle.std.proofs.Common.{subst}
use Rattle.tpm_c.proofs.Lending.{Spelled, points, is_one_and, lent}
use Rattle.tpm_c.proofs.kept.counter.Met.{met}
use Rattle.tpm_c.specs.KeptDevices.{IsCounterTold}
use Rattle.tpm_device.specs.declared.device.Device.{Device}
use Rattle.tpm_device.specs.contracts.device.Device.{the_row}
use Rattle.tpm_device.specs.Stands.{Stands}
use Rattle.tpm_model.specs.Steps.{History, Origin}
use Rattle.tpm_c.specs.contracts.kept.TpmCounter.{the_row as told}
use Rattle.tpm_c.specs.contracts.kept.counter as of
use Rattle.tpm_c.specs.contracts.kept.tpm_device_counter as f
use Rattle.tpm_c.proofs.kept.tpm_device_counter.Statement as stated
use Rattle.tpm_c.proofs.kept.tpm_device_counter.Code as code

pub tpm_device_counter_spec : {M : Type 1} → stated.statement M
tpm_device_counter_spec 𝓤 𝓛 𝓜 𝓡 wired =
    let c = f.clauses 𝓛 𝓜.mem 𝓡.returns in let sp : Spelled f.ended = λ κs. (uint_vals w64, (mut_vals, tt)) in
    points 𝓛 𝓜 𝓡 f.ended c sp f.Key.name code.function (code.unfolded 𝓤 𝓛.H 𝓜 𝓡 wired) (λ κs. (uint_Tells w64, (mut_Tells (named 0) κs.0 told, tt)))
    (λ p w. (d : Device) × Stands w.4.0 w.4.1 d) (λ p w x. lies_at the_row full_share p x.0) (λ w x. id⊢ 𝓤 _) (λ p w. id⊢ 𝓤 _) (λ b o w are d.
    let a = w.3 in let at = w.4 in
    enter ! _ _ _ _ _ $ alloc_all ! (λ l. pass_all ! refl ((tt, tt), ((tt, record { fits = are.0.1 }), ((tt, tt), tt))) $
    -- &mut *(place as *mut Device), and the view again
    sets ! (of_opd ! (get ! refl)) refl (tt, tt) $ sets ! (addr ! (through ! refl (stop !))) refl (tt, tt) $
    sets ! (addr ! (through ! refl (stop !))) refl (tt, tt) $
    lent 𝓛 𝓜 𝓡 f.ended c sp ! the_row d.0 b o w
    (λ r new us. (new ≡ d.0)
    × ((o : Origin) (h : History) → Stands o h d.0 → IsCounterTold o h a.0 (record { answer = r; old = a.1.0.now; new = us.1.0 })))
    (triple_of 𝓛 of.signature (of.spec 𝓛 𝓜.mem 𝓡.returns)) (met 𝓤 𝓛 𝓜 𝓡 (code.calls-tpm_c::kept::counter 𝓡.env wired))
    (λ κ x vals. (((κ, w.0), (full_share, w.1), tt, (x, a), (mut_vals x, vals)), tt)) (λ κ δ. id⊢ 𝓤 _) (λ κ δ v. id⊢ 𝓤 _)
    (λ r new us e. is_one_and 𝓛 the_row b o (λ (z : (d : Device) × Stands at.0 at.1 d). z.0)
    (new, subst (Stands at.0 at.1) (sym e.0) d.1) (e.1 at.0 at.1 d.1))
    (λ κ δ. and_then ! (get ! refl) (and_then ! (get ! refl) (and_then ! (get ! refl) (no_more !))))
    (λ v r is. lands_as ! refl refl ((uint_Lawful 𝓛 w32).typed r _ is).0 $ returns ! (look_at ! 0 refl) $ free_all ! refl $ done !)))
