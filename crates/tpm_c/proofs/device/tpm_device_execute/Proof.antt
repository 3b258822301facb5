-- `tpm_device_execute` meets its contract: the device is lent to `execute`, with the room.
use Rattle.tpm_c.proofs.Steps.{length, refl, w64, full_share, named, id⊢, ◌$◌, !, done, addr, stop, of_opd, and_then}
use Rattle.tpm_c.proofs.Steps.{no_more, returns, enter, fld, hop, from, alloc_all, pass_all, free_all, look_at, through}
use Rattle.tpm_c.proofs.Steps.{get, sets, lands_as, look_in_at, get_in, uint_Lawful, u8, shr_vals, shr_Tells, mut_vals}
use Rattle.tpm_c.proofs.Steps.{shr_slice_vals, shr_slice_Tells, mut_slice_vals, mut_slice_Tells, lies_at, triple_of}
use Rattle.tpm_c.proofs.Steps.{whole, sub, agg, Array}
use Rattle.tpm_c.proofs.Lending.{Spelled, points, is_one_and, lent}
use Rattle.tpm_c.proofs.Replies.{is_answered}
use Rattle.tpm_c.proofs.device.execute.Met.{met}
use Rattle.tpm_c.specs.Devices.{Input, after, written}
use Rattle.tpm_c.specs.Written.{IsIn}
use Rattle.tpm_device.specs.declared.device.Device.{Device}
use Rattle.tpm_device.specs.contracts.device.Device.{the_row}
use Rattle.tpm_device.specs.Stands.{Stands}
use Rattle.tpm_model.specs.Steps.{History, Origin}
use Rattle.tpm_c.specs.contracts.device.execute as of
use Rattle.tpm_c.specs.contracts.device.tpm_device_execute as f
use Rattle.tpm_c.proofs.device.tpm_device_execute.Statement as stated
use Rattle.tpm_c.proofs.device.tpm_device_execute.Code as code

pub tpm_device_execute_spec : {M : Type 1} → stated.statement M
tpm_device_execute_spec 𝓤 𝓛 𝓜 𝓡 wired =
    let c = f.clauses 𝓛 𝓜.mem 𝓡.returns in let sp : Spelled f.ended = λ κs. (shr_slice_vals, (shr_vals, (mut_slice_vals, tt))) in
    points 𝓛 𝓜 𝓡 f.ended c sp f.Key.name code.function (code.unfolded 𝓤 𝓛.H 𝓜 𝓡 wired) (λ κs. (
      shr_slice_Tells
          (named 0) κs.0 u8,
      (shr_Tells (named 1) κs.1.0 (Array u8 64), (mut_slice_Tells (named 2) κs.1.1.0 u8, tt)),
    ))
    (λ p w. (d : Device) × Stands w.4.0 w.4.1 d) (λ p w x. lies_at the_row full_share p x.0) (λ w x. id⊢ 𝓤 _) (λ p w. id⊢ 𝓤 _) (λ b o w are d.
    let a = w.3 in let at = w.4 in let input : Input = record { bytes = a.0.now; nonce = a.1.0.now } in let out = a.1.1.0.now in
    enter ! _ _ _ _ _ $ alloc_all ! (λ l. pass_all ! refl (
      (tt, tt),
      (
        (tt, (tt, (record { fits = are.0.0.1.0 }, tt))),
        ((tt, tt), ((tt, (tt, (record { fits = are.1.1.0.0.1.0 }, tt))), tt)),
      ),
    ) $
    -- &mut *(place as *mut Device), and the slice again
    sets ! (of_opd ! (get ! refl)) refl (tt, tt) $ sets ! (addr ! (through ! refl (stop !))) refl (tt, tt) $
    sets ! (addr ! (from ! (fld ! refl (hop ! (look_in_at ! 4 (sub ! 0 refl (whole !))) (stop !))))) refl (tt, tt) $
    sets ! (agg ! (and_then ! (get ! refl) (and_then ! (get_in ! (fld ! refl (stop !)) (sub ! 1 refl (whole !))) (no_more !))))
    refl (tt, (tt, (record { fits = are.1.1.0.0.1.0 }, tt))) $
    lent 𝓛 𝓜 𝓡 f.ended c sp ! the_row d.0 b o w (λ r new us. (o : Origin) (h : History) → Stands o h d.0
    → Stands o (after (length out) o h input) new × IsIn (written (length out) o h input) out us.1.1.0 r)
    (triple_of 𝓛 of.signature (of.spec 𝓛 𝓜.mem 𝓡.returns)) (met 𝓤 𝓛 𝓜 𝓡 (code.calls-tpm_c::device::execute 𝓡.env wired))
    (λ κ x vals. (((κ, w.0), (full_share, w.1), tt, (x, a), (mut_vals x, vals)), tt)) (λ κ δ. id⊢ 𝓤 _) (λ κ δ v. id⊢ 𝓤 _)
    (λ r new us e. is_one_and 𝓛 the_row b o (λ (z : (d : Device) × Stands at.0 (after (length out) at.0 at.1 input) d).
    z.0) (new, (e at.0 at.1 d.1).0) (is_answered at.0 at.1 input out us.1.1.0 r (e at.0 at.1 d.1).1))
    (λ κ δ. and_then ! (get ! refl) (and_then ! (get ! refl) (and_then ! (get ! refl) (and_then ! (get ! refl) (no_more !)))))
    (λ v r is. lands_as ! refl refl ((uint_Lawful 𝓛 w64).typed r _ is).0 $ returns ! (look_at ! 0 refl) $ free_all ! refl $ done !)))
