-- `tpm_device_power_cycle` meets its contract: the device is lent to `Device::power_cycle`.
use Rattle.tpm_c.proofs.Steps.{◌∷◌, refl, ap, full_share, id⊢, ◌$◌, !, rewrite, done, addr, stop, of_opd, and_then}
use Rattle.tpm_c.proofs.Steps.{no_more, returns, enter, unit_lit, alloc_all, pass_all, free_all, look_at, through, get}
use Rattle.tpm_c.proofs.Steps.{sets, lands_as, mut_vals, lies_at, only, triple_of}
use Rattle.tpm_c.proofs.Lending.{after, Spelled, points, is_one, lent}
use Rattle.tpm_device.specs.declared.device.Device.{Device}
use Rattle.tpm_device.specs.contracts.device.Device.{the_row}
use Rattle.tpm_device.specs.Stands.{Stands}
use Rattle.tpm_device.proofs.device.Device.power_cycle.Met.{met}
use Rattle.tpm_model.specs.Steps.{History, Origin, PowerCycle}
use Rattle.tpm_device.specs.contracts.device.Device.power_cycle as of
use Rattle.tpm_c.specs.contracts.device.tpm_device_power_cycle as f
use Rattle.tpm_c.proofs.device.tpm_device_power_cycle.Statement as stated
use Rattle.tpm_c.proofs.device.tpm_device_power_cycle.Code as code

pub tpm_device_power_cycle_spec : {M : Type 1} → stated.statement M
tpm_device_power_cycle_spec 𝓤 𝓛 𝓜 𝓡 wired =
    let c = f.clauses 𝓛 𝓜.mem 𝓡.returns in let sp : Spelled f.ended = λ κs. tt in
    points 𝓛 𝓜 𝓡 f.ended c sp f.Key.name code.function (code.unfolded 𝓤 𝓛.H 𝓜 𝓡 wired) (λ κs. tt)
    (λ p w. (d : Device) × Stands w.4.0 w.4.1 d) (λ p w x. lies_at the_row full_share p x.0) (λ w x. id⊢ 𝓤 _) (λ p w. id⊢ 𝓤 _) (λ b o w are d.
    let a = w.3 in let at = w.4 in
    enter ! _ _ _ _ _ $ alloc_all ! (λ l. pass_all ! refl ((tt, tt), tt) $
    -- &mut *(place as *mut Device)
    sets ! (of_opd ! (get ! refl)) refl (tt, tt) $ sets ! (addr ! (through ! refl (stop !))) refl (tt, tt) $
    lent 𝓛 𝓜 𝓡 f.ended c sp ! the_row d.0 b o w (λ r new us. (o : Origin) (h : History) → Stands o h d.0 → Stands o (PowerCycle ∷ h) new)
    (triple_of 𝓛 of.signature (of.spec 𝓛 𝓜.mem 𝓡.returns)) (met 𝓤 𝓛 𝓜 𝓡 (code.calls-tpm_device::device::Device::power_cycle 𝓡.env wired))
    (λ κ x vals. (((κ, w.0), (full_share, w.1), tt, (x, a), (mut_vals x, vals)), tt)) (λ κ δ. id⊢ 𝓤 _) (λ κ δ v. id⊢ 𝓤 _)
    (λ r new us e. is_one 𝓛 the_row b o (λ (z : (d : Device) × Stands at.0 (PowerCycle ∷ at.1) d). z.0) (new, e at.0 at.1 d.1))
    (λ κ δ. and_then ! (get ! refl) (no_more !))
    (λ v r is. lands_as ! (ap only is) refl (tt, tt) $
    sets ! (of_opd ! (unit_lit !)) refl (tt, tt) $ rewrite ! 0 (after 𝓛 𝓜 𝓡 f.ended c sp b o w) (ap only is) refl $
    returns ! (look_at ! 0 refl) $ free_all ! refl $ done !)))
