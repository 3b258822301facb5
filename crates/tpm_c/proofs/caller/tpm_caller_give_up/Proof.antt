-- `tpm_caller_give_up` meets its contract: what is held is lent to `give_up`.
use Rattle.tpm_c.proofs.Steps.{◌≡◌, refl, w32, full_share, named, id⊢, ◌$◌, !, done, addr, stop, of_opd, and_then}
use Rattle.tpm_c.proofs.Steps.{no_more, returns, enter, alloc_all, pass_all, free_all, look_at, through, get, sets}
use Rattle.tpm_c.proofs.Steps.{lands_as, uint_Lawful, u8, mut_vals, shr_slice_vals, shr_slice_Tells, triple_of}
use Rattle.tpm_c.proofs.Lending.{Spelled, there, points, becomes, lent}
use Rattle.tpm_c.proofs.caller.give_up.Met.{met}
use Rattle.tpm_c.specs.contracts.caller.CallerState.{the_row}
use Rattle.tpm_c.specs.Callers.{state_at, give_up_code, after_give_up}
use Rattle.tpm_c.specs.contracts.caller.give_up as of
use Rattle.tpm_c.specs.contracts.caller.tpm_caller_give_up as f
use Rattle.tpm_c.proofs.caller.tpm_caller_give_up.Statement as stated
use Rattle.tpm_c.proofs.caller.tpm_caller_give_up.Code as code

pub tpm_caller_give_up_spec : {M : Type 1} → stated.statement M
tpm_caller_give_up_spec 𝓤 𝓛 𝓜 𝓡 wired =
    let c = f.clauses 𝓛 𝓜.mem 𝓡.returns in let sp : Spelled f.ended = λ κs. (shr_slice_vals, tt) in
    points 𝓛 𝓜 𝓡 f.ended c sp f.Key.name code.function (code.unfolded 𝓤 𝓛.H 𝓜 𝓡 wired) (λ κs. (shr_slice_Tells (named 0) κs.0 u8, tt))
    (λ p w. Unit {0}) (λ p w x. state_at w.4 p) (λ w x. id⊢ 𝓤 _) (λ p w. there 𝓛 (state_at w.4 p)) (λ b o w are x.
    let a = w.3 in let state = w.4 in let refusal = a.0.now in
    enter ! _ _ _ _ _ $ alloc_all ! (λ l. pass_all ! refl ((tt, tt), ((tt, (tt, (record { fits = are.0.0.1.0 }, tt))), tt)) $
    -- &mut *(place as *mut CallerState)
    sets ! (of_opd ! (get ! refl)) refl (tt, tt) $ sets ! (addr ! (through ! refl (stop !))) refl (tt, tt) $
    lent 𝓛 𝓜 𝓡 f.ended c sp ! the_row state b o w (λ r new us. (r ≡ give_up_code state refusal) × (new ≡ after_give_up state refusal))
    (triple_of 𝓛 of.signature (of.spec 𝓛 𝓜.mem 𝓡.returns)) (met 𝓤 𝓛 𝓜 𝓡 (code.calls-tpm_c::caller::give_up 𝓡.env wired))
    (λ κ x vals. (((κ, w.0), (full_share, w.1), tt, (x, a), (mut_vals x, vals)), tt)) (λ κ δ. id⊢ 𝓤 _) (λ κ δ v. id⊢ 𝓤 _)
    (λ r new us e. becomes 𝓛 the_row b o e.1 e.0) (λ κ δ. and_then ! (get ! refl) (and_then ! (get ! refl) (no_more !)))
    (λ v r is. lands_as ! refl refl ((uint_Lawful 𝓛 w32).typed r _ is).0 $ returns ! (look_at ! 0 refl) $ free_all ! refl $ done !)))
