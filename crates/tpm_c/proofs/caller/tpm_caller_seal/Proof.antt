-- `tpm_caller_seal` meets its contract: what is held is lent to `seal`, with the room.
use Rattle.tpm_c.proofs.Steps.{◌≡◌, length, refl, w32, w64, full_share, named, id⊢, ◌$◌, !, done, addr, stop, of_opd}
use Rattle.tpm_c.proofs.Steps.{and_then, no_more, returns, enter, fld, hop, from, alloc_all, pass_all, free_all}
use Rattle.tpm_c.proofs.Steps.{look_at, through, get, sets, lands_as, look_in_at, get_in, uint_Lawful, uint_vals}
use Rattle.tpm_c.proofs.Steps.{uint_Tells, u8, mut_vals, shr_slice_vals, shr_slice_Tells, mut_slice_vals}
use Rattle.tpm_c.proofs.Steps.{mut_slice_Tells, triple_of, whole, sub, agg}
use Rattle.tpm_c.proofs.Lending.{Spelled, there, points, becomes, lent}
use Rattle.tpm_c.proofs.caller.seal.Met.{met}
use Rattle.std.specs.Prelude.{IfSome}
use Rattle.tpm_caller.specs.Sent.{IsSpelled}
use Rattle.tpm_c.specs.contracts.caller.CallerState.{the_row}
use Rattle.tpm_c.specs.Callers.{state_at, SealedWith, is_set, sealing, sealed_bytes, after_seal}
use Rattle.tpm_c.specs.Written.{IsIn}
use Rattle.tpm_c.specs.contracts.caller.seal as of
use Rattle.tpm_c.specs.contracts.caller.tpm_caller_seal as f
use Rattle.tpm_c.proofs.caller.tpm_caller_seal.Statement as stated
use Rattle.tpm_c.proofs.caller.tpm_caller_seal.Code as code

pub tpm_caller_seal_spec : {M : Type 1} → stated.statement M
tpm_caller_seal_spec 𝓤 𝓛 𝓜 𝓡 wired =
    let c = f.clauses 𝓛 𝓜.mem 𝓡.returns in let sp : Spelled f.ended = λ κs. (
      shr_slice_vals,
      (shr_slice_vals, (shr_slice_vals, (shr_slice_vals, (shr_slice_vals, (uint_vals w32, (mut_slice_vals, tt)))))),
    ) in
    points 𝓛 𝓜 𝓡 f.ended c sp f.Key.name code.function (code.unfolded 𝓤 𝓛.H 𝓜 𝓡 wired) (λ κs. (
      shr_slice_Tells (named 0) κs.0 u8,
      (
        shr_slice_Tells (named 1) κs.1.0 u8,
        (
          shr_slice_Tells (named 2) κs.1.1.0 u8,
          (
            shr_slice_Tells (named 3) κs.1.1.1.0 u8,
            (shr_slice_Tells (named 4) κs.1.1.1.1.0 u8, (uint_Tells w32, (mut_slice_Tells (named 5) κs.1.1.1.1.1.0 u8, tt))),
          ),
        ),
      ),
    ))
    (λ p w. Unit {0}) (λ p w x. state_at w.4 p) (λ w x. id⊢ 𝓤 _) (λ p w. there 𝓛 (state_at w.4 p)) (λ b o w are x.
    let a = w.3 in let state = w.4 in let out = a.1.1.1.1.1.1.0.now in
    let means : SealedWith = record {
      first = a.1.0.now;
      second = a.1.1.0.now;
      auth = a.1.1.1.0.now;
      nonce = a.1.1.1.1.0.now;
      keep = is_set a.1.1.1.1.1.0;
    } in
    let seal = sealing state a.0.now means (length out) in
    enter ! _ _ _ _ _ $ alloc_all ! (λ l. pass_all ! refl (
      (tt, tt),
      (
        (tt, (tt, (record { fits = are.0.0.1.0 }, tt))),
        (
          (tt, (tt, (record { fits = are.1.0.0.1.0 }, tt))),
          (
            (tt, (tt, (record { fits = are.1.1.0.0.1.0 }, tt))),
            (
              (tt, (tt, (record { fits = are.1.1.1.0.0.1.0 }, tt))),
              (
                (tt, (tt, (record { fits = are.1.1.1.1.0.0.1.0 }, tt))),
                ((tt, record { fits = are.1.1.1.1.1.0.1 }), ((tt, (tt, (record { fits = are.1.1.1.1.1.1.0.0.1.0 }, tt))), tt)),
              ),
            ),
          ),
        ),
      ),
    ) $
    -- &mut *(place as *mut CallerState), and the slice again
    sets ! (of_opd ! (get ! refl)) refl (tt, tt) $ sets ! (addr ! (through ! refl (stop !))) refl (tt, tt) $
    sets ! (addr ! (from ! (fld ! refl (hop ! (look_in_at ! 8 (sub ! 0 refl (whole !))) (stop !))))) refl (tt, tt) $
    sets ! (agg ! (and_then ! (get ! refl) (and_then ! (get_in ! (fld ! refl (stop !)) (sub ! 1 refl (whole !))) (no_more !))))
    refl (tt, (tt, (record { fits = are.1.1.1.1.1.1.0.0.1.0 }, tt))) $
    lent 𝓛 𝓜 𝓡 f.ended c sp ! the_row state b o w
    (λ r new us. (IsIn (sealed_bytes seal) out us.1.1.1.1.1.1.0 r × IfSome seal IsSpelled) × (new ≡ after_seal state seal))
    (triple_of 𝓛 of.signature (of.spec 𝓛 𝓜.mem 𝓡.returns)) (met 𝓤 𝓛 𝓜 𝓡 (code.calls-tpm_c::caller::seal 𝓡.env wired))
    (λ κ x vals. (((κ, w.0), (full_share, w.1), tt, (x, a), (mut_vals x, vals)), tt)) (λ κ δ. id⊢ 𝓤 _) (λ κ δ v. id⊢ 𝓤 _)
    (λ r new us e. becomes 𝓛 the_row b o e.1 e.0)
    (λ κ δ. and_then ! (get ! refl) (and_then ! (get ! refl) (and_then ! (get ! refl) (and_then ! (get ! refl)
    (and_then ! (get ! refl) (and_then ! (get ! refl) (and_then ! (get ! refl) (and_then ! (get ! refl) (no_more !)))))))))
    (λ v r is. lands_as ! refl refl ((uint_Lawful 𝓛 w64).typed r _ is).0 $ returns ! (look_at ! 0 refl) $ free_all ! refl $ done !)))
