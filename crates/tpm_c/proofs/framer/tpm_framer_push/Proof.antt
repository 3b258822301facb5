-- `tpm_framer_push` meets its contract: the framer is lent to `push`.
use Rattle.tpm_c.proofs.Steps.{◌≡◌, ℕ, List, refl, w64, full_share, named, id⊢, ◌$◌, !, done, addr, stop, of_opd}
use Rattle.tpm_c.proofs.Steps.{and_then, no_more, returns, enter, alloc_all, pass_all, free_all, look_at, through, get}
use Rattle.tpm_c.proofs.Steps.{sets, lands_as, uint_Lawful, u8, u32, mut_vals, mut_Tells, shr_slice_vals}
use Rattle.tpm_c.proofs.Steps.{shr_slice_Tells, triple_of}
use Rattle.tpm_c.proofs.Lending.{Spelled, there, points, is_one, lent}
use Rattle.tpm_c.proofs.framer.push.Met.{met}
use Rattle.tpm_c.specs.Framers.{framer_at, status_number}
use Rattle.tpm_stream.specs.contracts.framer.Framer.{the_row}
use Rattle.tpm_stream.specs.Frames.{Pushes}
use Rattle.tpm_stream.specs.declared.framer.FramerState.{FramerState}
use Rattle.tpm_c.specs.contracts.framer.push as of
use Rattle.tpm_c.specs.contracts.framer.tpm_framer_push as f
use Rattle.tpm_c.proofs.framer.tpm_framer_push.Statement as stated
use Rattle.tpm_c.proofs.framer.tpm_framer_push.Code as code

pub tpm_framer_push_spec : {M : Type 1} → stated.statement M
tpm_framer_push_spec 𝓤 𝓛 𝓜 𝓡 wired =
    let c = f.clauses 𝓛 𝓜.mem 𝓡.returns in let sp : Spelled f.ended = λ κs. (shr_slice_vals, (mut_vals, tt)) in
    points 𝓛 𝓜 𝓡 f.ended c sp f.Key.name code.function (code.unfolded 𝓤 𝓛.H 𝓜 𝓡 wired)
    (λ κs. (shr_slice_Tells (named 0) κs.0 u8, (mut_Tells (named 1) κs.1.0 u32, tt)))
    (λ p w. Unit {0}) (λ p w x. framer_at w.4 p) (λ w x. id⊢ 𝓤 _) (λ p w. there 𝓛 (framer_at w.4 p)) (λ b o w are x.
    let a = w.3 in let held = w.4 in let piece = a.0.now in
    enter ! _ _ _ _ _ $ alloc_all ! (λ l. pass_all ! refl ((tt, tt), ((tt, (tt, (record { fits = are.0.0.1.0 }, tt))), ((tt, tt), tt))) $
    -- &mut *(place as *mut Framer), and the status again
    sets ! (of_opd ! (get ! refl)) refl (tt, tt) $ sets ! (addr ! (through ! refl (stop !))) refl (tt, tt) $
    sets ! (addr ! (through ! refl (stop !))) refl (tt, tt) $
    lent 𝓛 𝓜 𝓡 f.ended c sp ! the_row held b o w (λ r new us. (s : FramerState)
    × Pushes (record { old = held; piece = piece; new = new; taken = r; state = s }) × (us.1.0 ≡ status_number s))
    (triple_of 𝓛 of.signature (of.spec 𝓛 𝓜.mem 𝓡.returns)) (met 𝓤 𝓛 𝓜 𝓡 (code.calls-tpm_c::framer::push 𝓡.env wired))
    (λ κ x vals. (((κ, w.0), (full_share, w.1), tt, (x, a), (mut_vals x, vals)), tt)) (λ κ δ. id⊢ 𝓤 _) (λ κ δ v. id⊢ 𝓤 _)
    (λ r new us e. is_one 𝓛 the_row b o (λ (z : (new : List ℕ)
    × (s : FramerState) × Pushes (record { old = held; piece = piece; new = new; taken = r; state = s }) × (us.1.0 ≡ status_number s)). z.0)
    (new, e.0, e.1, e.2))
    (λ κ δ. and_then ! (get ! refl) (and_then ! (get ! refl) (and_then ! (get ! refl) (no_more !))))
    (λ v r is. lands_as ! refl refl ((uint_Lawful 𝓛 w64).typed r _ is).0 $ returns ! (look_at ! 0 refl) $ free_all ! refl $ done !)))
