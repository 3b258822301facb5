-- `tpm_framer_frame` meets its contract: the framer is lent to `frame`, with the room.
use Rattle.tpm_c.proofs.Steps.{◌≡◌, refl, w64, full_share, named, id⊢, ◌$◌, !, done, addr, stop, of_opd, and_then}
use Rattle.tpm_c.proofs.Steps.{no_more, returns, enter, fld, hop, from, alloc_all, pass_all, free_all, look_at, through}
use Rattle.tpm_c.proofs.Steps.{get, sets, lands_as, look_in_at, get_in, uint_Lawful, u8, mut_vals, mut_slice_vals}
use Rattle.tpm_c.proofs.Steps.{mut_slice_Tells, triple_of, whole, sub, agg}
use Rattle.tpm_c.proofs.Lending.{Spelled, there, points, becomes, lent}
use Rattle.tpm_c.proofs.framer.frame.Met.{met}
use Rattle.tpm_c.specs.Framers.{framer_at, FrameIn}
use Rattle.tpm_stream.specs.contracts.framer.Framer.{the_row}
use Rattle.tpm_c.specs.contracts.framer.frame as of
use Rattle.tpm_c.specs.contracts.framer.tpm_framer_frame as f
use Rattle.tpm_c.proofs.framer.tpm_framer_frame.Statement as stated
use Rattle.tpm_c.proofs.framer.tpm_framer_frame.Code as code

pub tpm_framer_frame_spec : {M : Type 1} → stated.statement M
tpm_framer_frame_spec 𝓤 𝓛 𝓜 𝓡 wired =
    let c = f.clauses 𝓛 𝓜.mem 𝓡.returns in let sp : Spelled f.ended = λ κs. (mut_slice_vals, tt) in
    points 𝓛 𝓜 𝓡 f.ended c sp f.Key.name code.function (code.unfolded 𝓤 𝓛.H 𝓜 𝓡 wired) (λ κs. (mut_slice_Tells (named 0) κs.0 u8, tt))
    (λ p w. Unit {0}) (λ p w x. framer_at w.4 p) (λ w x. id⊢ 𝓤 _) (λ p w. there 𝓛 (framer_at w.4 p)) (λ b o w are x.
    let a = w.3 in let held = w.4 in
    enter ! _ _ _ _ _ $ alloc_all ! (λ l. pass_all ! refl ((tt, tt), ((tt, (tt, (record { fits = are.0.0.1.0 }, tt))), tt)) $
    -- &mut *(place as *mut Framer), and the slice again
    sets ! (of_opd ! (get ! refl)) refl (tt, tt) $ sets ! (addr ! (through ! refl (stop !))) refl (tt, tt) $
    sets ! (addr ! (from ! (fld ! refl (hop ! (look_in_at ! 2 (sub ! 0 refl (whole !))) (stop !))))) refl (tt, tt) $
    sets ! (agg ! (and_then ! (get ! refl) (and_then ! (get_in ! (fld ! refl (stop !)) (sub ! 1 refl (whole !))) (no_more !))))
    refl (tt, (tt, (record { fits = are.0.0.1.0 }, tt))) $
    lent 𝓛 𝓜 𝓡 f.ended c sp ! the_row held b o w (λ r new us. FrameIn held a.0.now us.0 r × (new ≡ held))
    (triple_of 𝓛 of.signature (of.spec 𝓛 𝓜.mem 𝓡.returns)) (met 𝓤 𝓛 𝓜 𝓡 (code.calls-tpm_c::framer::frame 𝓡.env wired))
    (λ κ x vals. (((κ, w.0), (full_share, w.1), tt, (x, a), (mut_vals x, vals)), tt)) (λ κ δ. id⊢ 𝓤 _) (λ κ δ v. id⊢ 𝓤 _)
    (λ r new us e. becomes 𝓛 the_row b o e.1 e.0) (λ κ δ. and_then ! (get ! refl) (and_then ! (get ! refl) (no_more !)))
    (λ v r is. lands_as ! refl refl ((uint_Lawful 𝓛 w64).typed r _ is).0 $ returns ! (look_at ! 0 refl) $ free_all ! refl $ done !)))
