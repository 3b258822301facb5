-- `tpm_framer_next` meets its contract: the framer is lent to `Framer::next`.
use Rattle.tpm_c.proofs.Steps.{ℕ, List, refl, ap, full_share, id⊢, ◌$◌, !, rewrite, done, addr, stop, of_opd, and_then}
use Rattle.tpm_c.proofs.Steps.{no_more, returns, enter, unit_lit, alloc_all, pass_all, free_all, look_at, through, get}
use Rattle.tpm_c.proofs.Steps.{sets, lands_as, mut_vals, only, triple_of}
use Rattle.tpm_c.proofs.Lending.{after, Spelled, there, points, is_one, lent}
use Rattle.tpm_c.specs.Framers.{framer_at}
use Rattle.tpm_stream.specs.contracts.framer.Framer.{the_row}
use Rattle.tpm_stream.specs.Frames.{Advances}
use Rattle.tpm_stream.proofs.framer.Framer.next.Met.{met}
use Rattle.tpm_stream.specs.contracts.framer.Framer.next as of
use Rattle.tpm_c.specs.contracts.framer.tpm_framer_next as f
use Rattle.tpm_c.proofs.framer.tpm_framer_next.Statement as stated
use Rattle.tpm_c.proofs.framer.tpm_framer_next.Code as code

pub tpm_framer_next_spec : {M : Type 1} → stated.statement M
tpm_framer_next_spec 𝓤 𝓛 𝓜 𝓡 wired =
    let c = f.clauses 𝓛 𝓜.mem 𝓡.returns in let sp : Spelled f.ended = λ κs. tt in
    points 𝓛 𝓜 𝓡 f.ended c sp f.Key.name code.function (code.unfolded 𝓤 𝓛.H 𝓜 𝓡 wired) (λ κs. tt)
    (λ p w. Unit {0}) (λ p w x. framer_at w.4 p) (λ w x. id⊢ 𝓤 _) (λ p w. there 𝓛 (framer_at w.4 p)) (λ b o w are x.
    let a = w.3 in let held = w.4 in
    enter ! _ _ _ _ _ $ alloc_all ! (λ l. pass_all ! refl ((tt, tt), tt) $
    -- &mut *(place as *mut Framer)
    sets ! (of_opd ! (get ! refl)) refl (tt, tt) $ sets ! (addr ! (through ! refl (stop !))) refl (tt, tt) $
    lent 𝓛 𝓜 𝓡 f.ended c sp ! the_row held b o w (λ r new us. Advances held new)
    (triple_of 𝓛 of.signature (of.spec 𝓛 𝓜.mem 𝓡.returns)) (met 𝓤 𝓛 𝓜 𝓡 (code.calls-tpm_stream::framer::Framer::next 𝓡.env wired))
    (λ κ x vals. (((κ, w.0), (full_share, w.1), tt, (x, a), (mut_vals x, vals)), tt)) (λ κ δ. id⊢ 𝓤 _) (λ κ δ v. id⊢ 𝓤 _)
    (λ r new us e. is_one 𝓛 the_row b o (λ (z : (new : List ℕ) × Advances held new). z.0) (new, e)) (λ κ δ. and_then ! (get ! refl) (no_more !))
    (λ v r is. lands_as ! (ap only is) refl (tt, tt) $
    sets ! (of_opd ! (unit_lit !)) refl (tt, tt) $ rewrite ! 0 (after 𝓛 𝓜 𝓡 f.ended c sp b o w) (ap only is) refl $
    returns ! (look_at ! 0 refl) $ free_all ! refl $ done !)))
