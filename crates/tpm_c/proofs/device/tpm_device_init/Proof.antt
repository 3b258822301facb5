-- `tpm_device_init` meets its contract: the room is written, and what lies there is what `made` gives; or the value is too long, and no room is there.
use Rattle.tpm_c.proofs.Steps.{◌≡◌, ◌≤◌, Bool, true, false, [], ◌∷◌, length, refl, w32, w64, lit<, ltb→lt, nltb→le, sym}
use Rattle.tpm_c.proofs.Steps.{arith, leb-true, leb-false, full_share, named, vint, ent, sep, sem, id⊢, emp, mono_r}
use Rattle.tpm_c.proofs.Steps.{ftrue, fact_i, Valss, ‵, at_ret, ◌$◌, ◌∵◌, !, qed, by, move, drop, use0, split, nothing}
use Rattle.tpm_c.proofs.Steps.{fjoin, fpack, rewrite, done, init, stop, of_opd, lit, bin, fld, whole, sub, assigns}
use Rattle.tpm_c.proofs.Steps.{and_then, no_more, first, branches, skips, exec, returns, returns_within, enter}
use Rattle.tpm_c.proofs.Steps.{alloc_all, pass_all, free_all, look_at, through, get, get_in, sets, lands_as, env, alive}
use Rattle.tpm_c.proofs.Steps.{part_at, WpFn, uint_vals, uint_Tells, uint_Makes, u8, shr_slice_vals, shr_slice_Tells}
use Rattle.tpm_c.proofs.Steps.{Ptr, block_ptr, room_at, rawptr_vals, rawptr_Tells, rawptr_Lawful, mean, says, types_at}
use Rattle.tpm_c.proofs.Steps.{owns, lasts, lasts_of, u32, triple_of, walk_of, tables, proved, framed}
use Rattle.tpm_c.proofs.Lending.{stayed, goes, others, ends, entry, in_block, made, makes}
use Rattle.tpm_c.proofs.device.made.Met.{met}
use Rattle.tpm_c.specs.Devices.{fits, room_if, new_if, whether_fits}
use Rattle.tpm_types.specs.Limits.{digest_bytes}
use Rattle.tpm_model.specs.Steps.{Origin, new_origin}
use Rattle.tpm_device.specs.declared.device.Device.{Device}
use Rattle.tpm_device.specs.contracts.device.Device.{the_row}
use Rattle.tpm_device.specs.Stands.{Stands}
use Rattle.tpm_device.proofs.device.Device.TheLaws.{the_row_laws}
use Rattle.tpm_c.specs.contracts.device.made as of
use Rattle.tpm_c.specs.contracts.device.tpm_device_init as f
use Rattle.tpm_c.proofs.device.tpm_device_init.Statement as stated
use Rattle.tpm_c.proofs.device.tpm_device_init.Code as code

pub tpm_device_init_spec : {M : Type 1} → stated.statement M
tpm_device_init_spec 𝓤 𝓛 𝓜 𝓡 wired =
    let c = f.clauses 𝓛 𝓜.mem 𝓡.returns in let 𝓣 = tables 𝓤 𝓛.H 𝓜 𝓡 𝓡.env in let W = walk_of 𝓛 f.ended (stayed f.ended) c in
    proved 𝓛 f.ended (stayed f.ended) c 𝓜 𝓡 (goes 𝓛 f.ended) f.Key.name code.function (code.unfolded 𝓤 𝓛.H 𝓜 𝓡 wired)
    (λ κs. (rawptr_vals, (shr_slice_vals, (uint_vals w64, tt))))
    (λ κs. (rawptr_Tells, (shr_slice_Tells (named 0) κs.0 u8, (uint_Tells w64, tt))))
    (λ κs qs bounds a g are.
    let owner = a.1.0.now in let origin : Origin = new_origin owner a.1.1.0 in
    let vals : Valss (types_at (others f.signature.params) κs) = (shr_slice_vals a.1.0, (uint_vals w64 a.1.1.0, tt)) in
    let y : Ptr → W.Ghost = λ p. ((κs, qs, bounds, (p, a.1), (rawptr_vals p, vals)), g) in
    let unsaid : ent 𝓤 (emp 𝓤) (sem 𝓛 (lasts f.ended κs a (tt, (tt, (tt, tt))))) =
    qed 𝓛 [] ∵ nothing ! $ nothing ! $ fjoin ! $ nothing ! $ fjoin ! $ nothing ! $ fjoin ! $ done ! in
    elim (fits owner) as (λ (t : Bool). fits owner ≡ t → ent 𝓤 (sep 𝓤 (mean 𝓛 (entry 𝓛 f.ended c (y a.0)))
    (sem 𝓛 (room_if t a.0))) (WpFn 𝓤 𝓛.H 𝓣.C 𝓣.Λ code.function (W.args (y a.0)) (W.post (y a.0)))) [
      | true ↦ λ fit. let short : length owner ≤ digest_bytes = leb-true (length owner) digest_bytes fit in let one : 1 ≡ whether_fits owner = rw fit refl in
          in_block 𝓛 f.ended c (WpFn 𝓤 𝓛.H 𝓣.C 𝓣.Λ code.function) y (room_at the_row) (id⊢ 𝓤 _) (λ b o.
          qed 𝓛 (‵ (room_at the_row (block_ptr b o)) ∷ entry 𝓛 f.ended c (y (block_ptr b o)) ∷ []) ∵ enter ! _ _ _ _ _ $
          alloc_all ! (λ l. pass_all ! refl ((tt, tt), ((tt, (tt, (record { fits = are.1.0.0.1.0 }, tt))), ((tt, record { fits = are.1.1.0.1 }), tt))) $
          -- owner.len() > DIGEST_BYTES
          sets ! (of_opd ! (get_in ! (fld ! refl (stop !)) (sub ! 1 refl (whole !)))) refl (tt, record { fits = are.1.0.0.1.0 }) $
          sets ! (bin ! (lit ! tt) (get ! refl) tt) refl (tt, tt) $
          first ! $ branches ! (get ! refl) (λ long. absurd (let no : ⊥ = omega (arith, short, ltb→lt digest_bytes (length owner) long) in no)) (λ _.
          skips ! $ exec ! 𝓣.C 𝓣.Λ (env code.Mir.locals l) code.Mir.t-4 (at_ret _ (W.post (y (block_ptr b o)))) $
          -- place as *mut Device
          sets ! (of_opd ! (get ! refl)) refl (tt, tt) $ move ! (1 ∷ []) $
          made ! (framed 𝓤 𝓛.H 𝓜 𝓣) the_row (the_row_laws.lawful 𝓛) (alive 𝓛 f.signature κs qs)
          (lasts_of κs (others f.signature.params) (f.ended).kept.1 a.1) (λ x. Stands origin [] x)
          (triple_of 𝓛 of.signature (of.spec 𝓛 𝓜.mem 𝓡.returns)) (met 𝓤 𝓛 𝓜 𝓡 (code.calls-tpm_c::device::made 𝓡.env wired)) ((κs, qs, tt, a.1, vals), tt)
          (mono_r 𝓤 (sep 𝓤 (alive 𝓛 f.signature κs qs) (sem 𝓛 (owns (types_at (others f.signature.params) κs) a.1 vals)))
          (fact_i 𝓤 (length owner ≤ digest_bytes) (emp 𝓤) short))
          (λ v. id⊢ 𝓤 _) (and_then ! (get ! refl) (and_then ! (get ! refl) (no_more !)))
          (λ v x e wt. lands_as ! refl refl wt.0 $ assigns ! (of_opd ! (get ! refl)) (through ! refl (stop !)) (init ! 2 refl wt.0) $
          sets ! (of_opd ! (lit ! tt)) refl (tt, record { fits = lit< tt }) $ returns ! (look_at ! 0 refl) $ free_all ! refl $
          by ! (makes 𝓛 f.ended c (y (block_ptr b o)) (vint w32 1) 1 (tt, (tt, (tt, tt))) the_row refl x b o v unsaid (uint_Makes 𝓛 w32 1 _ (refl, lit< tt))
          (qed 𝓛 (‵ (part_at the_row full_share x b o) ∷ []) ∵ fpack ! ((d : Device) × Stands origin [] d) (λ d. part_at the_row full_share d.0 b o) (x, e) $
          rewrite ! 0 (λ (t : Bool). ‵ (new_if t origin (block_ptr b o))) (sym fit) refl $ says ! one $ done !)))))) a.0
      | false ↦ λ long. let none : 0 ≡ whether_fits owner = rw long refl in
          qed 𝓛 (entry 𝓛 f.ended c (y a.0) ∷ ‵ ftrue ∷ []) ∵ enter ! _ _ _ _ _ $
          alloc_all ! (λ l. pass_all ! refl (
            ((rawptr_Lawful 𝓛).typed a.0 _ refl).0,
            ((tt, (tt, (record { fits = are.1.0.0.1.0 }, tt))), ((tt, record { fits = are.1.1.0.1 }), tt)),
          ) $
          sets ! (of_opd ! (get_in ! (fld ! refl (stop !)) (sub ! 1 refl (whole !)))) refl (tt, record { fits = are.1.0.0.1.0 }) $
          sets ! (bin ! (lit ! tt) (get ! refl) tt) refl (tt, tt) $
          first ! $ branches ! (get ! refl) (λ _.
          sets ! (of_opd ! (lit ! tt)) refl (tt, record { fits = lit< tt }) $ returns_within ! (W.post (y a.0)) refl (look_at ! 0 refl) $ free_all ! refl $
          -- [the tokens; what lay there, which is nothing]
          split ! $ move ! (1 ∷ []) $ drop ! $ use0 𝓛 (‵ (u32.own_val 0 (vint w32 0 ∷ []))) (uint_Makes 𝓛 w32 0 _
          (refl, lit< tt)) $ use0 𝓛 (‵ (lasts f.ended κs a (tt, (tt, (tt, tt))))) unsaid $ move ! (2 ∷ 0 ∷ 1 ∷ []) $
          by ! (ends 𝓛 f.ended c (y a.0) (vint w32 0) 0 (tt, (tt, (tt, tt))) ftrue (qed 𝓛 (‵ ftrue ∷ []) ∵ rewrite ! 0
          (λ (t : Bool). ‵ (new_if t origin a.0)) (sym long) refl $ says ! none $ done !)))
          (λ short. absurd (let no : ⊥ = omega (arith, leb-false (length owner) digest_bytes long, nltb→le digest_bytes (length owner) short) in no)))
    ] refl)
