-- `tpm_device_restore` meets its contract: `is_refused` refuses, and no room is there; or `tpm_device_init` makes a device
-- in the room, which is lent to `read`.
use denote.Slice.{ShrSlice, shr_slice_copy}
use denote.Plain.{uint_row_laws}
use denote.Builtin.{bool, unit, u64}
use denote.Triple.Clauses.{Lasts}
use contract.Lifetimes.{toks}
use mir.Val.{vbool}
use base.Fml.{fsep}
use Rattle.std.proofs.Common.{inl, inr, ap, w8, ◌∙◌}
use Rattle.tpm_c.proofs.Steps.{◌≡◌, ℕ, Bool, true, false, List, [], ◌∷◌, refl, w32, w64, lit<, sym, full_share, named, vint, ent}
use Rattle.tpm_c.proofs.Steps.{sep, sem, id⊢, emp, ftrue, flft, fact, fact_i, mono_r, Valss, ‵, raw, ◌⊛◌, some, later, at_ret, ◌$◌, ◌∵◌, ! }
use Rattle.tpm_c.proofs.Steps.{qed, by, move, drop, split, join, nothing, use0, use1, fsplit, fjoin, fpick, fpack, pick, await, rewrite, done}
use Rattle.tpm_c.proofs.Steps.{stop, of_opd, lit, addr, and_then, no_more, first, branches, skips, exec, returns, returns_within, enter}
use Rattle.tpm_c.proofs.Steps.{alloc_all, pass_all, free_all, look_at, through, get, sets, lands_as, env, alive, part_at, WpFn, Is, shows}
use Rattle.tpm_c.proofs.Steps.{uint_Makes, uint_Lawful, u8, u32, uint_vals, shr_slice_vals, shr_slice_Tells, mut_vals, mut_Tells, Ptr, block_ptr, room_at}
use Rattle.tpm_c.proofs.Steps.{rawptr_vals, rawptr_Tells, rawptr_Lawful, mean, says, types_at, lasts, lasts_of, only, peeks, calls_at, triple_of}
use Rattle.tpm_c.proofs.Steps.{walk_of, tables, proved, framed, Fml}
use Rattle.tpm_c.proofs.Lending.{stayed, goes, others, ends, entry, in_block, Given, loan}
use Rattle.tpm_c.proofs.Restoring.{asks, lends}
use Rattle.tpm_c.proofs.KeptDevices.{judged_made, judged_none, fits_of}
use Rattle.tpm_c.proofs.kept.is_refused.Met.{met as judges}
use Rattle.tpm_c.proofs.kept.read.Met.{met as reads}
use Rattle.tpm_c.proofs.device.tpm_device_init.Met.{met as makes_one}
use Rattle.tpm_c.specs.Devices.{fits, room_if, new_if, made_at, whether_fits}
use Rattle.tpm_c.specs.KeptDevices.{IsAgain, is_made, again_if}
use Rattle.tpm_c.specs.inner.KeptDevices.{IsJudged, SpellsNvMemory}
use Rattle.tpm_c.specs.contracts.part.TpmRefusal.{the_row as told}
use Rattle.tpm_model.specs.Steps.{Origin, new_origin}
use Rattle.tpm_device.specs.declared.device.Device.{Device}
use Rattle.tpm_device.specs.contracts.device.Device.{the_row}
use Rattle.tpm_device.specs.Stands.{Stands}
use Rattle.tpm_c.specs.contracts.kept.is_refused as judge
use Rattle.tpm_c.specs.contracts.kept.read as read
use Rattle.tpm_c.specs.contracts.device.tpm_device_init as make
use Rattle.tpm_c.specs.contracts.kept.tpm_device_restore as f
use Rattle.tpm_c.proofs.kept.tpm_device_restore.Statement as stated
use Rattle.tpm_c.proofs.kept.tpm_device_restore.Code as code

pub tpm_device_restore_spec : {M : Type 1} → stated.statement M
tpm_device_restore_spec 𝓤 𝓛 𝓜 𝓡 wired =
    let c = f.clauses 𝓛 𝓜.mem 𝓡.returns in let 𝓣 = tables 𝓤 𝓛.H 𝓜 𝓡 𝓡.env in let W = walk_of 𝓛 f.ended (stayed f.ended) c in
    proved 𝓛 f.ended (stayed f.ended) c 𝓜 𝓡 (goes 𝓛 f.ended) f.Key.name code.function (code.unfolded 𝓤 𝓛.H 𝓜 𝓡 wired)
    (λ κs. (rawptr_vals, (shr_slice_vals, (shr_slice_vals, (mut_vals, tt)))))
    (λ κs. (rawptr_Tells, (shr_slice_Tells (named 0) κs.0 u8, (shr_slice_Tells (named 1) κs.1.0 u8, (mut_Tells (named 2) κs.1.1.0 told, tt)))))
    (λ κs qs bounds a g are.
    let owner = a.1.0.now in let kept = a.1.1.0.now in let old = a.1.1.1.0.now in let origin : Origin = new_origin owner 0 in
    let vals : Valss (types_at (others f.signature.params) κs) = (shr_slice_vals a.1.0, (shr_slice_vals a.1.1.0, (mut_vals a.1.1.1.0, tt))) in
    let y : Ptr → W.Ghost = λ p. ((κs, qs, bounds, (p, a.1), (rawptr_vals p, vals)), g) in
    let Owner : Fml = (ShrSlice (named 0) κs.0 u8).own_val a.1.0 (shr_slice_vals a.1.0) in
    let Kept : Fml = (ShrSlice (named 1) κs.1.0 u8).own_val a.1.1.0 (shr_slice_vals a.1.1.0) in
    let lasting = lasts_of κs (others f.signature.params) (f.ended).kept.1 a.1 in
    elim (is_made owner kept) as (λ (t : Bool). is_made owner kept ≡ t → ent 𝓤 (sep 𝓤 (mean 𝓛 (entry 𝓛 f.ended c (y a.0)))
    (sem 𝓛 (room_if t a.0))) (WpFn 𝓤 𝓛.H 𝓣.C 𝓣.Λ code.function (W.args (y a.0)) (W.post (y a.0)))) [
      | true ↦ λ makes.
          in_block 𝓛 f.ended c (WpFn 𝓤 𝓛.H 𝓣.C 𝓣.Λ code.function) y (room_at the_row) (id⊢ 𝓤 _) (λ b o.
          qed 𝓛 (‵ (room_at the_row (block_ptr b o)) ∷ entry 𝓛 f.ended c (y (block_ptr b o)) ∷ []) ∵ enter ! _ _ _ _ _ $
          alloc_all ! (λ l. pass_all ! refl (
            (tt, tt),
            (
              (tt, (tt, (record { fits = are.1.0.0.1.0 }, tt))),
              ((tt, (tt, (record { fits = are.1.1.0.0.1.0 }, tt))), ((tt, tt), tt)),
            ),
          ) $
          -- the refusal again
          sets ! (addr ! (through ! refl (stop !))) refl (tt, tt) $
          move ! (1 ∷ []) $ split ! $ move ! (1 ∷ []) $ fsplit ! $ move ! (1 ∷ []) $ fsplit ! $ move ! (1 ∷ []) $ fsplit ! $
          -- [the bytes; the refusal; the owner's value; the place; the tokens; the room]: the slices twice
          use1 𝓛 (‵ Kept ⊛ ‵ Kept) ((shr_slice_copy 𝓛 (named 1) κs.1.0 u8 (uint_row_laws w8)).twice a.1.1.0 (shr_slice_vals a.1.1.0)) $ split ! $
          move ! (3 ∷ []) $
          use1 𝓛 (‵ Owner ⊛ ‵ Owner) ((shr_slice_copy 𝓛 (named 0) κs.0 u8 (uint_row_laws w8)).twice a.1.0 (shr_slice_vals a.1.0)) $ split ! $
          move ! (2 ∷ 4 ∷ []) $ fjoin ! $ move ! (1 ∷ 0 ∷ []) $ fjoin ! $ move ! (4 ∷ 0 ∷ []) $
          asks ! (framed 𝓤 𝓛.H 𝓜 𝓣) bool (alive 𝓛 f.signature κs qs) lasting
          (λ r us. IsJudged owner kept (record { is_refused = r; old = old; new = us.1.1.0 }))
          (triple_of 𝓛 judge.signature (judge.spec 𝓛 𝓜.mem 𝓡.returns)) (judges 𝓤 𝓛 𝓜 𝓡 (code.calls-tpm_c::kept::is_refused 𝓡.env wired))
          ((κs, qs, tt, a.1, vals), tt) (id⊢ 𝓤 _) (λ v. id⊢ 𝓤 _) (and_then ! (get ! refl) (and_then ! (get ! refl) (and_then ! (get ! refl) (no_more !))))
          (λ v r us s is.
          let sound = judged_made owner kept old us.1.1.0 r makes s in let fit : fits owner ≡ true = fits_of owner sound.1 in
          lands_as ! (ap only is ∙ ap vbool sound.0) refl (tt, tt) $
          first ! $ branches ! (get ! refl) (λ refused. absurd refused) (λ _.
          skips ! $ exec ! 𝓣.C 𝓣.Λ (env code.Mir.locals l) code.Mir.t-4 (at_ret _ (W.post (y (block_ptr b o)))) $
          -- [of the last values; the tokens; the owner's value; the bytes; the place; the room]
          move ! (1 ∷ []) $ use1 𝓛 (‵ (flft κs.0 qs.0) ⊛ (‵ (flft κs.1.0 qs.1.0) ⊛ (‵ (flft κs.1.1.0 qs.1.1.0) ⊛ ‵ ftrue))) (id⊢ 𝓤 _) $
          split ! $ move ! (1 ∷ []) $ split ! $ move ! (2 ∷ []) $ nothing ! $ move ! (1 ∷ 0 ∷ []) $ join ! $
          use0 𝓛 (‵ (u64.own_val 0 (vint w64 0 ∷ []))) (uint_Makes 𝓛 w64 0 _ (refl, lit< tt)) $ nothing ! $ move ! (1 ∷ 0 ∷ []) $ fjoin ! $
          move ! (5 ∷ 0 ∷ []) $ fjoin ! $ move ! (6 ∷ 0 ∷ []) $ fjoin ! $ move ! (1 ∷ 0 ∷ []) $ join ! $
          move ! (5 ∷ []) $ rewrite ! 0 (λ (t : Bool). ‵ (room_if t (block_ptr b o))) (sym fit) refl $ move ! (1 ∷ 0 ∷ []) $ join ! $
          let G = triple_of 𝓛 make.signature (make.spec 𝓛 𝓜.mem 𝓡.returns) in
          let z : G.Ghost = (
            (
              (κs.0, tt),
              (qs.0, tt),
              tt,
              (block_ptr b o, (a.1.0, (0, tt))),
              (rawptr_vals (block_ptr b o), (shr_slice_vals a.1.0, (uint_vals w64 0, tt))),
            ),
            tt,
          ) in
          use1 𝓛 (raw (G.pre z)) (id⊢ 𝓤 _) $
          calls_at ! (framed 𝓤 𝓛.H 𝓜 𝓣) G (makes_one 𝓤 𝓛 𝓜 𝓡 (code.calls-tpm_c::device::tpm_device_init 𝓡.env wired)) z
          (and_then ! (get ! refl) (and_then ! (get ! refl) (and_then ! (lit ! tt) (no_more !)))) (λ w.
          use1 𝓛 (later (some (λ (n : ℕ). ((‵ (flft κs.0 qs.0) ⊛ ‵ ftrue) ⊛ ‵ (u32.own_val n (w ∷ [])))
          ⊛ some (λ (ws : Lasts make.ended z.0.0 z.0.3). ‵ (lasts make.ended z.0.0 z.0.3 ws)
          ⊛ (‵ (made_at origin (block_ptr b o)) ⊛ raw (fact 𝓤 (n ≡ whether_fits owner))))))) (id⊢ 𝓤 _) $
          await ! tt $ pick ! (λ n. split ! $ split ! $ move ! (2 ∷ []) $ pick ! (λ ws. split ! $ drop ! $ split ! $ move ! (1 ∷ []) $ drop ! $
          rewrite ! 0 (λ (t : Bool). ‵ (new_if t origin (block_ptr b o))) fit refl $ fpick ! (λ x.
          -- [the device; a token; the result; two tokens; of the last values; the bytes]
          move ! (2 ∷ []) $ peeks ! u32 (Is u32) (shows 𝓛 u32) n (w ∷ []) (λ one. drop ! $
          lands_as ! refl refl ((uint_Lawful 𝓛 w32).typed n _ one).0 $
          -- &mut *(place as *mut Device)
          sets ! (of_opd ! (get ! refl)) refl (tt, tt) $ sets ! (addr ! (through ! refl (stop !))) refl (tt, tt) $
          move ! (2 ∷ []) $ nothing ! $ move ! (1 ∷ 0 ∷ []) $ join ! $ use1 𝓛 (raw (toks 𝓛 1 (κs.1.0, tt) (qs.1.0, tt))) (id⊢ 𝓤 _) $
          nothing ! $ move ! (6 ∷ 0 ∷ []) $ fjoin ! $ move ! (2 ∷ 1 ∷ 0 ∷ []) $
          lends ! (framed 𝓤 𝓛.H 𝓜 𝓣) the_row x.0 b o unit (toks 𝓛 1 (κs.1.0, tt) (qs.1.0, tt))
          (lasts_of (κs.1.0, (κs.1.0, tt)) (others read.signature.params) (read.ended).kept.1 (a.1.1.0, tt))
          (λ r new us. (w : List ℕ) → Stands (new_origin w 0) [] x.0 → IsAgain w kept new)
          (triple_of 𝓛 read.signature (read.spec 𝓛 𝓜.mem 𝓡.returns)) (reads 𝓤 𝓛 𝓜 𝓡 (code.calls-tpm_c::kept::read 𝓡.env wired))
          (λ κ d. (((κ, (κs.1.0, tt)), (full_share, (qs.1.0, tt)), tt, (d, (a.1.1.0, tt)), (mut_vals d, (shr_slice_vals a.1.1.0, tt))), tt))
          (λ κ δ. mono_r 𝓤 (Given 𝓛 the_row (toks 𝓛 1 (κs.1.0, tt) (qs.1.0, tt)) κ (loan x.0 b o δ) (fsep Kept ftrue))
          (fact_i 𝓤 (SpellsNvMemory kept) (emp 𝓤) sound.2)) (λ κ δ u. id⊢ 𝓤 _)
          (λ κ δ. and_then ! (get ! refl) (and_then ! (get ! refl) (no_more !)))
          (λ u r' new us' e none.
          lands_as ! (ap only none) refl (tt, tt) $
          sets ! (of_opd ! (lit ! tt)) refl (tt, record { fits = lit< tt }) $ returns ! (look_at ! 0 refl) $ free_all ! refl $
          -- [the device; the second token; the first; the third; of the last values]
          move ! (2 ∷ []) $ split ! $ move ! (1 ∷ []) $ drop ! $
          move ! (2 ∷ []) $ use1 𝓛 (‵ (flft κs.1.0 qs.1.0) ⊛ ‵ ftrue) (id⊢ 𝓤 _) $ split ! $ move ! (1 ∷ []) $ drop ! $
          move ! (0 ∷ 3 ∷ []) $ join ! $ move ! (1 ∷ 0 ∷ []) $ join ! $ move ! (2 ∷ []) $ nothing ! $ fjoin ! $
          use0 𝓛 (‵ (u32.own_val 0 (vint w32 0 ∷ []))) (uint_Makes 𝓛 w32 0 _ (refl, lit< tt)) $ move ! (2 ∷ 1 ∷ 0 ∷ []) $
          by ! (ends 𝓛 f.ended c (y (block_ptr b o)) (vint w32 0) 0 (tt, us) (part_at the_row full_share new b o)
          (qed 𝓛 (‵ (part_at the_row full_share new b o) ∷ []) ∵
          fpack ! ((d : Device) × IsAgain owner kept d) (λ d. part_at the_row full_share d.0 b o) (new, e owner x.1) $
          rewrite ! 0 (λ (t : Bool). ‵ (again_if t owner kept (block_ptr b o))) (sym makes) refl $ says ! (inl (makes, refl, sound.3)) $ done !)))))))))))) a.0
      | false ↦ λ none.
          qed 𝓛 (entry 𝓛 f.ended c (y a.0) ∷ ‵ ftrue ∷ []) ∵ enter ! _ _ _ _ _ $
          alloc_all ! (λ l. pass_all ! refl (
            ((rawptr_Lawful 𝓛).typed a.0 _ refl).0,
            (
              (tt, (tt, (record { fits = are.1.0.0.1.0 }, tt))),
              ((tt, (tt, (record { fits = are.1.1.0.0.1.0 }, tt))), ((tt, tt), tt)),
            ),
          ) $
          sets ! (addr ! (through ! refl (stop !))) refl (tt, tt) $
          split ! $ move ! (1 ∷ []) $ fsplit ! $ drop ! $ move ! (1 ∷ 0 ∷ []) $
          asks ! (framed 𝓤 𝓛.H 𝓜 𝓣) bool (alive 𝓛 f.signature κs qs) lasting
          (λ r us. IsJudged owner kept (record { is_refused = r; old = old; new = us.1.1.0 }))
          (triple_of 𝓛 judge.signature (judge.spec 𝓛 𝓜.mem 𝓡.returns)) (judges 𝓤 𝓛 𝓜 𝓡 (code.calls-tpm_c::kept::is_refused 𝓡.env wired))
          ((κs, qs, tt, a.1, vals), tt) (id⊢ 𝓤 _) (λ v. id⊢ 𝓤 _) (and_then ! (get ! refl) (and_then ! (get ! refl) (and_then ! (get ! refl) (no_more !))))
          (λ v r us s is.
          let refused = judged_none owner kept old us.1.1.0 r none s in
          lands_as ! (ap only is ∙ ap vbool refused.0) refl (tt, tt) $
          first ! $ branches ! (get ! refl) (λ _.
          sets ! (of_opd ! (lit ! tt)) refl (tt, record { fits = lit< tt }) $ returns_within ! (W.post (y a.0)) refl (look_at ! 0 refl) $ free_all ! refl $
          -- [what is said of the last values; the tokens; what lay there, which is nothing]
          nothing ! $ fjoin ! $ use0 𝓛 (‵ (u32.own_val 1 (vint w32 1 ∷ []))) (uint_Makes 𝓛 w32 1 _ (refl, lit< tt)) $
          move ! (2 ∷ 1 ∷ 0 ∷ []) $ by ! (ends 𝓛 f.ended c (y a.0) (vint w32 1) 1 (tt, us) ftrue (qed 𝓛 (‵ ftrue ∷ []) ∵ rewrite ! 0
          (λ (t : Bool). ‵ (again_if t owner kept a.0)) (sym none) refl $ says ! (inr (none, refl, refused.1)) $ done !)))
          (λ made. absurd made)))
    ] refl)
