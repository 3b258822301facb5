-- How an export meets its contract that holds state in C's memory. The value there is lent, for a
-- lifetime that is made for the call, to a private function or a method, and comes back as that
-- function says. An export's own proof has the steps of its MIR, and what the function's contract
-- gives of its own.
use mathlib.Core.Path.{subst, ap, ◌∙◌}
use mir.Syntax.{Ty, ty_unit, ty_ptr, Callee, Place, place, deref, Opd as Operand, copy, opd_unit, rv_opd}
use mir.Syntax.{Body as Code, seq, call, assign, return, Fn, local, value_local}
use prog.Wp.{Env, Closed}
use prog.Model.{Model}
use base.Logic.{comm∗, mono_r, ex_i}
use base.Fml.{fsep, fbor, fex, fat}
use borrow.Table.OneValue.{One, part_in}
use denote.Memory.{lone}
use mir.Val.{of_list}
use types.Match.{live}
use lib.Dec.{T}
use Rattle.std.proofs.Common.{Some, None, ◌++◌, Bool, true, false, ◌&&◌}
use Rattle.std.specs.contracts.option.Option as option
use denote.Steps.{only}
use types.Kit.{feq_l}
use denote.Exit.{Kept, yes, left}
use denote.Builtin.{RawPtr, unit}
use denote.RattleType.{RattleType, Denots, Valss}
use denote.Laws.{Lawful, Typed, Are, Ises, Spells, valss, Tellss}
use denote.Signature.{Signature, plain, type_at}
use denote.Triple.End.{Kepts, Fins, lasts_of}
use denote.Triple.Clauses.{Ended, Clauses, Lasts, at_exit, closing}
use denote.Triple.Entry.{Res}
use denote.Triple.Spec.{Spec, Meets}
use denote.Triple.Walked.{Stay, fits_of, has_of, AllGo, says}
use types.Kit.{Post, Seq, Sq, Item, mean, lands, runs, prop, group, use2}
use types.Run.{Opds}
use contract.Lifetimes.{Shares, AllOutlive}
use contract.Monad.{Fun}
use contract.Running.{Running, MachineTables}
use Rattle.std.proofs.raw_atomic.Walks.{leaves}
use Rattle.tpm_c.proofs.Steps.{◌≡◌, ℕ, List, [], ◌∷◌, refl, Ura, full_share, named, Val, vptr, vunit, SProp, ent, sep}
use Rattle.tpm_c.proofs.Steps.{via, snd∗, never, never_e, id⊢, emp, emp∗, Lft, GName, Fml, flft, flent, ftrue, fres}
use Rattle.tpm_c.proofs.Steps.{Calls, Loops, WpFn, Logic, sem, Body, fact, Lfts, tables, ‵, raw, ◌⊛◌, some, later, ◌$◌}
use Rattle.tpm_c.proofs.Steps.{◌∵◌, !, qed, by, move, drop, use0, use1, use3, split, join, pick, fsplit, fjoin, rewrite}
use Rattle.tpm_c.proofs.Steps.{await, done, feq_i, fpick, fpack, lft_new, lft_end, stop, of_opd, no_more, returns}
use Rattle.tpm_c.proofs.Steps.{enter, init, unit_lit, assigns, alloc_all, pass_all, free_all, look_at, through, get}
use Rattle.tpm_c.proofs.Steps.{sets, lands_as, FmC, owns, mem, part_at, Is, shows, MutBor, MutRef, mut_vals, Slot}
use Rattle.tpm_c.proofs.Steps.{types_at, lends_ref, ref_back, Ptr, block_ptr, null_ptr, rawptr_vals, rawptr_Tells}
use Rattle.tpm_c.proofs.Steps.{room_at, peeks, heard, nothing, Contract, Triple, calls_at, lasts, alive, triple_of}
use Rattle.tpm_c.proofs.Steps.{Stays, walk_of, proved, framed}

-- ---- what an export has of its parameters at exit: what is said of their last values, and nothing more
module _ {n : ℕ} where
  abbrev gone : (s : Slot n) (k : Kept) → Stay s k
  gone s k = record { fit = λ κs x w. Unit {0}; has = λ κs x w vs. left ((s.row κs).exit k) x w }

  abbrev all_gone : (ss : List (Slot n)) (ks : Kepts ss) → Stays ss ks
  all_gone [] ks = tt
  all_gone (s ∷ ss) ks = (gone s ks.0, all_gone ss ks.1)

  -- the parameters behind the first
  abbrev pub others : List (Slot n) → List (Slot n)
  others [] = []
  others (s ∷ ss) = ss

  abbrev others_kept : (ss : List (Slot n)) → Kepts ss → Kepts (others ss)
  others_kept [] ks = tt
  others_kept (s ∷ ss) ks = ks.1

  module _ (κs : Lfts n) where
    all_fit : (ss : List (Slot n)) (ks : Kepts ss) (a : Denots (types_at ss κs)) (ws : Fins κs ss ks a) → fits_of κs ss ks (all_gone ss ks) a ws
    all_fit [] ks a ws = tt
    all_fit (s ∷ ss) ks a ws = (tt, all_fit ss ks.1 a.1 ws.1)

    all_had : (ss : List (Slot n)) (ks : Kepts ss) (a : Denots (types_at ss κs)) (ws : Fins κs ss ks a)
        (vss : Valss (types_at ss κs)) → has_of κs ss ks (all_gone ss ks) a ws vss ≡ lasts_of κs ss ks a ws
    all_had [] ks a ws vss = refl
    all_had (s ∷ ss) ks a ws vss = ap (fsep (left ((s.row κs).exit ks.0) a.0 ws.0)) (all_had ss ks.1 a.1 ws.1 vss.1)

abbrev pub stayed : (T : Ended) → Stays T.signature.params T.kept
stayed T = all_gone T.signature.params T.kept

module _ {M : Type 1} {𝓤 : Ura M} (𝓛 : Logic 𝓤) where
  open 𝓛 use {H}

  go_all : {n : ℕ} (ss : List (Slot n)) (ks : Kepts ss) → AllGo 𝓛 n ss ks (all_gone ss ks)
  go_all [] ks = tt
  go_all (s ∷ ss) ks = ((λ κs x w vs fits. 𝓛.laws.⇛_intro _), go_all ss ks.1)

  pub goes : (T : Ended) → AllGo 𝓛 T.signature.lifetimes T.signature.params T.kept (stayed T)
  goes T = go_all T.signature.params T.kept

  module _ (T : Ended) (c : Clauses 𝓤 T) where
    -- an export ends with the tokens, what is said of the last values, the result, and what makes its `ensures`
    pub ends : (y : (walk_of 𝓛 T (stayed T) c).Ghost) (v : Val) (r : Res T.signature y.0.0) (ws : Lasts T y.0.0 y.0.3) (F : Fml)
        → ent 𝓤 (sem 𝓛 F) ((c y.0.0 y.0.3).ensures y.1 r (at_exit T y.0.0 y.0.3 ws))
        → ent 𝓤 (sep 𝓤 (alive 𝓛 T.signature y.0.0 y.0.1) (sep 𝓤 (sem 𝓛 (lasts T y.0.0 y.0.3 ws))
        (sep 𝓤 (sem 𝓛 ((type_at T.signature.result y.0.0).own_val r (v ∷ []))) (sem 𝓛 F)))) ((walk_of 𝓛 T (stayed T) c).post y v)
    ends y v r ws F h =
        let own = (type_at T.signature.result y.0.0).own_val r (v ∷ []) in let last =
        lasts T y.0.0 y.0.3 ws in let says = (c y.0.0 y.0.3).ensures y.1 r (at_exit T y.0.0 y.0.3 ws) in
        via 𝓤 (sep 𝓤 (alive 𝓛 T.signature y.0.0 y.0.1) (sep 𝓤 (sem 𝓛 last) (sep 𝓤 (sem 𝓛 own) says)))
        (mono_r 𝓤 (alive 𝓛 T.signature y.0.0 y.0.1) (mono_r 𝓤 (sem 𝓛 last) (mono_r 𝓤 (sem 𝓛 own) h)))
        (subst (λ (L : Fml). ent 𝓤 (sep 𝓤 (alive 𝓛 T.signature y.0.0 y.0.1) (sep 𝓤 (sem 𝓛 L) (sep 𝓤 (sem 𝓛 own) says))) ((walk_of 𝓛 T (stayed T) c).post y v))
        (all_had y.0.0 T.signature.params T.kept y.0.3 ws y.0.4) (leaves 𝓛 T (stayed T) c y v r ws (all_fit y.0.0 T.signature.params T.kept y.0.3 ws)))

    -- the same with a value that was made, and written to (b, o)
    pub makes : (y : (walk_of 𝓛 T (stayed T) c).Ghost) (v : Val) (r : Res T.signature y.0.0)
        (ws : Lasts T y.0.0 y.0.3) (R : RattleType) → One R → (x : R.Denot) (b o : ℕ) (u : Val)
        → ent 𝓤 (emp 𝓤) (sem 𝓛 (lasts T y.0.0 y.0.3 ws))
        → ent 𝓤 (emp 𝓤) (sem 𝓛 ((type_at T.signature.result y.0.0).own_val r (v ∷ [])))
        → ent 𝓤 (sem 𝓛 (part_at R full_share x b o)) ((c y.0.0 y.0.3).ensures y.1 r (at_exit T y.0.0 y.0.3 ws))
        → ent 𝓤 (sep 𝓤 (sem 𝓛 (R.own_val x (u ∷ [])))
        (sep 𝓤 (alive 𝓛 T.signature y.0.0 y.0.1) (H.at full_share (lone R.mir) b o u))) ((walk_of 𝓛 T (stayed T) c).post y v)
    makes y v r ws R one x b o u nothing_said owned h =
        qed 𝓛 (‵ (R.own_val x (u ∷ [])) ∷ raw (alive 𝓛 T.signature y.0.0 y.0.1) ∷ ‵ (fat full_share (lone R.mir) b o u) ∷ [])
        ∵ move ! (2 ∷ 0 ∷ []) $ use2 𝓛 (‵ (part_at R full_share x b o)) (part_in 𝓛 R one full_share x b o u) $
        use0 𝓛 (‵ ((type_at T.signature.result y.0.0).own_val r (v ∷ []))) owned $ use0 𝓛 (‵ (lasts T y.0.0 y.0.3 ws))
        nothing_said $ move ! (3 ∷ []) $ by ! (ends y v r ws (part_at R full_share x b o) h)

    -- ---- what lies in a block, and nothing lies at null
    -- what the types own at entry
    abbrev pub entry : (walk_of 𝓛 T (stayed T) c).Ghost → Item 𝓤
    entry y = raw (alive 𝓛 T.signature y.0.0 y.0.1) ⊛ ‵ (owns (types_at T.signature.params y.0.0) y.0.3 y.0.4)

    module _ (run : Fun 𝓤) (y : Ptr → (walk_of 𝓛 T (stayed T) c).Ghost) where
      abbrev Runs : Ptr → SProp 𝓤
      Runs p = run ((walk_of 𝓛 T (stayed T) c).args (y p)) ((walk_of 𝓛 T (stayed T) c).post (y p))

      pub in_block : (F : Ptr → Fml) → ent 𝓤 (sem 𝓛 (F null_ptr)) (never 𝓤)
          → ((b o : ℕ) → ent 𝓤 (sep 𝓤 (sem 𝓛 (F (block_ptr b o))) (mean 𝓛 (entry (y (block_ptr b o))))) (Runs (block_ptr b o)))
          → (p : Ptr) → ent 𝓤 (sep 𝓤 (mean 𝓛 (entry (y p))) (sem 𝓛 (F p))) (Runs p)
      in_block F none k (block_ptr b o) = via 𝓤 (sep 𝓤 (sem 𝓛 (F (block_ptr b o))) (mean 𝓛 (entry (y (block_ptr b o)))))
          (comm∗ 𝓤 (mean 𝓛 (entry (y (block_ptr b o)))) (sem 𝓛 (F (block_ptr b o)))) (k b o)
      in_block F none k null_ptr = via 𝓤 (sem 𝓛 (F null_ptr))
          (snd∗ 𝓤 (mean 𝓛 (entry (y null_ptr))) (sem 𝓛 (F null_ptr))) (via 𝓤 (never 𝓤) none (never_e 𝓤 (Runs null_ptr)))

  -- what is there is the one of one
  pub there : (F : Fml) → ent 𝓤 (sem 𝓛 F) (sem 𝓛 (fex (Unit {0}) (λ x. F)))
  there F = ex_i 𝓤 (λ (x : Unit {0}). sem 𝓛 F) tt

  module _ (R : RattleType) (b o : ℕ) where
    -- what lies there is this
    pub becomes : {w x : R.Denot} {φ : Type 0} → w ≡ x → φ → ent 𝓤 (sem 𝓛 (part_at R full_share w b o)) (sep 𝓤 (sem 𝓛 (part_at R full_share x b o)) (fact 𝓤 φ))
    becomes {w} {x} {φ} e y = qed 𝓛 (‵ (part_at R full_share w b o) ∷ []) ∵ rewrite ! 0
        (λ (z : R.Denot). ‵ (part_at R full_share z b o)) e refl $ says ! y $ done !

    pub is_this : {w x : R.Denot} → w ≡ x → ent 𝓤 (sem 𝓛 (part_at R full_share w b o)) (sem 𝓛 (part_at R full_share x b o))
    is_this {w} {x} e = qed 𝓛 (‵ (part_at R full_share w b o) ∷ []) ∵ rewrite ! 0 (λ (z : R.Denot). ‵ (part_at R full_share z b o)) e refl $ done !

    -- one of several values
    pub is_one : {X : Type 0} (to : X → R.Denot) (x : X)
        → ent 𝓤 (sem 𝓛 (part_at R full_share (to x) b o)) (sem 𝓛 (fex X (λ z. part_at R full_share (to z) b o)))
    is_one to x = ex_i 𝓤 (λ z. sem 𝓛 (part_at R full_share (to z) b o)) x

    pub is_one_and : {X : Type 0} (to : X → R.Denot) (x : X) {φ : Type 0} → φ → ent 𝓤
        (sem 𝓛 (part_at R full_share (to x) b o)) (sep 𝓤 (sem 𝓛 (fex X (λ z. part_at R full_share (to z) b o))) (fact 𝓤 φ))
    is_one_and {X} to x y = qed 𝓛 (‵ (part_at R full_share (to x) b o) ∷ []) ∵ fpack ! X (λ z. part_at R full_share (to z) b o) x $ says ! y $ done !

pub and_tt : (b : Bool) → T b → T (b && true)
and_tt true t = tt
and_tt false t = absurd t

-- the values of one type are one
single : (τs : List Ty) (τ : Ty) → τs ≡ τ ∷ [] → (vs : List Val) → Typed τs vs → vs ≡ only vs ∷ []
single τs τ one vs typed = go vs (subst (λ (us : List Ty). Typed us vs) one typed)
  where
    go : (vs : List Val) → Typed (τ ∷ []) vs → vs ≡ only vs ∷ []
    go [] t = absurd t
    go (v ∷ []) t = refl
    go (v ∷ w ∷ vs) t = absurd t.1

-- ---- the call
abbrev pub loan : {X : Type 0} → X → (b o : ℕ) → GName → MutBor X
loan d b o δ = record { ref_ptr = (b, o); ghost_name = δ; now = d }

module _ {M : Type 1} {𝓤 : Ura M} (𝓛 : Logic 𝓤) (R : RattleType) (Tokens : SProp 𝓤) (κ : Lft) (x : MutBor R.Denot) where
  open 𝓛 use {A}

  -- what the callee is given: the reference for κ beside what the other parameters own
  abbrev pub Given : Fml → SProp 𝓤
  Given F = sep 𝓤 (sep 𝓤 (A.lft κ full_share) Tokens) (sem 𝓛 (fsep ((MutRef (named 0) κ R).own_val x (mut_vals x)) F))

  -- what it gives back: the tokens, the result, and what it says of the last values
  abbrev Gave : (Z : RattleType) {Us : Type 0} → (Us → Fml) → (Z.Denot → R.Denot → Us → Type 0) → Val → Item 𝓤
  Gave Z {Us} kept Says v =
      later (some (λ (r : Z.Denot). ((‵ (flft κ full_share) ⊛ raw Tokens) ⊛ ‵ (Z.own_val r (v ∷ [])))
      ⊛ some (λ (ws : R.Denot × Us). ‵ (fsep (fsep (fres x.ghost_name (R.coded.code ws.0))
      (fbor κ (Body (mem R) x.ref_ptr.0 x.ref_ptr.1 x.ghost_name))) (kept ws.1)) ⊛ raw (fact 𝓤 (Says r ws.0 ws.1)))))

module _ {M : Type 1} {𝓤 : Ura M} {𝓛 : Logic 𝓤} {K : Type 0} {Γ : List (Item 𝓤)} {E : Env 𝓤 𝓛.H} {C : Calls 𝓤 𝓛.H}
    {Λ : Loops 𝓤 𝓛.H} {q : Post 𝓤 𝓛.H} {dest : Place} {fn : Callee} {xs : List Operand} {rest : Code} where
  open 𝓛 use {H}

  -- an export's call that makes what is to lie there
  pub made : K → FmC 𝓤 H 𝓛.laws C → (R : RattleType)
      → Lawful 𝓛 R → (Tokens : SProp 𝓤) {First Own : Fml} {Us : Type 0} (kept : Us → Fml) (Says : R.Denot → Type 0)
      → (c : Contract 𝓤) → Triple 𝓤 (C fn) c → (y : c.Ghost) → ent 𝓤 (sep 𝓤 (sep 𝓤 Tokens (sem 𝓛 Own)) (emp 𝓤)) (c.pre y)
      → ((v : Val) → ent 𝓤 (c.post y v) (mean 𝓛 (later (some
      (λ (x : R.Denot). (raw Tokens ⊛ ‵ (R.own_val x (v ∷ []))) ⊛ some (λ (us : Us). ‵ (kept us) ⊛ raw (fact 𝓤 (Says x))))))))
      → Opds K 𝓛 (raw (c.pre y) ∷ Γ) E xs (c.args y)
      → ((v : Val) (x : R.Denot) → Says x → Typed R.mir (v ∷ []) → Seq K 𝓛 (‵ (R.own_val x (v ∷ [])) ∷ raw Tokens ∷ Γ) (lands C Λ E dest v rest q))
      → Seq K 𝓛 ((raw Tokens ⊛ ‵ (fsep First Own)) ∷ Γ) (runs C Λ E (seq (call fn xs dest) rest) q)
  made t fm R lawful Tokens {First} {Own} {Us} kept Says c known y takes gives opds go =
      split t $ move t (1 ∷ []) $ fsplit t $ drop t $ move t (1 ∷ []) $ join t $ nothing t $ move t (1 ∷ []) $ use2 𝓛 (raw (c.pre y)) takes $
      calls_at t fm c known y opds (λ v. use1 𝓛 (later (some (λ (x : R.Denot).
      (raw Tokens ⊛ ‵ (R.own_val x (v ∷ []))) ⊛ some (λ (us : Us). ‵ (kept us) ⊛ raw (fact 𝓤 (Says x)))))) (gives v) $
      await t tt $ pick t (λ x. split t $ move t (1 ∷ []) $ pick t (λ us. split t $ drop t $
      heard t (Says x) (λ s. split t $ move t (1 ∷ []) $ peeks t R (Is R) (shows 𝓛 R) x (v ∷ []) (λ is. go v x s (lawful.typed x (v ∷ []) is))))))

  -- an export's call that answers with what is to lie there, or with none, and says something of the last values
  pub perhaps : K → FmC 𝓤 H 𝓛.laws C → (R : RattleType) → One R → Lawful 𝓛 R
      → (Tokens : SProp 𝓤) {First Own : Fml} {Us : Type 0} (kept : Us → Fml) (Says : (option.the_row R).Denot → Us → Type 0)
      → (c : Contract 𝓤) → Triple 𝓤 (C fn) c → (y : c.Ghost) → ent 𝓤 (sep 𝓤 (sep 𝓤 Tokens (sem 𝓛 Own)) (emp 𝓤)) (c.pre y)
      → ((v : Val) → ent 𝓤 (c.post y v) (mean 𝓛 (later (some (λ (x : (option.the_row R).Denot).
      (raw Tokens ⊛ ‵ ((option.the_row R).own_val x (v ∷ []))) ⊛ some (λ (us : Us). ‵ (kept us) ⊛ raw (fact 𝓤 (Says x us))))))))
      → Opds K 𝓛 (raw (c.pre y) ∷ Γ) E xs (c.args y)
      → ((v u : Val) (d : R.Denot) (us : Us) → Says (Some d) us → Typed R.mir (u ∷ []) → v ≡ live 1 (of_list (u ∷ []))
      → Seq K 𝓛 (‵ (R.own_val d (u ∷ [])) ∷ ‵ (kept us) ∷ raw Tokens ∷ Γ) (lands C Λ E dest v rest q))
      → ((v : Val) (us : Us) → Says None us → v ≡ live 0 (of_list [])
      → Seq K 𝓛 (‵ (kept us) ∷ raw Tokens ∷ Γ) (lands C Λ E dest v rest q))
      → Seq K 𝓛 ((raw Tokens ⊛ ‵ (fsep First Own)) ∷ Γ) (runs C Λ E (seq (call fn xs dest) rest) q)
  perhaps t fm R one lawful Tokens {First} {Own} {Us} kept Says c known y takes gives opds one_is none_is =
      split t $ move t (1 ∷ []) $ fsplit t $ drop t $ move t (1 ∷ []) $ join t $ nothing t $ move t (1 ∷ []) $ use2 𝓛 (raw (c.pre y)) takes $
      calls_at t fm c known y opds (λ v. use1 𝓛 (later (some (λ (x : Z.Denot).
      (raw Tokens ⊛ ‵ (Z.own_val x (v ∷ []))) ⊛ some (λ (us : Us). ‵ (kept us) ⊛ raw (fact 𝓤 (Says x us)))))) (gives v) $
      await t tt $ pick t (λ x. split t $ move t (1 ∷ []) $ pick t (λ us. split t $ move t (1 ∷ []) $
      heard t (Says x us) (λ s. move t (1 ∷ []) $ split t $ move t (1 ∷ 2 ∷ 0 ∷ []) $ which v x us s))))
    where
      Z : RattleType
      Z = option.the_row R

      which : (v : Val) (x : (option.the_row R).Denot) (us : Us) → Says x us
          → Seq K 𝓛 (‵ ((option.the_row R).own_val x (v ∷ [])) ∷ ‵ (kept us) ∷ raw Tokens ∷ Γ) (lands C Λ E dest v rest q)
      which v None us s =
          fpick t (λ ws. fsplit t $ feq_l t (λ is. fpick t (λ vss. fsplit t $ feq_l t (λ all. drop t $
          none_is v us s (ap only is ∙ ap (λ (xs : List Val). live 0 (of_list xs)) all)))))
      which v (Some d) us s =
          fpick t (λ ws. fsplit t $ feq_l t (λ is. fpick t (λ vss. fsplit t $ feq_l t (λ all. fsplit t $ move t (1 ∷ []) $ drop t $
          peeks t R (Is R) (shows 𝓛 R) d vss.0 (λ sh.
          let typed = lawful.typed d vss.0 sh in let same : vss.0 ≡ only vss.0 ∷ [] = single R.mir (lone R.mir) one vss.0 typed in
          rewrite t 0 (λ (xs : List Val). ‵ (R.own_val d xs)) same refl $
          one_is v (only vss.0) d us s (subst (Typed R.mir) same typed)
          (ap only is ∙ ap (λ (xs : List Val). live 1 (of_list xs)) (all ∙ ap (λ (xs : List Val). xs ++ []) same)))))))

-- ---- an export whose first parameter points at what it is about
-- its contract is over this, which is its own
abbrev pub pointing : Ended → Ended
pointing T = record {
  signature = record {
    lifetimes = T.signature.lifetimes;
    outlives = T.signature.outlives;
    params = plain (λ κs. RawPtr) ∷ others T.signature.params;
    result = T.signature.result;
  };
  kept = (yes, others_kept T.signature.params T.kept);
}

-- how the machine stores the other parameters
abbrev pub Spelled : Ended → Type 0
Spelled T = (κs : Lfts T.signature.lifetimes) → Spells (types_at (others T.signature.params) κs)

module _ {M : Type 1} {𝓤 : Ura M} (𝓛 : Logic 𝓤) (𝓜 : Model 𝓤 𝓛.H) (𝓡 : Running 𝓤 𝓛.H 𝓜) where
  open 𝓛 use {H}

  abbrev 𝓣 : MachineTables 𝓤 H 𝓜
  𝓣 = tables 𝓤 H 𝓜 𝓡 𝓡.env

  module _ (T : Ended) (c : Clauses 𝓤 (pointing T)) (sp : Spelled T) where
    abbrev Rest : Lfts T.signature.lifetimes → List RattleType
    Rest = types_at (others T.signature.params)

    abbrev Walk : Contract 𝓤
    Walk = walk_of 𝓛 (pointing T) (stayed (pointing T)) c

    -- what a walk is given: the lifetimes, the shares, the bounds, the other arguments, and the ghost value
    abbrev pub Choice : Ptr → Type 0
    Choice p = (κs : Lfts T.signature.lifetimes) × (qs : Shares T.signature.lifetimes)
        × AllOutlive T.signature.lifetimes T.signature.outlives κs × (a : Denots (Rest κs)) × (c κs (p, a)).ghost

    abbrev pub chosen : (p : Ptr) → Choice p → Walk.Ghost
    chosen p w = ((w.0, w.1, w.2, (p, w.3), (rawptr_vals p, valss (Rest w.0) (sp w.0) w.3)), w.4)

    -- how it ends
    abbrev pub after : (b o : ℕ) → Choice (block_ptr b o) → Val → Item 𝓤
    after b o w v = raw (Walk.post (chosen (block_ptr b o) w) v)

    -- the code does so
    abbrev Goes : Fn → (p : Ptr) → Choice p → SProp 𝓤
    Goes e p w = WpFn 𝓤 H 𝓣.C 𝓣.Λ e (Walk.args (chosen p w)) (Walk.post (chosen p w))

    -- the machine stores the other arguments as their types say
    abbrev Stored : (p : Ptr) → Choice p → Type 0
    Stored p w = Are (Rest w.0) (Ises (Rest w.0)) w.3 (valss (Rest w.0) (sp w.0) w.3)

    -- it meets its contract by a walk from what lies in a block, since nothing lies at null
    pub points : (name : Callee) (e : Fn) → Closed 𝓤 H 𝓣.C 𝓣.Λ name e → ((κs : Lfts T.signature.lifetimes) → Tellss (Rest κs) (Ises (Rest κs)) (sp κs))
        → (X : (p : Ptr) → Choice p → Type 0) (F : (p : Ptr) (w : Choice p) → X p w → Fml)
        → ((w : Choice null_ptr) (x : X null_ptr w) → ent 𝓤 (sem 𝓛 (F null_ptr w x)) (never 𝓤))
        → ((p : Ptr) (w : Choice p) → ent 𝓤 ((c w.0 (p, w.3)).requires w.4) (sem 𝓛 (fex (X p w) (F p w))))
        → ((b o : ℕ) (w : Choice (block_ptr b o)) → Stored (block_ptr b o) w → (x : X (block_ptr b o) w) → Sq 𝓛
        (‵ (F (block_ptr b o) w x) ∷ entry 𝓛 (pointing T) c (chosen (block_ptr b o) w) ∷ []) (prop (Goes e (block_ptr b o) w)))
        → Meets 𝓛 (pointing T).signature (𝓣.C name) (closing 𝓛 (pointing T) c)
    points name e closed tells X F none asks walk =
        proved 𝓛 (pointing T) (stayed (pointing T)) c 𝓜 𝓡 (goes 𝓛 (pointing T)) name e closed (λ κs. (rawptr_vals, sp κs))
        (λ κs. (rawptr_Tells, tells κs)) (λ κs qs bounds a g are. go a.0 (κs, qs, bounds, a.1, g) are.1)
      where
        each : (p : Ptr) (w : Choice p) → Stored p w → (x : X p w) → Sq 𝓛 (‵ (F p w x) ∷ entry 𝓛 (pointing T) c (chosen p w) ∷ []) (prop (Goes e p w))
        each (block_ptr b o) w are x = walk b o w are x
        each null_ptr w are x = use1 𝓛 (raw (never 𝓤)) (none w x) $ move ! (1 ∷ []) $ drop ! $ by ! (never_e 𝓤 (Goes e null_ptr w))

        go : (p : Ptr) (w : Choice p) → Stored p w → ent 𝓤 (sep 𝓤 (mean 𝓛 (entry 𝓛 (pointing T) c (chosen p w))) ((c w.0 (p, w.3)).requires w.4)) (Goes e p w)
        go p w are = qed 𝓛 (entry 𝓛 (pointing T) c (chosen p w) ∷ raw ((c w.0 (p, w.3)).requires w.4) ∷ [])
            ∵ move ! (1 ∷ []) $ use1 𝓛 (‵ (fex (X p w) (F p w))) (asks p w) $ fpick ! (λ x. each p w are x)

    module _ {K : Type 0} {Γ : List (Item 𝓤)} {E : Env 𝓤 H} {q : Post 𝓤 H} {dest : Place} {fn : Callee} {xs : List Operand} {rest : Code} where
      -- its call to which is lent what lies at (b, o): of the value that comes back what the callee says makes the export's `ensures`
      pub lent : K → (R : RattleType) (d : R.Denot) (b o : ℕ) (w : Choice (block_ptr b o)) → let Tokens =
          alive 𝓛 T.signature w.0 w.1 in let Z = type_at T.signature.result w.0 in let ks =
          others_kept T.signature.params T.kept in let Us = Fins w.0 (others T.signature.params) ks w.3 in
          (Says : Z.Denot → R.Denot → Us → Type 0) → (k : Contract 𝓤) → Triple 𝓤 (𝓣.C fn) k → (y : Lft → MutBor R.Denot → Valss (Rest w.0) → k.Ghost)
          → let vals = valss (Rest w.0) (sp w.0) w.3 in
          ((κ : Lft) (δ : GName) → ent 𝓤 (sep 𝓤 (Given 𝓛 R Tokens κ (loan d b o δ) (owns (Rest w.0) w.3 vals)) (emp 𝓤)) (k.pre (y κ (loan d b o δ) vals)))
          → ((κ : Lft) (δ : GName) (v : Val) → ent 𝓤 (k.post (y κ (loan d b o δ) vals) v)
          (mean 𝓛 (Gave 𝓛 R Tokens κ (loan d b o δ) Z (lasts_of w.0 (others T.signature.params) ks w.3) Says v)))
          → ((r : Z.Denot) (new : R.Denot) (us : Us) → Says r new us → ent 𝓤 (sem 𝓛 (part_at R full_share new b o))
          ((c w.0 (block_ptr b o, w.3)).ensures w.4 r (at_exit (pointing T) w.0 (block_ptr b o, w.3) (tt, us))))
          → ((κ : Lft) (δ : GName) → Opds K 𝓛 (raw (k.pre (y κ (loan d b o δ) vals))
          ∷ ‵ (flent κ (Body (mem R) b o δ)) ∷ Γ) E xs (k.args (y κ (loan d b o δ) vals)))
          → ((v : Val) (r : Z.Denot) → Is Z r (v ∷ []) → Seq K 𝓛 (after b o w v ∷ Γ) (lands 𝓣.C 𝓣.Λ E dest v rest q))
          → Seq K 𝓛 (‵ (part_at R full_share d b o) ∷ entry 𝓛 (pointing T) c (chosen (block_ptr b o) w) ∷ Γ) (runs 𝓣.C 𝓣.Λ E (seq (call fn xs dest) rest) q)
      lent t R d b o w Says k known y takes gives leave opds go =
          let Tokens = alive 𝓛 T.signature w.0 w.1 in let Z = type_at T.signature.result w.0 in let kept =
          lasts_of w.0 (others T.signature.params) (others_kept T.signature.params T.kept) w.3 in let vals =
          valss (Rest w.0) (sp w.0) w.3 in
          lft_new t tt (λ α. let κ : Lft = α ∷ [] in move t (1 ∷ []) $
          use1 𝓛 (later (some (λ (δ : GName). ‵ ((MutRef (named 0) κ R).own_val (loan d b o δ) (vptr b o ∷ [])) ⊛ ‵ (flent κ (Body (mem R) b o δ)))))
          (lends_ref 𝓛 R (named 0) κ d b o) $ await t tt $ pick t (λ δ. split t $
          let x : MutBor R.Denot = loan d b o δ in
          -- [the reference; the lender's part; the token; what the parameters own]
          move t (3 ∷ []) $ split t $ move t (1 ∷ []) $ fsplit t $ drop t $ move t (2 ∷ 0 ∷ []) $
          fjoin t $ move t (3 ∷ 1 ∷ 0 ∷ []) $ join t $ join t $ nothing t $ move t (1 ∷ 0 ∷ []) $ join t $
          use1 𝓛 (raw (k.pre (y κ x vals))) (takes κ δ) $
          calls_at t (framed 𝓤 H 𝓜 𝓣) k known (y κ x vals) (opds κ δ) (λ v. use1 𝓛 (Gave 𝓛 R Tokens κ x Z kept Says v)
          (gives κ δ v) $ await t tt $ pick t (λ r. split t $ move t (1 ∷ []) $ pick t (λ ws. split t $ move t (1 ∷ []) $
          heard t (Says r ws.0 ws.1) (λ e. fsplit t $ fsplit t $
          -- [what is said of the last value; its borrow; of the other parameters; the tokens with the result; the lender's part]
          move t (3 ∷ []) $ split t $ split t $ lft_end t tt $ move t (0 ∷ 6 ∷ 3 ∷ []) $
          use3 𝓛 (later (‵ (part_at R full_share ws.0 b o))) (ref_back 𝓛 R κ δ ws.0 b o) $ await t tt $
          -- [what lies there; the tokens; the result; the borrow; of the other parameters]
          move t (4 ∷ []) $ nothing t $ fjoin t $ move t (3 ∷ []) $
          peeks t Z (Is Z) (shows 𝓛 Z) r (v ∷ []) (λ is. move t (3 ∷ 1 ∷ 0 ∷ 2 ∷ []) $
          group t 4 $ use1 𝓛 (after b o w v) (ends 𝓛 (pointing T) c (chosen (block_ptr b o) w) v r (tt, ws.1)
          (part_at R full_share ws.0 b o) (leave r ws.0 ws.1 e)) $ move t (1 ∷ []) $ drop t $ go v r is)))))))

  -- ---- an export that makes what is to lie there
  abbrev alone : Ended
  alone = record { signature = record { lifetimes = 0; outlives = []; params = plain (λ κs. RawPtr) ∷ []; result = plain (λ κs. unit) }; kept = (yes, tt) }

  abbrev giving : RattleType → Signature
  giving R = record { lifetimes = 0; outlives = []; params = []; result = plain (λ κs. R) }

  -- the pointer is cast, the value is made, and written there
  abbrev writing : Ty → Callee → Fn
  writing τ callee = record {
    lifetimes = 0;
    outlives = [];
    ty_params = [];
    givens = 0;
    params = 1;
    locals = local ty_unit value_local ∷ local ty_ptr value_local ∷ local ty_ptr value_local ∷ local τ value_local ∷ [];
    body = seq (assign (place 2 []) (rv_opd (copy (place 1 [])))) (seq (call callee [] (place 3 [])) (seq
        (assign (place 2 (deref τ ∷ [])) (rv_opd (copy (place 3 [])))) (seq (assign (place 0 []) (rv_opd opd_unit)) return)));
  }

  pub inits : (R : RattleType) → One R → Lawful 𝓛 R
      → (c : Clauses 𝓤 alone) (name : Callee) {callee : Callee} → Closed 𝓤 H 𝓣.C 𝓣.Λ name (writing (lone R.mir) callee)
      → (Says : R.Denot → Type 0) (s : Spec 𝓤 (giving R)) → Meets 𝓛 (giving R) (𝓣.C callee) s
      → let k = triple_of 𝓛 (giving R) s in (y : k.Ghost) → ent 𝓤 (sep 𝓤 (sep 𝓤 (emp 𝓤) (sem 𝓛 ftrue)) (emp 𝓤)) (k.pre y)
      → ((v : Val) → ent 𝓤 (k.post y v) (mean 𝓛 (later (some
      (λ (x : R.Denot). (raw (emp 𝓤) ⊛ ‵ (R.own_val x (v ∷ []))) ⊛ some (λ (us : Unit {0}). ‵ ftrue ⊛ raw (fact 𝓤 (Says x))))))))
      → ((p : Ptr) (g : (c tt (p, tt)).ghost) → ent 𝓤 ((c tt (p, tt)).requires g) (sem 𝓛 (fex (Unit {0}) (λ x. room_at R p))))
      → ((b o : ℕ) (g : (c tt (block_ptr b o, tt)).ghost) (x : R.Denot) → Says x → ent 𝓤 (sem 𝓛 (part_at R full_share x b o))
      ((c tt (block_ptr b o, tt)).ensures g tt (at_exit alone tt (block_ptr b o, tt) (tt, tt))))
      → Meets 𝓛 alone.signature (𝓣.C name) (closing 𝓛 alone c)
  inits R one lawful c name {callee} closed Says s met y takes gives asks leave = let unspelled : Spelled alone = λ κs. tt in
      points alone c unspelled name (writing (lone R.mir) callee) closed
      (λ κs. tt) (λ p w. Unit {0}) (λ p w x. room_at R p) (λ w x. id⊢ 𝓤 _) (λ p w. asks p w.4) (λ b o w are x.
      enter ! _ _ _ _ _ $ alloc_all ! (λ l. pass_all ! refl ((tt, tt), tt) $
      sets ! (of_opd ! (get ! refl)) refl (tt, tt) $ move ! (1 ∷ []) $
      made ! (framed 𝓤 H 𝓜 𝓣) R lawful (emp 𝓤) (λ (us : Unit {0}). ftrue) Says (triple_of 𝓛 (giving R) s) met y takes gives (no_more !)
      (λ v x e wt. let ok = (subst (λ τs. Typed τs (v ∷ [])) one wt).0 in
      lands_as ! refl refl ok $ assigns ! (of_opd ! (get ! refl)) (through ! refl (stop !)) (init ! 2 refl ok) $
      sets ! (of_opd ! (unit_lit !)) refl (tt, tt) $ returns ! (look_at ! 0 refl) $ free_all ! refl $
      by ! (makes 𝓛 alone c (chosen alone c unspelled (block_ptr b o) w) vunit tt (tt, tt) R one x b o v
      (emp∗ 𝓤 (emp 𝓤)) (qed 𝓛 [] ∵ feq_i ! _ (vunit ∷ []) _ refl $ done !) (leave b o w.4 x e)))))
