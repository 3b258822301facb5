-- Calls of an export that makes a device and then lends it: each is given a part of what is owned, and gives the tokens back.
use mir.Syntax.{Callee, Place, Opd as Operand, Body as Code, seq, call}
use prog.Wp.{Env}
use base.Logic.{ent, sep, emp}
use base.Fml.{fsep, fbor}
use denote.RattleType.{RattleType}
use types.Kit.{Post, Seq, Item, lands, runs, use2}
use types.Run.{Opds}
use Rattle.tpm_c.proofs.Steps.{ℕ, List, [], ◌∷◌, Ura, full_share, named, Val, vptr, SProp}
use Rattle.tpm_c.proofs.Steps.{Lft, GName, Fml, flft, flent, fres, Calls, Loops, Logic, sem, Body, fact}
use Rattle.tpm_c.proofs.Steps.{‵, raw, ◌⊛◌, some, later, ◌$◌, move, drop, use1, use3, split, join, pick, fsplit, fjoin, mean}
use Rattle.tpm_c.proofs.Steps.{await, lft_new, lft_end, FmC, mem, part_at, Is, shows, MutBor, MutRef}
use Rattle.tpm_c.proofs.Steps.{lends_ref, ref_back, peeks, heard, nothing, Contract, Triple, calls_at}
use Rattle.tpm_c.proofs.Lending.{Given, loan}

module _ {M : Type 1} {𝓤 : Ura M} {𝓛 : Logic 𝓤} {K : Type 0} {Γ : List (Item 𝓤)} {E : Env 𝓤 𝓛.H} {C : Calls 𝓤 𝓛.H}
    {Λ : Loops 𝓤 𝓛.H} {q : Post 𝓤 𝓛.H} {dest : Place} {fn : Callee} {xs : List Operand} {rest : Code} where
  open 𝓛 use {H}

  -- a call that is given the tokens and what its arguments own
  pub asks : K → FmC 𝓤 H 𝓛.laws C → (Z : RattleType) → (Tokens : SProp 𝓤) {Own : Fml} {Us : Type 0} (kept : Us → Fml)
      (Says : Z.Denot → Us → Type 0) → (c : Contract 𝓤) → Triple 𝓤 (C fn) c → (y : c.Ghost)
      → ent 𝓤 (sep 𝓤 (sep 𝓤 Tokens (sem 𝓛 Own)) (emp 𝓤)) (c.pre y)
      → ((v : Val) → ent 𝓤 (c.post y v) (mean 𝓛 (later (some (λ (x : Z.Denot).
      (raw Tokens ⊛ ‵ (Z.own_val x (v ∷ []))) ⊛ some (λ (us : Us). ‵ (kept us) ⊛ raw (fact 𝓤 (Says x us))))))))
      → Opds K 𝓛 (raw (c.pre y) ∷ Γ) E xs (c.args y)
      → ((v : Val) (x : Z.Denot) (us : Us) → Says x us → Is Z x (v ∷ []) → Seq K 𝓛 (‵ (kept us) ∷ raw Tokens ∷ Γ) (lands C Λ E dest v rest q))
      → Seq K 𝓛 (raw Tokens ∷ ‵ Own ∷ Γ) (runs C Λ E (seq (call fn xs dest) rest) q)
  asks t fm Z Tokens {Own} {Us} kept Says c known y takes gives opds go =
      join t $ nothing t $ move t (1 ∷ []) $ use2 𝓛 (raw (c.pre y)) takes $
      calls_at t fm c known y opds (λ v. use1 𝓛 (later (some (λ (x : Z.Denot).
      (raw Tokens ⊛ ‵ (Z.own_val x (v ∷ []))) ⊛ some (λ (us : Us). ‵ (kept us) ⊛ raw (fact 𝓤 (Says x us)))))) (gives v) $
      await t tt $ pick t (λ x. split t $ move t (1 ∷ []) $ pick t (λ us. split t $ move t (1 ∷ []) $
      heard t (Says x us) (λ s. move t (1 ∷ []) $ split t $ move t (1 ∷ 2 ∷ 0 ∷ []) $
      peeks t Z (Is Z) (shows 𝓛 Z) x (v ∷ []) (λ is. drop t $ go v x us s is)))))

  -- a call to which is lent what lies at (b, o)
  pub lends : K → FmC 𝓤 H 𝓛.laws C → (R : RattleType) (d : R.Denot) (b o : ℕ) (Z : RattleType) (Tokens : SProp 𝓤) {Own : Fml} {Us : Type 0}
      (kept : Us → Fml) (Says : Z.Denot → R.Denot → Us → Type 0) → (k : Contract 𝓤) → Triple 𝓤 (C fn) k → (y : Lft → MutBor R.Denot → k.Ghost)
      → ((κ : Lft) (δ : GName) → ent 𝓤 (sep 𝓤 (Given 𝓛 R Tokens κ (loan d b o δ) Own) (emp 𝓤)) (k.pre (y κ (loan d b o δ))))
      → ((κ : Lft) (δ : GName) (v : Val) → ent 𝓤 (k.post (y κ (loan d b o δ)) v) (mean 𝓛 (later (some (λ (r : Z.Denot).
      ((‵ (flft κ full_share) ⊛ raw Tokens) ⊛ ‵ (Z.own_val r (v ∷ [])))
      ⊛ some (λ (ws : R.Denot × Us). ‵ (fsep (fsep (fres δ (R.coded.code ws.0)) (fbor κ (Body (mem R) b o δ))) (kept ws.1))
      ⊛ raw (fact 𝓤 (Says r ws.0 ws.1))))))))
      → ((κ : Lft) (δ : GName) → Opds K 𝓛 (raw (k.pre (y κ (loan d b o δ))) ∷ ‵ (flent κ (Body (mem R) b o δ)) ∷ Γ) E xs (k.args (y κ (loan d b o δ))))
      → ((v : Val) (r : Z.Denot) (new : R.Denot) (us : Us) → Says r new us → Is Z r (v ∷ [])
      → Seq K 𝓛 (‵ (part_at R full_share new b o) ∷ raw Tokens ∷ Γ) (lands C Λ E dest v rest q))
      → Seq K 𝓛 (‵ (part_at R full_share d b o) ∷ raw Tokens ∷ ‵ Own ∷ Γ) (runs C Λ E (seq (call fn xs dest) rest) q)
  lends t fm R d b o Z Tokens {Own} {Us} kept Says k known y takes gives opds go =
      lft_new t tt (λ α. let κ : Lft = α ∷ [] in move t (1 ∷ []) $
      use1 𝓛 (later (some (λ (δ : GName). ‵ ((MutRef (named 0) κ R).own_val (loan d b o δ) (vptr b o ∷ [])) ⊛ ‵ (flent κ (Body (mem R) b o δ)))))
      (lends_ref 𝓛 R (named 0) κ d b o) $ await t tt $ pick t (λ δ. split t $
      -- [the reference; the lender's part; the token; the other tokens; what the arguments own]
      move t (0 ∷ 4 ∷ []) $ fjoin t $ move t (2 ∷ 3 ∷ 0 ∷ []) $ join t $ join t $ nothing t $ move t (1 ∷ 0 ∷ []) $ join t $
      use1 𝓛 (raw (k.pre (y κ (loan d b o δ)))) (takes κ δ) $
      calls_at t fm k known (y κ (loan d b o δ)) (opds κ δ) (λ v. use1 𝓛 (later (some (λ (r : Z.Denot).
      ((‵ (flft κ full_share) ⊛ raw Tokens) ⊛ ‵ (Z.own_val r (v ∷ [])))
      ⊛ some (λ (ws : R.Denot × Us). ‵ (fsep (fsep (fres δ (R.coded.code ws.0)) (fbor κ (Body (mem R) b o δ))) (kept ws.1))
      ⊛ raw (fact 𝓤 (Says r ws.0 ws.1)))))) (gives κ δ v) $
      await t tt $ pick t (λ r. split t $ move t (1 ∷ []) $ pick t (λ ws. split t $ move t (1 ∷ []) $
      heard t (Says r ws.0 ws.1) (λ e. fsplit t $ fsplit t $
      -- [what is said of the last value; its borrow; of the other parameters; the tokens with the result; the lender's part]
      move t (3 ∷ []) $ split t $ split t $ lft_end t tt $ move t (0 ∷ 6 ∷ 3 ∷ []) $
      use3 𝓛 (later (‵ (part_at R full_share ws.0 b o))) (ref_back 𝓛 R κ δ ws.0 b o) $ await t tt $
      -- [what lies there; the tokens; the result; the borrow; of the other parameters]
      move t (3 ∷ []) $ drop t $ move t (3 ∷ []) $ drop t $ move t (2 ∷ []) $
      peeks t Z (Is Z) (shows 𝓛 Z) r (v ∷ []) (λ is. drop t $ go v r ws.0 ws.1 e is)))))))
