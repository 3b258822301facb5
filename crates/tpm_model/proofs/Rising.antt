-- Counters rise.
use Rattle.std.proofs.Common.{◌≡◌, ℕ, ◌<◌, ◌≤◌, max, List, [], ◌∷◌, ◌++◌, Ok, Option, Some, None, Bool, true, false}
use Rattle.std.proofs.Common.{refl, sym, ap, ◌∙◌, subst, arith, inl, inr}
use Rattle.std.proofs.lemmas.Bool.Decides.{nat_tests}
use Rattle.std.specs.Prelude.{◌==◌, ◌⊎◌, if◌then◌else◌, IfSome}
use Rattle.tpm_wire.proofs.Agreement.{bind_ok}
use Rattle.tpm_types.specs.declared.handle_sets.NvAuthHandle.{NvAuthHandle}
use Rattle.tpm_types.specs.declared.tpms.NvPublic.{NvPublic}
use Rattle.tpm_commands.specs.declared.command.CommandBody.{CommandBody}
use Rattle.tpm_commands.specs.declared.command.ReplyBody.{ReplyBody}
use Rattle.tpm_commands.specs.declared.command.CommandBody.TheVariants as bodies
use Rattle.tpm_commands.specs.declared.command.ReplyBody.TheVariants as replies
use Rattle.tpm_model.specs.Steps.{History, Accepted, Origin}
use Rattle.tpm_model.specs.Counters.{Counter, has_index, counter_in, without, next_value, with_increment, value_of}
use Rattle.tpm_model.specs.Counters.{NvMemory, defined, nv_by, nv_memory, value_at}
use Rattle.tpm_model.specs.Kept.{is_above, check_counters, IsFair}
use Rattle.tpm_model.specs.Present.{present}
use Rattle.tpm_model.specs.Answers.{Done, outcome, next}
use Rattle.tpm_model.specs.Runs.Stimulus.{Given}
use Rattle.tpm_model.specs.Runs.{Stimulus, after}
use Rattle.tpm_model.specs.Actions.{defined_counter, increment, then_reply, action}
use Rattle.tpm_model.proofs.Accepted.{passed, along, next_is, was_some}
use Rattle.tpm_model.proofs.Kept.{checked}
use Rattle.tpm_model.proofs.Runs.{after-append}

-- ---- the value of an index after each change of NV memory

abbrev pub value_in : List Counter → ℕ → Option ℕ
value_in counters i = value_of (counter_in counters i)

value_defined : (auth : List ℕ) (public : NvPublic) (counters : List Counter) (i : ℕ) → value_in (counters ++ defined auth public ∷ []) i ≡ value_in counters i
value_defined auth public [] i = go (public.index == i)
  where
    go : (b : Bool) → value_of (if b then Some (defined auth public) else None) ≡ None
    go true = refl
    go false = refl
value_defined auth public (c ∷ counters) i = go (has_index i c) (value_defined auth public counters i)
  where
    go : (b : Bool) → value_in (counters ++ defined auth public ∷ []) i ≡ value_in counters i
        → value_of (if b then Some c else counter_in (counters ++ defined auth public ∷ []) i) ≡ value_of (if b then Some c else counter_in counters i)
    go true later = refl
    go false later = later

abbrev no_value : Option ℕ
no_value = None

value_without : (j : ℕ) (counters : List Counter) (i : ℕ) → value_in (without j counters) i ≡ (if j == i then None else value_in counters i)
value_without j [] i = go (j == i)
  where
    go : (b : Bool) → no_value ≡ (if b then None else None)
    go true = refl
    go false = refl
value_without j (c ∷ counters) i = go (has_index j c) (has_index i c) refl refl (value_without j counters i)
  where
    go : (b d : Bool) → has_index j c ≡ b → has_index i c ≡ d → value_in (without j counters) i ≡ (if j == i then None else value_in counters i)
        → value_in (without j (c ∷ counters)) i ≡ (if j == i then None else value_in (c ∷ counters) i)
    go true true t u later = let same : (j == i) ≡ true = grind (arith, nat_tests) in rw (t, same) (later ∙ rw same refl)
    go true false t u later = rw (t, u) later
    go false true t u later = let differ : (j == i) ≡ false = grind (arith, nat_tests) in rw (t, u, differ) refl
    go false false t u later = rw (t, u) later

abbrev IsRaised : (j i most : ℕ) → (new old : Option ℕ) → Type 0
IsRaised j i most new old = (new ≡ old) ⊎ ((j ≡ i) × (new ≡ Some (next_value most old)))

value_raised : (j most : ℕ) (counters : List Counter) (i : ℕ) → IsRaised j i most (value_in (with_increment j most counters) i) (value_in counters i)
value_raised j most [] i = inl refl
value_raised j most (c ∷ counters) i = go (has_index j c) (has_index i c) refl refl (value_raised j most counters i)
  where
    go : (b d : Bool) → has_index j c ≡ b → has_index i c ≡ d → IsRaised j i most (value_in (with_increment j most counters) i) (value_in counters i)
        → IsRaised j i most (value_in (with_increment j most (c ∷ counters)) i) (value_in (c ∷ counters) i)
    go true true t u later = let same : j ≡ i = grind (arith, nat_tests) in inr (same, rw (t, u) refl)
    go true false t u later = inl (rw (t, u) refl)
    go false true t u later = inl (rw (t, u) refl)
    go false false t u later = rw (t, u) later

-- the value that an increment gives an index that is defined
pub value_given : (i most : ℕ) (counters : List Counter) (c : Counter) → counter_in counters i ≡ Some c
    → value_in (with_increment i most counters) i ≡ Some (next_value most (value_in counters i))
value_given i most [] c e = absurd (let z : ⊥ = cc in z)
value_given i most (d ∷ counters) c e =
    elim (has_index i d) as (λ b. has_index i d ≡ b → value_in (with_increment i most (d ∷ counters)) i ≡ Some (next_value most (value_in (d ∷ counters) i))) [
      | true ↦ λ t. rw t (rw t refl)
      | false ↦
          λ f.
          let later : counter_in counters i ≡ Some c = sym (ap (λ b. if b then Some d else counter_in counters i) f) ∙ e in
          rw f (rw f (value_given i most counters c later))
    ] refl

-- ---- what holds of the greatest and of an index's value along runs

-- It holds without the value, with more as the greatest, and of the next value.
pub record IsKept (P : ℕ → Option ℕ → Type 0) : Type 0 where
  pub gone : (most : ℕ) (value : Option ℕ) → P most value → P most None
  pub more : (most n : ℕ) (value : Option ℕ) → P most value → P (max most n) value
  pub raised : (most : ℕ) (value : Option ℕ) → P most value → P (max most (next_value most value)) (Some (next_value most value))

abbrev pub HoldsOf : (ℕ → Option ℕ → Type 0) → ℕ → NvMemory → Type 0
HoldsOf P i nv = P nv.greatest (value_in nv.counters i)

kept_by : (P : ℕ → Option ℕ → Type 0) → IsKept P → (i : ℕ) (body : CommandBody) (nv : NvMemory) → HoldsOf P i nv → HoldsOf P i (nv_by body nv)
kept_by P k i (bodies.NvDefineSpace asked) nv f = subst (P nv.greatest) (sym (value_defined asked.auth asked.public nv.counters i)) f
kept_by P k i (bodies.NvUndefineSpace index) nv f = subst (P nv.greatest) (sym (value_without index nv.counters i)) (go (index == i))
  where
    go : (b : Bool) → P nv.greatest (if b then None else value_in nv.counters i)
    go true = k.gone nv.greatest (value_in nv.counters i) f
    go false = f
kept_by P k i (bodies.NvIncrement by index) nv f =
    let value = value_in nv.counters i in
    elim (value_raised index nv.greatest nv.counters i) [
      | inl same ↦ subst (P (max nv.greatest (next_value nv.greatest (value_in nv.counters index)))) (sym same)
          (k.more nv.greatest (next_value nv.greatest (value_in nv.counters index)) value f)
      | inr r ↦ subst
          (λ (j : ℕ). P (max nv.greatest (next_value nv.greatest (value_in nv.counters j))) (value_in (with_increment index nv.greatest nv.counters) i))
          (sym r.0)
          (subst (P (max nv.greatest (next_value nv.greatest value))) (sym r.1) (k.raised nv.greatest value f))
    ]
kept_by P k i _ nv f = f

pub kept_along : (P : ℕ → Option ℕ → Type 0) → IsKept P → (o : Origin) (i : ℕ) (es : List Stimulus) (h : History) → HoldsOf P i (nv_memory o h)
    → HoldsOf P i (nv_memory o (after o h es))
kept_along P k o i = along (λ h. HoldsOf P i (nv_memory o h)) o (λ h bytes n d s f. kept_by P k i d.command.body (nv_memory o h) f) (λ h f. f)

-- The next increment gives more than w, and so does each later one.
abbrev pub IsFloor : ℕ → (greatest : ℕ) → Option ℕ → Type 0
IsFloor w most value = (w ≤ most) × (w < next_value most value)

floor_more : (w most more : ℕ) (value : Option ℕ) → IsFloor w most value → IsFloor w (max most more) value
floor_more w most more None f = (omega (arith, f.0), omega (arith, f.0))
floor_more w most more (Some v) f = (omega (arith, f.0), f.1)

pub floor : (w : ℕ) → IsKept (IsFloor w)
floor w = record { gone = λ most value f. (f.0, omega (arith, f.0)); more = floor_more w; raised = λ most value f. (omega (arith, f.0), omega (arith, f.1)) }

-- No value is more than the greatest.
abbrev pub IsBelow : (greatest : ℕ) → Option ℕ → Type 0
IsBelow most value = IfSome value (λ v. v ≤ most)

below_more : (most more : ℕ) (value : Option ℕ) → IsBelow most value → IsBelow (max most more) value
below_more most more None f = tt
below_more most more (Some v) f = omega (arith, f)

pub below : IsKept IsBelow
below = record { gone = λ most value f. tt; more = below_more; raised = λ most value f. omega arith }

-- So it is in a fair NV memory.
pub value_below : (greatest i : ℕ) (counters : List Counter) → check_counters greatest counters ≡ Ok tt → IsBelow greatest (value_in counters i)
value_below greatest i [] e = tt
value_below greatest i (c ∷ counters) e =
    let h = checked greatest c counters e in go (has_index i c) (not_above greatest c.value h.below) (value_below greatest i counters h.others)
  where
    not_above : (greatest : ℕ) (value : Option ℕ) → is_above greatest value ≡ false → IsBelow greatest value
    not_above greatest None e = tt
    not_above greatest (Some v) e = grind (arith, nat_tests, e)

    go : (b : Bool) → IsBelow greatest c.value → IsBelow greatest (value_in counters i)
        → IsBelow greatest (value_of (if b then Some c else counter_in counters i))
    go true here later = here
    go false here later = later

pub floor_here : (most : ℕ) (value : Option ℕ) (w : ℕ) → IsBelow most value → value ≡ Some w → IsFloor w most value
floor_here most None w b e = absurd (let k : ⊥ = cc in k)
floor_here most (Some v) w b e = let k : v ≡ w = cc in (omega (arith, b, k), omega (arith, k))

-- ---- an accepted increment

abbrev pub greatest_at : Origin → History → ℕ
greatest_at o h = (nv_memory o h).greatest

pub was_there : (greatest : ℕ) (there : Option Counter) (by : NvAuthHandle) (i : ℕ) (reply : ReplyBody)
    → then_reply (increment greatest there by i) replies.NvIncrement ≡ Ok reply → (c : Counter) × (there ≡ Some c)
was_there greatest there by i reply e =
    let a = bind_ok (increment greatest there by i) _ reply e in
    let b = bind_ok (defined_counter there) _ a.0 a.1 in
    (b.0, was_some there _ b.0 b.1)

gives_next : (o : Origin) (h : History) (i : ℕ) (by : NvAuthHandle) (n : List ℕ) (d : Done) → action (present o h) d.command.body n ≡ Ok d.reply.body
    → d.command.body ≡ bodies.NvIncrement by i
    → value_at o (Accepted d.command d.reply n ∷ h) i ≡ Some (next_value (greatest_at o h) (value_at o h i))
gives_next o h i by n d act is =
    let nv = nv_memory o h in
    let there = was_there nv.greatest (counter_in nv.counters i) by i d.reply.body (ap (λ b. action (present o h) b n) (sym is) ∙ act) in
    ap (λ body. value_in (nv_by body nv).counters i) is ∙ value_given i nv.greatest nv.counters there.0 there.1

-- what the index has after the buffer
pub given_by : (o : Origin) (h : History) (bytes n : List ℕ) (d : Done) (by : NvAuthHandle) (i : ℕ) → outcome (present o h) bytes n ≡ Ok d
    → d.command.body ≡ bodies.NvIncrement by i → value_at o (next o h bytes n) i ≡ Some (next_value (greatest_at o h) (value_at o h i))
given_by o h bytes n d by i e is =
    ap (λ (g : History). value_at o g i) (next_is o h bytes n d e) ∙ gives_next o h i by n d (passed (present o h) bytes n d e).act is

-- what it has after the stimuli and the buffer
left_by : (o : Origin) (es : List Stimulus) (bytes n : List ℕ) (d : Done) (by : NvAuthHandle) (i : ℕ)
    → outcome (present o (after o [] es)) bytes n ≡ Ok d → d.command.body ≡ bodies.NvIncrement by i
    → value_at o (after o [] (es ++ Given bytes n ∷ [])) i ≡ Some (next_value (greatest_at o (after o [] es)) (value_at o (after o [] es) i))
left_by o es bytes n d by i e is =
    ap (λ (g : History). value_at o g i) (after-append o [] es (Given bytes n ∷ [])) ∙ given_by o (after o [] es) bytes n d by i e is

pub more_than_had : (o : Origin) (es fs : List Stimulus) (bytes n : List ℕ) (d : Done) (by : NvAuthHandle) (i w : ℕ)
    → IsFair o.nv → value_at o (after o [] es) i ≡ Some w
    → outcome (present o (after o [] (es ++ fs))) bytes n ≡ Ok d → d.command.body ≡ bodies.NvIncrement by i
    → (v : ℕ) × (value_at o (after o [] (es ++ fs ++ Given bytes n ∷ [])) i ≡ Some v) × (w < v)
more_than_had o es fs bytes n d by i w fair had e is =
    let h = after o [] es in
    let g = after o [] (es ++ fs) in
    let few = kept_along IsBelow below o i es [] (value_below o.nv.greatest i o.nv.counters fair.counters) in
    let held = kept_along (IsFloor w) (floor w) o i fs h (floor_here (greatest_at o h) (value_at o h i) w few had) in (
      next_value (greatest_at o g) (value_at o g i),
      left_by o (es ++ fs) bytes n d by i e is,
      (subst (λ (l : History). HoldsOf (IsFloor w) i (nv_memory o l)) (sym (after-append o [] es fs)) held).1,
    )

pub more_than_made : (o : Origin) (es : List Stimulus) (bytes n : List ℕ) (d : Done) (by : NvAuthHandle) (i : ℕ)
    → value_at o [] i ≡ None → outcome (present o (after o [] es)) bytes n ≡ Ok d → d.command.body ≡ bodies.NvIncrement by i
    → (v : ℕ) × (value_at o (after o [] (es ++ Given bytes n ∷ [])) i ≡ Some v) × (o.nv.greatest < v)
more_than_made o es bytes n d by i none e is =
    let m = o.nv.greatest in
    let g = after o [] es in (
      next_value (greatest_at o g) (value_at o g i),
      left_by o es bytes n d by i e is,
      (kept_along (IsFloor m) (floor m) o i es [] (omega arith, subst (λ (x : Option ℕ). m < next_value m x) (sym none) (omega arith))).1,
    )
