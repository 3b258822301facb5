-- NV memory stays as a device may have it.
use Rattle.std.proofs.Common.{◌≡◌, ℕ, ◌+◌, ◌<◌, ◌≤◌, max, List, [], ◌∷◌, ◌++◌, length, take, Result, Ok, Err, Option, Some, None}
use Rattle.std.proofs.Common.{Bool, true, false, not, refl, sym, ap, ◌∙◌, subst, arith, zero, suc, All}
use Rattle.std.proofs.lemmas.Bool.{and_parts}
use Rattle.std.proofs.lemmas.Bool.Decides.{nat_tests}
use Rattle.std.proofs.lemmas.List.{length-append}
use Rattle.std.proofs.lemmas.List.Sums.{length-filter, count_by-le-length}
use Rattle.std.proofs.lemmas.List.Elements.{All-nil, All-head, All-tail, All-cons, All-append, All-filter}
use Rattle.std.specs.Prelude.{◌&&◌, ◌==◌, is_some, IfSome, nat_lt, nat_le, if◌then◌else◌}
use Rattle.tpm_wire.specs.declared.refusal.Refusal.{Refusal}
use Rattle.tpm_wire.specs.Token.{Here, at_start, number_of, or_fault}
use Rattle.tpm_wire.specs.Layout.{Form, either}
use Rattle.tpm_wire.specs.Reading.{◌>>=◌, refuse as refuse_reading, unless, found, entries, read, finish}
use Rattle.tpm_wire.specs.Buffers.{too_few, buffer, number_in, any_number}
use Rattle.tpm_wire.specs.Path.{Spells}
use Rattle.tpm_wire.specs.ResponseCodes.{of_parameter, rc_attributes, rc_nv_defined, rc_size, rc_value}
use Rattle.tpm_wire.specs.Structures.{counted}
use Rattle.tpm_wire.proofs.Agreement.{bind_ok, number_ok}
use Rattle.tpm_wire.proofs.Buffers.{buffer_sound}
use Rattle.tpm_wire.proofs.Whole.{spells_read}
use Rattle.tpm_types.specs.declared.handle_sets.NvAuthHandle.{NvAuthHandle}
use Rattle.tpm_types.specs.declared.tpms.NvPublic.{NvPublic}
use Rattle.tpm_types.specs.Alg.{digest_len}
use Rattle.tpm_types.specs.Tpma.{is_written}
use Rattle.tpm_types.specs.Tpm2b.{auth_value}
use Rattle.tpm_types.specs.Tpms.{nv_public}
use Rattle.tpm_commands.specs.declared.command.CommandBody.{CommandBody}
use Rattle.tpm_commands.specs.declared.command.ReplyBody.{ReplyBody}
use Rattle.tpm_commands.specs.declared.command.CommandBody.TheVariants as bodies
use Rattle.tpm_commands.specs.declared.command.ReplyBody.TheVariants as replies
use Rattle.tpm_hmac.specs.Sessions.{trim}
use Rattle.tpm_hmac.proofs.Trimming.{trim-trim}
use Rattle.tpm_model.specs.NvMemory.{Counter, NvMemory, new_nv}
use Rattle.tpm_model.specs.Steps.{History, Origin}
use Rattle.tpm_model.specs.Counters.{has_index, counter_in, next_value, value_of, incremented, with_increment}
use Rattle.tpm_model.specs.Counters.{defined, nv_by, nv_memory}
use Rattle.tpm_model.specs.Present.{Present, present}
use Rattle.tpm_model.specs.Authorization.{refuse, is_empty}
use Rattle.tpm_model.specs.Actions.{is_definable, check_define, counter_size, most_counters, action}
use Rattle.tpm_model.specs.Kept.{check_kept_public, check_kept_auth, IsKept, check_counters, IsFair, judged}
use Rattle.tpm_model.specs.Kept.{value_of_number, number_of_value, kept_value, kept_counter, magic_number, version_number}
use Rattle.tpm_model.specs.Kept.{kept_contents, digest_behind, kept_memory}
use Rattle.tpm_model.specs.Runs.{Stimulus, after}
use Rattle.tpm_model.proofs.Accepted.{along}
use Rattle.tpm_model.proofs.Kept.{refused_none, is_none, defined_kept, incremented_kept, checked_defined, checked_without}
use Rattle.tpm_model.proofs.Kept.{checked_incremented}

-- ---- a new device

pub fair_new : (greatest : ℕ) → IsFair (new_nv greatest)
fair_new greatest = record { few = omega arith; counters = refl; each = All-nil IsKept }

-- ---- what a definition leaves

-- what was checked of it
record Checked (there : Option Counter) (count : ℕ) (auth : List ℕ) (public : NvPublic) : Type 0 where
  attrs : is_definable public.attrs ≡ true
  auth_fits : length (trim auth) ≤ digest_len public.alg
  policy : (not (is_empty public.policy) && not (length public.policy == digest_len public.alg)) ≡ false
  size : public.data_size ≡ counter_size
  new : there ≡ None
  room : count < most_counters

not_false : (b : Bool) → not b ≡ false → b ≡ true
not_false true e = refl
not_false false e = absurd (let z : ⊥ = cc in z)

at_most : (n m : ℕ) → nat_lt n m ≡ false → m ≤ n
at_most n m e = grind (arith, nat_tests, e)

below : (n m : ℕ) → nat_le n m ≡ false → m < n
below n m e = grind (arith, nat_tests, e)

at_least : (n m : ℕ) → nat_le n m ≡ true → n ≤ m
at_least n m e = grind (arith, nat_tests, e)

is_size : (n m : ℕ) → (n == m) ≡ true → n ≡ m
is_size n m e = grind (arith, nat_tests, e)

was_checked : (there : Option Counter) (count : ℕ) (auth : List ℕ) (public : NvPublic) (u : Unit {0}) → check_define there count auth public ≡ Ok u
    → Checked there count auth public
was_checked there count auth public u e =
    let a = bind_ok (refuse (not (is_definable public.attrs)) (rc_attributes + of_parameter 2)) _ u e in
    let b = bind_ok (refuse (nat_lt (digest_len public.alg) (length (trim auth))) (rc_size + of_parameter 1)) _ u a.2 in
    let c =
    bind_ok (refuse (not (is_empty public.policy) && not (length public.policy == digest_len public.alg)) (rc_size + of_parameter 2)) _ u b.2 in
    let d = bind_ok (refuse (not (public.data_size == counter_size)) (rc_size + of_parameter 2)) _ u c.2 in
    let f = bind_ok (refuse (is_some there) rc_nv_defined) _ u d.2 in
    record {
      attrs = not_false _ (refused_none _ _ a.0 a.1);
      auth_fits = at_most (digest_len public.alg) (length (trim auth)) (refused_none _ _ b.0 b.1);
      policy = refused_none _ _ c.0 c.1;
      size = is_size public.data_size counter_size (not_false _ (refused_none _ _ d.0 d.1));
      new = is_none there (refused_none _ _ f.0 f.1);
      room = below most_counters count (refused_none _ _ u f.2);
    }

fair_defined : (nv : NvMemory) (auth : List ℕ) (public : NvPublic) → IsFair nv
    → Checked (counter_in nv.counters public.index) (length nv.counters) auth public
    → IsFair (nv_by (bodies.NvDefineSpace (record { auth = auth; public = public })) nv)
fair_defined nv auth public f k = record {
  few = omega (arith, length-append nv.counters (defined auth public ∷ []), k.room);
  counters = checked_defined nv.greatest nv.counters (defined auth public) f.counters k.new refl;
  each = All-append IsKept nv.counters (defined auth public ∷ []) f.each
      (All-cons IsKept (defined auth public) [] (defined_kept (trim auth) public k.attrs k.auth_fits (trim-trim auth) k.policy k.size) (All-nil IsKept));
}

-- ---- what an undefinition leaves

fair_without : (nv : NvMemory) (index : ℕ) → IsFair nv → IsFair (nv_by (bodies.NvUndefineSpace index) nv)
fair_without nv index f = record {
  few =
      let others : Counter → Bool = λ c. not (has_index index c) in
      omega (arith, length-filter others nv.counters, count_by-le-length others nv.counters, f.few);
  counters = checked_without nv.greatest index nv.counters f.counters;
  each = All-filter (λ (c : Counter). not (has_index index c)) IsKept nv.counters f.each;
}

-- ---- what an increment leaves

above_zero : (greatest : ℕ) (value : Option ℕ) → 0 < next_value greatest value
above_zero greatest None = omega arith
above_zero greatest (Some v) = omega arith

same_count : (index greatest : ℕ) (counters : List Counter) → length (with_increment index greatest counters) ≡ length counters
same_count index greatest [] = refl
same_count index greatest (c ∷ counters) = go (has_index index c) (same_count index greatest counters)
  where
    go : (b : Bool) → length (with_increment index greatest counters) ≡ length counters
        → length (if b then incremented greatest c ∷ counters else c ∷ with_increment index greatest counters) ≡ length (c ∷ counters)
    go true later = refl
    go false later = ap suc later

each_kept : (index greatest : ℕ) (counters : List Counter) → All IsKept counters → All IsKept (with_increment index greatest counters)
each_kept index greatest [] each = each
each_kept index greatest (c ∷ counters) each =
    let first = All-head IsKept c counters each in
    let others = All-tail IsKept c counters each in go (has_index index c) first others (each_kept index greatest counters others)
  where
    go : (b : Bool) → IsKept c → All IsKept counters → All IsKept (with_increment index greatest counters)
        → All IsKept (if b then incremented greatest c ∷ counters else c ∷ with_increment index greatest counters)
    go true first others later =
        All-cons IsKept (incremented greatest c) counters
        (incremented_kept c (next_value greatest c.value) first (above_zero greatest c.value)) others
    go false first others later = All-cons IsKept c (with_increment index greatest counters) first later

fair_incremented : (nv : NvMemory) (by : NvAuthHandle) (index : ℕ) → IsFair nv → IsFair (nv_by (bodies.NvIncrement by index) nv)
fair_incremented nv by index f =
    let next = next_value nv.greatest (value_of (counter_in nv.counters index)) in record {
      few = omega (arith, same_count index nv.greatest nv.counters, f.few);
      counters = checked_incremented index nv.greatest (max nv.greatest next) nv.counters (omega arith) (omega arith) f.counters;
      each = each_kept index nv.greatest nv.counters f.each;
    }

-- ---- along a run

fair_by : (p : Present) (body : CommandBody) (n : List ℕ) (reply : ReplyBody) → action p body n ≡ Ok reply → IsFair p.nv → IsFair (nv_by body p.nv)
fair_by p (bodies.NvDefineSpace asked) n reply e f =
    let a =
    bind_ok (check_define (counter_in p.nv.counters asked.public.index) (length p.nv.counters) asked.auth asked.public)
    (λ _. let r : Result ReplyBody ℕ = Ok replies.NvDefineSpace in r) reply e in
    fair_defined p.nv asked.auth asked.public f
    (was_checked (counter_in p.nv.counters asked.public.index) (length p.nv.counters) asked.auth asked.public a.0 a.1)
fair_by p (bodies.NvUndefineSpace index) n reply e f = fair_without p.nv index f
fair_by p (bodies.NvIncrement by index) n reply e f = fair_incremented p.nv by index f
fair_by p _ n reply e f = f

pub fair_along : (o : Origin) (es : List Stimulus) (h : History) → IsFair (nv_memory o h) → IsFair (nv_memory o (after o h es))
fair_along o =
    along (λ h. IsFair (nv_memory o h)) o (λ h bytes n d s f. fair_by (present o h) d.command.body n d.reply.body s.act f) (λ h f. f)

pub fair_after : (o : Origin) (es : List Stimulus) → IsFair o.nv → IsFair (nv_memory o (after o [] es))
fair_after o es f = fair_along o es [] f

-- ---- what bytes spell

-- a check that was met
check_met : (check : Result (Unit {0}) ℕ) (h : Here) (x : Unit {0} × Here) → read {r = buffer} 0 (judged check) h ≡ Ok x → check ≡ Ok tt
check_met check h x e = go (too_few 0 h.at 0 (length h.rest)) check e
  where
    go : (o : Option ℕ) (check : Result (Unit {0}) ℕ) → unless buffer o 0 h (found buffer check 0 0 h) ≡ Ok x → check ≡ Ok tt
    go (Some fault) check e = absurd (let z : ⊥ = cc in z)
    go None (Err fault) e = absurd (let z : ⊥ = cc in z)
    go None (Ok u) e = refl

-- where a layout is done
was_done : {A : Type 0} (x : A) (h : Here) (y : A × Here) → (let r : Result (A × Here) Refusal = Ok (x, h) in r) ≡ Ok y → x ≡ y.0
was_done x h y e = cc

-- a value that was read is there where WRITTEN is set, and is above 0
record IsValue (public : NvPublic) (value : Option ℕ) : Type 0 where
  written : is_written public.attrs ≡ is_some value
  above : IfSome value (λ v. 0 < v)

some_value : (n : ℕ) (value : Option ℕ) → or_fault (value_of_number n) rc_value ≡ Ok value → (is_some value ≡ true) × IfSome value (λ v. 0 < v)
some_value n value e = go (n == 0) refl e
  where
    go : (b : Bool) → (n == 0) ≡ b → or_fault {A = Option ℕ} {F = ℕ} (if b then None else Some (Some n)) rc_value ≡ Ok value
        → (is_some value ≡ true) × IfSome value (λ v. 0 < v)
    go true is e = absurd (let z : ⊥ = cc in z)
    go false is e =
        let same : Some n ≡ value = cc in
        let above : 0 < n = grind (arith, nat_tests, is) in
        subst (λ (v : Option ℕ). (is_some v ≡ true) × IfSome v (λ w. 0 < w)) same (refl, above)

value_read : (public : NvPublic) (h : Here) (x : Option ℕ × Here) → read {r = buffer} 0 (kept_value public) h ≡ Ok x → IsValue public x.0
unfolding kept_value
value_read public h x e = go (is_written public.attrs) refl e
  where
    go : (b : Bool) → is_written public.attrs ≡ b
        → read {r = buffer} 0 (either b (Form.number 8 (λ left. value_of_number) number_of_value rc_value) (Form.done None)) h ≡ Ok x → IsValue public x.0
    go true is e =
        let n = number_ok buffer buffer_sound 0 8 (λ left. value_of_number) number_of_value rc_value h x e in
        let v = some_value _ x.0 n.1 in record { written = is ∙ sym v.0; above = v.1 }
    go false is e =
        let same : (let none : Option ℕ = None in none) ≡ x.0 = cc in
        record {
          written = is ∙ ap is_some same;
          above = subst (λ (v : Option ℕ). IfSome v (λ w. 0 < w)) same tt;
        }

counter_read : (h : Here) (x : Counter × Here) → read {r = buffer} 0 kept_counter h ≡ Ok x → IsKept x.0
unfolding kept_counter
counter_read h x e =
    let a = bind_ok (read {r = buffer} 0 nv_public h) _ x e in
    let b = bind_ok (read {r = buffer} 0 (judged (check_kept_public a.0.0)) a.0.1) _ x a.2 in
    let c = bind_ok (read {r = buffer} 0 auth_value b.0.1) _ x b.2 in
    let d = bind_ok (read {r = buffer} 0 (judged (check_kept_auth a.0.0 c.0.0)) c.0.1) _ x c.2 in
    let f = bind_ok (read {r = buffer} 0 (kept_value a.0.0) d.0.1) _ x d.2 in
    let made : Counter = record { public = a.0.0; auth = c.0.0; value = f.0.0 } in
    let same : made ≡ x.0 = was_done made f.0.1 x f.2 in
    let v = value_read a.0.0 d.0.1 f.0 f.1 in
    subst IsKept same (record {
      public = check_met (check_kept_public a.0.0) a.0.1 b.0 b.1;
      auth = check_met (check_kept_auth a.0.0 c.0.0) c.0.1 d.0 d.1;
      written = v.written;
      above = v.above;
    })

-- what was read of a list, behind what was read before
record AreRead (most : ℕ) (counters : List Counter) : Type 0 where
  few : length counters ≤ most
  each : All IsKept counters

entries_read : (n most : ℕ) (before : List Counter) (h : Here) (x : List Counter × Here)
    → entries n before false (λ _. read {r = buffer} 0 kept_counter) h ≡ Ok x
    → length before + n ≤ most → All IsKept before → AreRead most x.0
entries_read zero most before h x e le each =
    let same : before ≡ x.0 = cc in subst (AreRead most) same (record { few = omega (arith, le); each = each })
entries_read (suc n) most before h x e le each =
    let a = bind_ok (read {r = buffer} 0 kept_counter h) _ x e in
    entries_read n most (before ++ a.0.0 ∷ []) a.0.1 x a.2 (omega (arith, length-append before (a.0.0 ∷ []), le))
    (All-append IsKept before (a.0.0 ∷ []) each (All-cons IsKept a.0.0 [] (counter_read h a.0 a.1) (All-nil IsKept)))

counters_read : (h : Here) (x : List Counter × Here) → read {r = buffer} 0 (counted 0 most_counters kept_counter) h ≡ Ok x → AreRead most_counters x.0
unfolding counted
counters_read h x e =
    let a = bind_ok (read {r = buffer} 0 (number_in 4 (λ n. nat_le 0 n && nat_le n most_counters) rc_size) h) _ x e in
    let n = number_ok buffer buffer_sound 0 4 (λ left n. if nat_le 0 n && nat_le n most_counters then Some n else None) (λ n. n) rc_size h a.0 a.1 in
    entries_read a.0.0 most_counters [] a.0.1 x a.2 (within (number_of (take 4 h.rest)) a.0.0 n.1) (All-nil IsKept)
  where
    within : (n m : ℕ) → or_fault {A = ℕ} {F = ℕ} (if nat_le 0 n && nat_le n most_counters then Some n else None) rc_size ≡ Ok m → 0 + m ≤ most_counters
    within n m e = go (nat_le 0 n && nat_le n most_counters) refl e
      where
        go : (b : Bool) → (nat_le 0 n && nat_le n most_counters) ≡ b → or_fault {A = ℕ} {F = ℕ} (if b then Some n else None) rc_size ≡ Ok m
            → 0 + m ≤ most_counters
        go true is e =
            let same : n ≡ m = cc in
            let le : n ≤ most_counters = at_least n most_counters (and_parts (nat_le 0 n) (nat_le n most_counters) is).1 in
            omega (arith, same, le)
        go false is e = absurd (let z : ⊥ = cc in z)

contents_read : (h : Here) (x : NvMemory × Here) → read {r = buffer} 0 kept_contents h ≡ Ok x → IsFair x.0
unfolding kept_contents
contents_read h x e =
    let a = bind_ok (read {r = buffer} 0 magic_number h) _ x e in
    let b = bind_ok (read {r = buffer} 0 version_number a.0.1) _ x a.2 in
    let c = bind_ok (read {r = buffer} 0 (any_number 8) b.0.1) _ x b.2 in
    let d = bind_ok (read {r = buffer} 0 (counted 0 most_counters kept_counter) c.0.1) _ x c.2 in
    let f = bind_ok (read {r = buffer} 0 (judged (check_counters c.0.0 d.0.0)) d.0.1) _ x d.2 in
    let made : NvMemory = record { counters = d.0.0; greatest = c.0.0 } in
    let same : made ≡ x.0 = was_done made f.0.1 x f.2 in
    let all = counters_read c.0.1 d.0 d.1 in
    subst IsFair same (record { few = all.few; counters = check_met (check_counters c.0.0 d.0.0) d.0.1 f.0 f.1; each = all.each })

memory_read : (h : Here) (x : NvMemory × Here) → read {r = buffer} 0 kept_memory h ≡ Ok x → IsFair x.0
unfolding kept_memory
memory_read h x e =
    let a = bind_ok (read {r = buffer} 0 kept_contents h) _ x e in
    let b = bind_ok (read {r = buffer} 0 (digest_behind a.0.0) a.0.1) _ x a.2 in
    let same : a.0.0 ≡ x.0 = was_done a.0.0 b.0.1 x b.2 in
    subst IsFair same (contents_read h a.0 a.1)

pub fair_spelled : (nv : NvMemory) (bytes : List ℕ) → Spells kept_memory nv bytes → IsFair nv
fair_spelled nv bytes spells =
    let a = bind_ok (read {r = buffer} 0 kept_memory (at_start bytes) >>= finish buffer) _ nv (spells_read buffer buffer_sound kept_memory bytes nv spells) in
    let b = bind_ok (read {r = buffer} 0 kept_memory (at_start bytes)) (finish buffer) a.0 a.1 in
    let end = finished b.0 a.0 b.2 in
    subst IsFair (ap (λ (x : NvMemory × Here). x.0) end ∙ value_is a.0.0 nv a.2) (memory_read (at_start bytes) b.0 b.1)
  where
    value_is : (x y : NvMemory) → (let r : Result NvMemory Refusal = Ok x in r) ≡ Ok y → x ≡ y
    value_is x y e = cc

    finished : (x y : NvMemory × Here) → finish buffer x ≡ Ok y → x ≡ y
    finished x y e = go (length x.1.rest == 0) e
      where
        go : (b : Bool) → (if b then (let r : Result (NvMemory × Here) Refusal = Ok x in r) else refuse_reading buffer 0 rc_size x.1) ≡ Ok y → x ≡ y
        go true e = cc
        go false e = absurd (let z : ⊥ = cc in z)
