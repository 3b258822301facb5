-- NV memory has a spelling, and takes few bytes.
use Rattle.std.proofs.Common.{◌≡◌, ℕ, ◌+◌, ◌<◌, ◌≤◌, ◌^◌, Bool, true, false, List, [], length, take, drop, Option, Some}
use Rattle.std.proofs.Common.{None, Result, Ok, Err, is_some, option_map, refl, sym, ap, ◌∙◌, arith, inl, All}
use Rattle.std.proofs.Common.{◌++◌, append_assoc}
use Rattle.std.proofs.lemmas.List.{take-append-drop, length-append, append-nil, take_at}
use Rattle.std.proofs.lemmas.Bool.{ne_eqb}
use Rattle.std.proofs.lemmas.Bool.Decides.{nat_tests}
use Rattle.std.proofs.lemmas.Slice.Eq.{bytes_eq-Decides}
use Rattle.std.specs.Prelude.{IfSome, bytes_eq, nat_le, ◌&&◌, ◌-◌}
use Rattle.tpm_wire.specs.declared.refusal.Refusal.{Refusal}
use Rattle.tpm_wire.specs.ResponseCodes.{rc_value}
use Rattle.std.specs.Int.{bytes_high_first, to_be_bytes, w16, w32}
use Rattle.tpm_wire.specs.Token.{Here, at_start, past}
use Rattle.tpm_wire.specs.Layout.{Form, either, raw}
use Rattle.tpm_wire.specs.Reading.{read, unless, found}
use Rattle.tpm_wire.specs.Buffers.{buffer, too_few, Place}
use Rattle.tpm_wire.specs.WholeValues.{ended}
use Rattle.tpm_wire.specs.Spelling.{spelling, Fits, IsSpelled}
use Rattle.tpm_wire.specs.Structures.{counted, sized_bytes}
use Rattle.tpm_wire.specs.Path.{Decodes}
use Rattle.tpm_wire.proofs.Alone.{ends_so, goes_on_so, whole_decodes, whole_read, whole_refused}
use Rattle.tpm_wire.proofs.Again.{fit_list}
use Rattle.tpm_wire.proofs.Longer.{TakesAtMost, at_most_more, at_most_done, at_most_number, at_most_number_in, at_most_text}
use Rattle.tpm_wire.proofs.Longer.{at_most_sized_bytes, at_most_sized, at_most_counted}
use Rattle.tpm_types.specs.declared.alg.Alg.TheVariants.{Sha256}
use Rattle.tpm_types.specs.declared.tpms.NvPublic.{NvPublic}
use Rattle.tpm_types.specs.Limits.{digest_bytes, public_bytes}
use Rattle.tpm_types.specs.Tpm2b.{auth_value}
use Rattle.tpm_types.specs.Alg.{alg_number, hash}
use Rattle.tpm_types.specs.Handles.{nv_index}
use Rattle.tpm_types.specs.Tpma.{is_written, nv_attrs}
use Rattle.tpm_types.specs.Tpms.{nv_public, nv_public_area}
use Rattle.tpm_types.proofs.Short.{and, last}
use Rattle.tpm_hmac.proofs.DigestLengths.{length-digest}
use Rattle.tpm_model.specs.Counters.{Counter, NvMemory}
use Rattle.tpm_model.specs.Actions.{most_counters}
use Rattle.tpm_model.specs.Kept.{IsKept, check_counters, judged, value_of_number, number_of_value, kept_value, kept_counter}
use Rattle.tpm_model.specs.Kept.{kept_magic, kept_version, magic_number, version_number, kept_contents, kept_digest}
use Rattle.tpm_model.specs.Kept.{judge_digest, digest_behind, kept_memory}

-- ---- spellings

fits_value : (public : NvPublic) (value : Option ℕ) (left : ℕ) → is_written public.attrs ≡ is_some value → IfSome value (λ v. 0 < v)
    → IfSome value (λ v. v < 2 ^ 64) → Fits left (kept_value public) value
unfolding kept_value
fits_value public None left written above few = rw written refl
fits_value public (Some v) left written above few =
    let some : value_of_number v ≡ Some (Some v) = rw (ne_eqb v 0 (λ e. let k : ⊥ = omega (arith, e, above) in k)) refl in
    rw written (omega (arith, few), some)

pub fits_counter : (c : Counter) (left : ℕ) → IsKept c → ((n : ℕ) → Fits n nv_public c.public) → ((n : ℕ) → Fits n auth_value c.auth)
    → IfSome c.value (λ v. v < 2 ^ 64) → Fits left kept_counter c
unfolding kept_counter
fits_counter c left k public auth few =
    (public _, ((refl, k.public), (auth _, ((refl, k.auth), (fits_value c.public c.value _ k.written k.above few, refl)))))

fits_digest : (nv : NvMemory) (left : ℕ) → Fits left (digest_behind nv) (kept_digest nv)
unfolding digest_behind
fits_digest nv left = (
  length-digest Sha256 (spelling kept_contents nv),
  (let same : bytes_eq (kept_digest nv) (kept_digest nv) ≡ true = (bytes_eq-Decides (kept_digest nv) (kept_digest nv)).1 refl in rw same refl),
)

fits_counters : (counters : List Counter) (left : ℕ) → length counters ≤ most_counters → All (IsSpelled kept_counter) counters
    → Fits left (counted 0 most_counters kept_counter) counters
unfolding counted
fits_counters counters left few each = (
  (omega (arith, few), (let k : (nat_le 0 (length counters) && nat_le (length counters) most_counters) ≡ true = grind (arith, nat_tests, few) in rw k refl)),
  fit_list kept_counter false (length counters) (left - 4) [] counters each (omega arith) (inl refl),
)

fits_contents : (nv : NvMemory) (left : ℕ) → nv.greatest < 2 ^ 64 → length nv.counters ≤ most_counters → All (IsSpelled kept_counter) nv.counters
    → check_counters nv.greatest nv.counters ≡ Ok tt → Fits left kept_contents nv
unfolding kept_contents magic_number version_number
fits_contents nv left most few each checked =
    ((omega arith, refl), ((omega arith, refl), ((omega (arith, most), refl), (fits_counters nv.counters _ few each, ((refl, checked), refl)))))

pub fits_memory : (nv : NvMemory) (left : ℕ) → nv.greatest < 2 ^ 64 → length nv.counters ≤ most_counters → All (IsSpelled kept_counter) nv.counters
    → check_counters nv.greatest nv.counters ≡ Ok tt → Fits left kept_memory nv
unfolding kept_memory
fits_memory nv left most few each checked = (fits_contents nv left most few each checked, (fits_digest nv _, refl))

-- ---- lengths

of_value : (public : NvPublic) → TakesAtMost 8 (kept_value public)
unfolding kept_value
of_value public = go (is_written public.attrs)
  where
    go : (b : Bool) → TakesAtMost 8 (either {r = buffer} b (Form.number 8 (λ left. value_of_number) number_of_value rc_value) (Form.done None))
    go true = at_most_number 8 value_of_number number_of_value rc_value
    go false = at_most_more 0 8 _ (omega arith) (at_most_done _)

of_judged : (check : Result (Unit {0}) ℕ) → TakesAtMost 0 (judged check)
of_judged check = at_most_text 0 (λ bytes. check) (λ x. [])

of_counter : TakesAtMost 122 kept_counter
unfolding kept_counter nv_public
of_counter =
    and 64 58 _ _ _ (at_most_sized public_bytes nv_public_area) (λ public.
    and 0 58 _ _ _ (of_judged _) (λ u.
    and 50 8 _ _ _ (at_most_sized_bytes digest_bytes) (λ auth.
    and 0 8 _ _ _ (of_judged _) (λ u.
    last 8 _ _ _ (of_value public)))))

of_contents : TakesAtMost 994 kept_contents
unfolding kept_contents magic_number version_number
of_contents =
    and 4 990 _ _ _ (at_most_number_in 4 _ _) (λ magic.
    and 2 988 _ _ _ (at_most_number_in 2 _ _) (λ version.
    and 8 980 _ _ _ (at_most_number 8 _ _ _) (λ greatest.
    and 980 0 _ _ _ (at_most_counted 0 most_counters 122 kept_counter of_counter) (λ counters.
    last 0 _ _ _ (of_judged _)))))

pub of_memory : TakesAtMost 1026 kept_memory
unfolding kept_memory digest_behind
of_memory =
    and 994 32 _ _ _ of_contents (λ nv.
    last 32 _ _ _ (at_most_text 32 (judge_digest nv) (λ bytes. bytes)))

-- ---- parts, joined

pub memory_is : (nv : NvMemory) → spelling kept_memory nv ≡ spelling kept_contents nv ++ kept_digest nv
unfolding kept_memory digest_behind
memory_is nv = ap (λ (t : List ℕ). spelling kept_contents nv ++ t) (append-nil (kept_digest nv))

pub memory_long : (nv : NvMemory) → length (spelling kept_memory nv) ≡ length (spelling kept_contents nv) + 32
memory_long nv =
    ap length (memory_is nv) ∙ length-append (spelling kept_contents nv) (kept_digest nv)
    ∙ ap (λ n. length (spelling kept_contents nv) + n) (length-digest Sha256 (spelling kept_contents nv))

four : (a p q r s x y z w : List ℕ) → x ≡ a ++ p → y ≡ x ++ q → z ≡ y ++ r → w ≡ z ++ s → w ≡ a ++ (p ++ (q ++ (r ++ (s ++ []))))
four a p q r s x y z w e f g h = rw (h, g, f, e) (simp (append_assoc, append-nil))

pub contents_put : (nv : NvMemory) (a x y z w : List ℕ) (slice : List Counter) → x ≡ a ++ bytes_high_first 4 kept_magic
    → y ≡ x ++ bytes_high_first 2 kept_version → z ≡ y ++ bytes_high_first 8 nv.greatest
    → w ≡ z ++ spelling (counted 0 most_counters kept_counter) slice → slice ≡ nv.counters → w ≡ a ++ spelling kept_contents nv
unfolding kept_contents magic_number version_number
contents_put nv a x y z w slice e f g h is =
    four a (bytes_high_first 4 kept_magic) (bytes_high_first 2 kept_version) (bytes_high_first 8 nv.greatest)
    (spelling (counted 0 most_counters kept_counter) nv.counters) x y z w e f g
    (h ∙ ap (λ (l : List Counter). z ++ spelling (counted 0 most_counters kept_counter) l) is)

pub memory_put : (nv : NvMemory) (old out slice new : List ℕ) → out ≡ old ++ spelling kept_contents nv → slice ≡ kept_digest nv → new ≡ out ++ slice
    → new ≡ old ++ spelling kept_memory nv
memory_put nv old out slice new e f g =
    g ∙ ap (λ (d : List ℕ). out ++ d) f ∙ ap (λ (o : List ℕ). o ++ kept_digest nv) e
    ∙ append_assoc old (spelling kept_contents nv) (kept_digest nv) ∙ ap (λ (m : List ℕ). old ++ m) (sym (memory_is nv))

pub memory_taken : (nv : NvMemory) (all rest behind : List ℕ) → all ≡ spelling kept_contents nv ++ rest → rest ≡ kept_digest nv ++ behind
    → all ≡ spelling kept_memory nv ++ behind
memory_taken nv all rest behind e f =
    e ∙ ap (λ (r : List ℕ). spelling kept_contents nv ++ r) f ∙ sym (append_assoc (spelling kept_contents nv) (kept_digest nv) behind)
    ∙ ap (λ (m : List ℕ). m ++ behind) (sym (memory_is nv))

taken : (o : Option ℕ) (mark n : ℕ) (h : Here) (x : List ℕ × Here) → unless buffer o mark h (found buffer (Ok (take n h.rest)) n mark h) ≡ Ok x
    → (take n h.rest ≡ x.0) × (past n h ≡ x.1)
taken (Some fault) mark n h x e = absurd (let z : ⊥ = cc in z)
taken None mark n h x e = (cc, cc)

pub digest_taken : (mark : ℕ) (h g : Here) (d k : List ℕ) → read {r = buffer} mark (raw 32) h ≡ Ok (d, g) → d ≡ k → h.rest ≡ k ++ g.rest
digest_taken mark h g d k e is =
    let t = taken (too_few mark h.at 32 (length h.rest)) mark 32 h (d, g) e in
    sym (take-append-drop 32 h.rest) ∙ ap (λ (f : List ℕ). f ++ drop 32 h.rest) (t.0 ∙ is) ∙ ap (λ (x : Here). k ++ x.rest) t.1

-- the bytes that were read of the first 4,096, by how many are left of these
pub front_is : (bytes contents rest : List ℕ) (n : ℕ) → take 4096 bytes ≡ contents ++ rest
    → n ≡ length (take 4096 bytes) - length rest → take n bytes ≡ contents
front_is bytes contents rest n e f =
    let long : length contents ≡ n = omega (arith, f, ap length e, length-append contents rest) in
    let whole : bytes ≡ contents ++ (rest ++ drop 4096 bytes) =
    sym (take-append-drop 4096 bytes) ∙ ap (λ (r : List ℕ). r ++ drop 4096 bytes) e ∙ append_assoc contents rest (drop 4096 bytes) in
    ap (take n) whole ∙ take_at contents (rest ++ drop 4096 bytes) n long

-- the fields of a public area, joined
pub area_is : (p : NvPublic) (a b c d policy e : List ℕ) → a ≡ to_be_bytes w32 p.index → b ≡ to_be_bytes w16 (alg_number p.alg)
    → c ≡ to_be_bytes w32 p.attrs → d ≡ to_be_bytes w16 (length p.policy) → policy ≡ p.policy → e ≡ to_be_bytes w16 p.data_size
    → a ++ (b ++ (c ++ (d ++ (policy ++ (e ++ []))))) ≡ spelling nv_public_area p
unfolding nv_public_area nv_index hash nv_attrs sized_bytes
area_is p a b c d policy e ea eb ec ed ep ee =
    rw (ea, eb, ec, ed, ep, ee)
    (ap (λ (t : List ℕ). to_be_bytes w32 p.index ++ (to_be_bytes w16 (alg_number p.alg) ++ (to_be_bytes w32 p.attrs ++ t)))
    (sym (append_assoc (to_be_bytes w16 (length p.policy)) p.policy (to_be_bytes w16 p.data_size ++ []))))

-- ---- all of the bytes

-- What was read from the beginning of the bytes is what all of them spell, or they go on behind it.
pub memory_decodes : (bytes : List ℕ) (nv : NvMemory) (old : Place) (h : Here) (o : Result (Unit {0}) Refusal)
    → old ≡ record { here = at_start (take 4096 bytes); number = 0 } → read old.number kept_memory old.here ≡ Ok (nv, h)
    → o ≡ ended bytes (tt, h) → Decodes {X = Unit {0}} kept_memory (λ _. nv) bytes o
memory_decodes bytes nv old h (Ok u) begins is ends =
    whole_decodes 1026 kept_memory of_memory (omega arith) bytes (Ok nv)
    (whole_read kept_memory bytes old nv h (Ok nv) begins is (ends_so bytes h nv u (sym ends)))
memory_decodes bytes nv old h (Err e) begins is ends =
    whole_decodes 1026 kept_memory of_memory (omega arith) bytes (Err e)
    (whole_read kept_memory bytes old nv h (Err e) begins is (goes_on_so bytes h nv e (sym ends)))

pub memory_refused : (bytes : List ℕ) (nv : NvMemory) (old : Place) (e : Refusal)
    → old ≡ record { here = at_start (take 4096 bytes); number = 0 } → read old.number kept_memory old.here ≡ Err e
    → Decodes {X = Unit {0}} kept_memory (λ _. nv) bytes (Err e)
memory_refused bytes nv old e begins is =
    whole_decodes 1026 kept_memory of_memory (omega arith) bytes (Err e) (whole_refused kept_memory bytes old e begins is)

-- ---- looking up

pub none_found : {X : Type 0} (view : X → Counter) (o : Option X) (there : Option Counter) → option_map view o ≡ there → is_some o ≡ false → there ≡ None
none_found view None there e none = sym e
none_found view (Some x) there e none = absurd (let k : ⊥ = cc in k)
