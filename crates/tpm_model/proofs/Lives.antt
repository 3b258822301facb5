-- What holds over the lives of a device.
use Rattle.std.proofs.Common.{◌≡◌, ℕ, ◌<◌, List, [], ◌∷◌, ◌++◌, length, Option, Some, None, Ok, true, refl, sym}
use Rattle.std.proofs.Common.{ap, ◌∙◌, subst, arith, inl, inr, append_assoc}
use Rattle.std.specs.Prelude.{◌⊎◌, flat_map}
use Rattle.tpm_wire.specs.Path.{Spells}
use Rattle.tpm_types.specs.declared.tpms.Auth.{Auth}
use Rattle.tpm_types.specs.Handles.{is_session}
use Rattle.tpm_commands.specs.declared.command.Command.{Command}
use Rattle.tpm_commands.specs.Handles.{needs_authorization}
use Rattle.tpm_buffer.specs.Commands.{command, code_for}
use Rattle.tpm_model.specs.Steps.{History, PowerCycle, Origin}
use Rattle.tpm_model.specs.Sessions.{slot_of, last_nonce}
use Rattle.tpm_model.specs.Counters.{next_value, nv_memory, value_at}
use Rattle.tpm_model.specs.Kept.{IsFair}
use Rattle.tpm_model.specs.Present.{present}
use Rattle.tpm_model.specs.Answers.{presented, outcome, next}
use Rattle.tpm_model.specs.Callers.{Seal, seal_key, seal_text, seal_auth, sealed_command, waiting, Opened, opened}
use Rattle.tpm_model.specs.Runs.Stimulus.{Given, Cycled}
use Rattle.tpm_model.specs.Runs.{Stimulus, happens, after}
use Rattle.tpm_model.specs.Premises.{IsAccepted, HasSessionMac, nonces, AreApart, NoncesDiffer}
use Rattle.tpm_hmac.specs.Among.{IsAmong}
use Rattle.tpm_model.specs.Premises.{Keyed, keyed, text_checked, texts_checked, AreFree, text_replied, texts_replied}
use Rattle.tpm_model.specs.Premises.{Opening, texts_opened}
use Rattle.tpm_model.specs.Lives.{Life, executed, origin_after, Execution, executions_of, executions}
use Rattle.tpm_model.specs.Lives.{kept_executions, reply_to, WasAccepted, Increments, value_after, NoncesDifferOver, texts_over}
use Rattle.tpm_model.specs.Lives.{NoCollisionOver, IsOfCallersOver}
use Rattle.tpm_model.proofs.Fair.{fair_after}
use Rattle.tpm_hmac.proofs.Among.{among_front, among_later}
use Rattle.tpm_model.proofs.Mixed.{among_reply, fewer, own}
use Rattle.tpm_model.proofs.Nonces.{apart_across, apart_behind, apart_front, fresh, nonces-append}
use Rattle.tpm_model.proofs.Replay.{among_here, used, Used, alike, twice_as}
use Rattle.tpm_model.proofs.Rising.{IsKept, HoldsOf, kept_along, IsFloor, floor, floor_here, IsBelow, below, value_below}
use Rattle.tpm_model.proofs.Rising.{greatest_at, given_by}
use Rattle.tpm_model.proofs.Runs.{after-append}
use Rattle.tpm_model.proofs.Sealing.{hmac_some}
use Rattle.tpm_model.proofs.Slots.{held}

-- ---- the place of an execution

-- An element of two lists is one of the first, or of the second.
cut : {A : Type 0} (front back xs ys : List A) (x : A) → front ++ back ≡ xs ++ x ∷ ys
    → ((zs : List A) × (front ≡ xs ++ x ∷ zs) × (ys ≡ zs ++ back)) ⊎ ((zs : List A) × (back ≡ zs ++ x ∷ ys))
cut [] back xs ys x e = inr (xs, e)
cut (z ∷ front) back [] ys x e =
    let one : z ≡ x = cc in
    let rest : front ++ back ≡ ys = cc in
    inl (front, ap (λ y. y ∷ front) one, sym rest)
cut (z ∷ front) back (y ∷ xs) ys x e =
    let one : z ≡ y = cc in
    let rest : front ++ back ≡ xs ++ x ∷ ys = cc in
    elim (cut front back xs ys x rest) [
      | inl c ↦ inl (c.0, ap (λ l. z ∷ l) c.1 ∙ ap (λ u. u ∷ xs ++ x ∷ c.0) one, c.2)
      | inr c ↦ inr c
    ]

nothing : {A : Type 0} (xs ys : List A) (x : A) → [] ≡ xs ++ x ∷ ys → ⊥
nothing [] ys x e = let z : ⊥ = cc in z
nothing (y ∷ xs) ys x e = let z : ⊥ = cc in z

-- two elements, of which the second is behind the first
pub both_cut : {A : Type 0} (all front middle between behind : List A) (x y : A) → all ≡ front ++ x ∷ middle → middle ≡ between ++ y ∷ behind
    → all ≡ front ++ x ∷ between ++ y ∷ behind
both_cut all front middle between behind x y e f =
    e ∙ ap (λ l. front ++ x ∷ l) f ∙ sym (append_assoc front (x ∷ between) (y ∷ behind))

-- an execution in a run: the stimuli before it and behind it, and what is executed after it
record InRun (o : Origin) (h : History) (es : List Stimulus) (x : Execution) (ys : List Execution) : Type 0 where
  before : List Stimulus
  behind : List Stimulus
  bytes : List ℕ
  nonce : List ℕ
  stimuli : es ≡ before ++ Given bytes nonce ∷ behind
  is : x ≡ record { origin = o; history = after o h before; bytes = bytes; nonce = nonce }
  later : ys ≡ executions_of o (next o (after o h before) bytes nonce) behind

-- the same with one more stimulus before
one_more : (o : Origin) (h : History) (e : Stimulus) (es : List Stimulus) (x : Execution) (ys : List Execution) → InRun o (happens o h e) es x ys
    → InRun o h (e ∷ es) x ys
one_more o h e es x ys p = record {
  before = e ∷ p.before;
  behind = p.behind;
  bytes = p.bytes;
  nonce = p.nonce;
  stimuli = ap (λ (l : List Stimulus). e ∷ l) p.stimuli;
  is = p.is;
  later = p.later;
}

place : (o : Origin) (h : History) (es : List Stimulus) (xs ys : List Execution) (x : Execution) → executions_of o h es ≡ xs ++ x ∷ ys → InRun o h es x ys
place o h [] xs ys x e = absurd (nothing xs ys x e)
place o h (Given bytes n ∷ es) [] ys x e =
    let one : record { origin = o; history = h; bytes = bytes; nonce = n } ≡ x = cc in
    let rest : executions_of o (next o h bytes n) es ≡ ys = cc in
    record { before = []; behind = es; bytes = bytes; nonce = n; stimuli = refl; is = sym one; later = sym rest }
place o h (Given bytes n ∷ es) (z ∷ xs) ys x e =
    let rest : executions_of o (next o h bytes n) es ≡ xs ++ x ∷ ys = cc in
    one_more o h (Given bytes n) es x ys (place o (next o h bytes n) es xs ys x rest)
place o h (Cycled ∷ es) xs ys x e = one_more o h Cycled es x ys (place o (PowerCycle ∷ h) es xs ys x e)

pub executions-append : (o : Origin) (h : History) (es fs : List Stimulus)
    → executions_of o h (es ++ fs) ≡ executions_of o h es ++ executions_of o (after o h es) fs
executions-append o h [] fs = refl
executions-append o h (Given bytes n ∷ es) fs =
    let one : Execution = record { origin = o; history = h; bytes = bytes; nonce = n } in
    ap (λ (xs : List Execution). one ∷ xs) (executions-append o (next o h bytes n) es fs)
executions-append o h (Cycled ∷ es) fs = executions-append o (PowerCycle ∷ h) es fs

-- ---- counters

-- What holds of the first NV memory and stays holds where a kept stimulus is executed.
holds_at : (P : ℕ → Option ℕ → Type 0) → IsKept P → (o : Origin) (i : ℕ) (ls : List Life) (xs ys : List Execution) (x : Execution)
    → kept_executions o ls ≡ xs ++ x ∷ ys → HoldsOf P i o.nv → HoldsOf P i (nv_memory x.origin x.history)
holds_at P k o i [] xs ys x e f = absurd (nothing xs ys x e)
holds_at P k o i (l ∷ ls) xs ys x e f =
    elim (cut (executions_of o [] l.kept) (kept_executions (origin_after o l) ls) xs ys x e) [
      | inl c ↦
          let p = place o [] l.kept xs c.0 x c.1 in
          subst (λ (y : Execution). HoldsOf P i (nv_memory y.origin y.history)) (sym p.is) (kept_along P k o i p.before [] f)
      | inr c ↦ holds_at P k (origin_after o l) i ls c.0 ys x c.1 (kept_along P k o i l.kept [] f)
    ]

-- An index that has a value after a kept stimulus is given a greater one by what comes.
floor_later : (o : Origin) (ls : List Life) (xs ys zs : List Execution) (x y : Execution) (i w : ℕ) → IsFair o.nv
    → kept_executions o ls ≡ xs ++ x ∷ (ys ++ y ∷ zs) → value_after x i ≡ Some w → HoldsOf (IsFloor w) i (nv_memory y.origin y.history)
floor_later o [] xs ys zs x y i w fair e has = absurd (nothing xs (ys ++ y ∷ zs) x e)
floor_later o (l ∷ ls) xs ys zs x y i w fair e has =
    let later = origin_after o l in
    elim (cut (executions_of o [] l.kept) (kept_executions later ls) xs (ys ++ y ∷ zs) x e) [
      | inl c ↦
          let p = place o [] l.kept xs c.0 x c.1 in
          let h = after o [] p.before in
          let g = next o h p.bytes p.nonce in
          let few = kept_along IsBelow below o i (Given p.bytes p.nonce ∷ []) h
          (kept_along IsBelow below o i p.before [] (value_below o.nv.greatest i o.nv.counters fair.counters)) in
          let had : value_at o g i ≡ Some w = subst (λ (z : Execution). value_after z i ≡ Some w) p.is has in
          let held = floor_here (greatest_at o g) (value_at o g i) w few had in
          elim (cut c.0 (kept_executions later ls) ys zs y (sym c.2)) [
            | inl q ↦
                let r = place o g p.behind ys q.0 y (sym p.later ∙ q.1) in
                subst (λ (z : Execution). HoldsOf (IsFloor w) i (nv_memory z.origin z.history)) (sym r.is)
                (kept_along (IsFloor w) (floor w) o i r.before g held)
            | inr q ↦
                let ends : after o [] l.kept ≡ after o g p.behind =
                ap (after o []) p.stimuli ∙ after-append o [] p.before (Given p.bytes p.nonce ∷ p.behind) in
                holds_at (IsFloor w) (floor w) later i ls q.0 zs y q.1
                (subst (λ (z : History). HoldsOf (IsFloor w) i (nv_memory o z)) (sym ends) (kept_along (IsFloor w) (floor w) o i p.behind g held))
          ]
      | inr c ↦ floor_later later ls c.0 ys zs x y i w (fair_after o l.kept fair) c.1 has
    ]

-- an accepted increment above a floor
above : (y : Execution) (i w : ℕ) → HoldsOf (IsFloor w) i (nv_memory y.origin y.history) → Increments y i
    → (v : ℕ) × (value_after y i ≡ Some v) × (w < v)
above y i w f (d, by, e, is) =
    (next_value (greatest_at y.origin y.history) (value_at y.origin y.history i), given_by y.origin y.history y.bytes y.nonce d by i e is, f.1)

pub more_than_kept : (o : Origin) (ls : List Life) (xs ys zs : List Execution) (x y : Execution) (i w : ℕ) → IsFair o.nv
    → kept_executions o ls ≡ xs ++ x ∷ ys ++ y ∷ zs → value_after x i ≡ Some w → Increments y i → (v : ℕ) × (value_after y i ≡ Some v) × (w < v)
more_than_kept o ls xs ys zs x y i w fair e has more = above y i w (floor_later o ls xs ys zs x y i w fair (e ∙ append_assoc xs (x ∷ ys) (y ∷ zs)) has) more

pub more_than_first : (o : Origin) (ls : List Life) (xs ys : List Execution) (x : Execution) (i w : ℕ) → IsFair o.nv
    → kept_executions o ls ≡ xs ++ x ∷ ys → value_at o [] i ≡ Some w → Increments x i → (v : ℕ) × (value_after x i ≡ Some v) × (w < v)
more_than_first o ls xs ys x i w fair e had more =
    let few = value_below o.nv.greatest i o.nv.counters fair.counters in
    above x i w (holds_at (IsFloor w) (floor w) o i ls xs ys x e (floor_here o.nv.greatest (value_at o [] i) w few had)) more

pub more_than_none : (o : Origin) (ls : List Life) (xs ys : List Execution) (x : Execution) (i : ℕ) → kept_executions o ls ≡ xs ++ x ∷ ys
    → value_at o [] i ≡ None → Increments x i → (v : ℕ) × (value_after x i ≡ Some v) × (o.nv.greatest < v)
more_than_none o ls xs ys x i e none more =
    let m = o.nv.greatest in
    above x i m (holds_at (IsFloor m) (floor m) o i ls xs ys x e (omega arith, subst (λ (z : Option ℕ). m < next_value m z) (sym none) (omega arith))) more

-- ---- replays

-- an execution in one of the lives: the nonces before it in its life, and its texts, are among those of the lives
record InLives (o : Origin) (ls : List Life) (x : Execution) : Type 0 where
  origin : Origin
  before : List Stimulus
  bytes : List ℕ
  nonce : List ℕ
  is : x ≡ record { origin = origin; history = after origin [] before; bytes = bytes; nonce = nonce }
  nonces_are : (n : List ℕ) → IsAmong n (nonces before) → IsAmong n (nonces (flat_map executed ls))
  texts_are : (t : Keyed) → text_checked (presented (present origin (after origin [] before)) bytes) ≡ t ∷ [] → IsAmong t (texts_over texts_checked o ls)
  replies_are : (t : Keyed)
      → text_replied (presented (present origin (after origin [] before)) bytes) (outcome (present origin (after origin [] before)) bytes nonce) nonce ≡ t ∷ []
      → IsAmong t (texts_over texts_replied o ls)

-- the nonces before a place
nonces_before : (es fs gs : List Stimulus) (bytes n m : List ℕ) → es ≡ fs ++ Given bytes n ∷ gs → IsAmong m (nonces fs) → IsAmong m (nonces es)
nonces_before es fs gs bytes n m e i =
    subst (λ (l : List Stimulus). IsAmong m (nonces l)) (sym e)
    (subst (IsAmong m) (sym (nonces-append fs (Given bytes n ∷ gs))) (among_front m (nonces fs) (n ∷ nonces gs) i))

-- the text at a place
text_at : (o : Origin) (es fs gs : List Stimulus) (bytes n : List ℕ) (t : Keyed) → es ≡ fs ++ Given bytes n ∷ gs
    → text_checked (presented (present o (after o [] fs)) bytes) ≡ t ∷ [] → IsAmong t (texts_checked o [] es)
text_at o es fs gs bytes n t e is = subst (λ (l : List Stimulus). IsAmong t (texts_checked o [] l)) (sym e) (among_here o [] fs gs bytes n t is)

-- the text of the reply there
reply_at : (o : Origin) (es fs gs : List Stimulus) (bytes n : List ℕ) (t : Keyed) → es ≡ fs ++ Given bytes n ∷ gs
    → text_replied (presented (present o (after o [] fs)) bytes) (outcome (present o (after o [] fs)) bytes n) n ≡ t ∷ [] → IsAmong t (texts_replied o [] es)
reply_at o es fs gs bytes n t e is = subst (λ (l : List Stimulus). IsAmong t (texts_replied o [] l)) (sym e) (among_reply o [] fs gs bytes n t is)

place_over : (o : Origin) (ls : List Life) (xs ys : List Execution) (x : Execution) → executions o ls ≡ xs ++ x ∷ ys → InLives o ls x
place_over o [] xs ys x e = absurd (nothing xs ys x e)
place_over o (l ∷ ls) xs ys x e =
    let es = executed l in
    let others = flat_map executed ls in
    let later = origin_after o l in
    elim (cut (executions_of o [] es) (executions later ls) xs ys x e) [
      | inl c ↦
          let p = place o [] es xs c.0 x c.1 in
          record {
            origin = o;
            before = p.before;
            bytes = p.bytes;
            nonce = p.nonce;
            is = p.is;
            nonces_are = λ n i. subst (IsAmong n) (sym (nonces-append es others))
                (among_front n (nonces es) (nonces others) (nonces_before es p.before p.behind p.bytes p.nonce n p.stimuli i));
            texts_are = λ t i. among_front t (texts_checked o [] es) (texts_over texts_checked later ls)
                (text_at o es p.before p.behind p.bytes p.nonce t p.stimuli i);
            replies_are = λ t i. among_front t (texts_replied o [] es) (texts_over texts_replied later ls)
                (reply_at o es p.before p.behind p.bytes p.nonce t p.stimuli i);
          }
      | inr c ↦
          let p = place_over later ls c.0 ys x c.1 in
          record {
            origin = p.origin;
            before = p.before;
            bytes = p.bytes;
            nonce = p.nonce;
            is = p.is;
            nonces_are = λ n i. subst (IsAmong n) (sym (nonces-append es others)) (among_later n (nonces es) (nonces others) (p.nonces_are n i));
            texts_are = λ t i. among_later t (texts_checked o [] es) (texts_over texts_checked later ls) (p.texts_are t i);
            replies_are = λ t i. among_later t (texts_replied o [] es) (texts_over texts_replied later ls) (p.replies_are t i);
          }
    ]

-- A session's nonce was handed in, in its own life.
handed_in : (o : Origin) (es : List Stimulus) (bytes n : List ℕ) (a : Auth) → Used o (after o [] es) bytes n a
    → IsAmong (last_nonce (slot_of a.session) (after o [] es)) (nonces es)
handed_in o es bytes n a v =
    let k = slot_of a.session in
    let live = (held o (after o [] es) a.session v.by.signed.session v.by.is).live in
    elim (fresh (λ _. ⊥) o k es [] (λ p. absurd (let z : ⊥ = cc in z)) live) [ inl none ↦ absurd none | inr i ↦ i ]

-- what is asked of the authorization of a command that two buffers spell
record Twice (c : Command) (a : Auth) (bytes other : List ℕ) : Type 0 where
  first : Spells command c bytes
  second : Spells command c other
  one : c.auths.items ≡ a ∷ []
  is : is_session a.session ≡ true
  some : 0 < length a.hmac

-- a command that was accepted in one life, and in a later one
across : (o p : Origin) (es gs : List Stimulus) (bytes other n m : List ℕ) (c : Command) (a : Auth) (xs ys : List (List ℕ)) (texts : List Keyed)
    → Twice c a bytes other → AreApart (xs ++ ys) → AreFree texts
    → ((r : List ℕ) → IsAmong r (nonces es) → IsAmong r xs) → ((r : List ℕ) → IsAmong r (nonces gs) → IsAmong r ys)
    → ((t : Keyed) → text_checked (presented (present o (after o [] es)) bytes) ≡ t ∷ [] → IsAmong t texts)
    → ((t : Keyed) → text_checked (presented (present p (after p [] gs)) other) ≡ t ∷ [] → IsAmong t texts)
    → IsAccepted o (after o [] es) bytes n → IsAccepted p (after p [] gs) other m → ⊥
across o p es gs bytes other n m c a xs ys texts two apart free in_xs in_ys in_first in_second first second =
    let k = slot_of a.session in
    let v = used o (after o [] es) bytes n c a two.first two.one two.is two.some first in
    let w = used p (after p [] gs) other m c a two.second two.one two.is two.some second in
    let x = keyed v.by.signed in
    let y = keyed w.by.signed in
    let one_text = free x y (in_first x v.checked) (in_second y w.checked) (sym v.by.mac ∙ w.by.mac) in
    let both = alike o p es gs bytes other n m a v w one_text in
    apart_across xs ys (last_nonce k (after o [] es)) (last_nonce k (after p [] gs)) apart
    (in_xs (last_nonce k (after o [] es)) (handed_in o es bytes n a v)) (in_ys (last_nonce k (after p [] gs)) (handed_in p gs other m a w)) both.front

twice_by : (o : Origin) (ls : List Life) (xs ys zs : List Execution) (x y : Execution) (c : Command) (a : Auth)
    → executions o ls ≡ xs ++ x ∷ (ys ++ y ∷ zs)
    → NoncesDifferOver ls → NoCollisionOver o ls → Twice c a x.bytes y.bytes → WasAccepted x → WasAccepted y → ⊥
twice_by o [] xs ys zs x y c a e differ free two first second = nothing xs (ys ++ y ∷ zs) x e
twice_by o (l ∷ ls) xs ys zs x y c a e differ free two first second =
    let es = executed l in
    let others = flat_map executed ls in
    let later = origin_after o l in
    let apart : AreApart (nonces es ++ nonces others) = subst AreApart (nonces-append es others) differ in
    let texts = texts_checked o [] es in
    elim (cut (executions_of o [] es) (executions later ls) xs (ys ++ y ∷ zs) x e) [
      | inl k ↦
          let p = place o [] es xs k.0 x k.1 in
          let h = after o [] p.before in
          let g = next o h p.bytes p.nonce in
          let accepted : IsAccepted o h p.bytes p.nonce = subst WasAccepted p.is first in
          elim (cut k.0 (executions later ls) ys zs y (sym k.2)) [
            | inl q ↦
                let r = place o g p.behind ys q.0 y (sym p.later ∙ q.1) in
                let all : es ≡ p.before ++ Given p.bytes p.nonce ∷ r.before ++ Given r.bytes r.nonce ∷ r.behind =
                both_cut es p.before p.behind r.before r.behind (Given p.bytes p.nonce) (Given r.bytes r.nonce) p.stimuli r.stimuli in
                let there : after o [] (p.before ++ Given p.bytes p.nonce ∷ r.before) ≡ after o g r.before =
                after-append o [] p.before (Given p.bytes p.nonce ∷ r.before) in
                let again : IsAccepted o (after o g r.before) r.bytes r.nonce = subst WasAccepted r.is second in
                twice_as o p.before r.before r.behind p.bytes r.bytes p.nonce r.nonce c a
                (subst NoncesDiffer all (apart_front (nonces es) (nonces others) apart))
                (subst (λ (m : List Stimulus). AreFree (texts_checked o [] m)) all
                (λ u v i j. free u v (among_front u texts (texts_over texts_checked later ls) i) (among_front v texts (texts_over texts_checked later ls) j)))
                (subst (λ (z : Execution). Spells command c z.bytes) p.is two.first) (subst (λ (z : Execution). Spells command c z.bytes) r.is two.second)
                two.one two.is two.some accepted (subst (λ (z : History). IsAccepted o z r.bytes r.nonce) (sym there) again)
            | inr q ↦
                let r = place_over later ls q.0 zs y q.1 in
                across o r.origin p.before r.before p.bytes r.bytes p.nonce r.nonce c a (nonces es) (nonces others) (texts_over texts_checked o (l ∷ ls))
                (record {
                  first = subst (λ (z : Execution). Spells command c z.bytes) p.is two.first;
                  second = subst (λ (z : Execution). Spells command c z.bytes) r.is two.second;
                  one = two.one;
                  is = two.is;
                  some = two.some;
                })
                apart free
                (λ n i. nonces_before es p.before p.behind p.bytes p.nonce n p.stimuli i) r.nonces_are
                (λ t i. among_front t texts (texts_over texts_checked later ls) (text_at o es p.before p.behind p.bytes p.nonce t p.stimuli i))
                (λ t i. among_later t texts (texts_over texts_checked later ls) (r.texts_are t i))
                accepted (subst WasAccepted r.is second)
          ]
      | inr k ↦
          twice_by later ls k.0 ys zs x y c a k.1 (apart_behind (nonces es) (nonces others) apart)
          (λ u v i j. free u v (among_later u texts (texts_over texts_checked later ls) i) (among_later v texts (texts_over texts_checked later ls) j))
          two first second
    ]

pub twice_over : (o : Origin) (ls : List Life) (xs ys zs : List Execution) (x y : Execution) → executions o ls ≡ xs ++ x ∷ ys ++ y ∷ zs
    → NoncesDifferOver ls → NoCollisionOver o ls → HasSessionMac x.bytes → x.bytes ≡ y.bytes → WasAccepted x → WasAccepted y → ⊥
twice_over o ls xs ys zs x y e differ free (c, a, spells, one, is, some) same first second =
    twice_by o ls xs ys zs x y c a (e ∙ append_assoc xs (x ∷ ys) (y ∷ zs)) differ free
    (record { first = spells; second = subst (Spells command c) same spells; one = one; is = is; some = some }) first second

-- ---- replies

-- what stands before an element of a list, and behind it
parted : {A : Type 0} (x : A) (l : List A) → IsAmong x l → (xs : List A) × (ys : List A) × (l ≡ xs ++ x ∷ ys)
parted x [] i = absurd i
parted x (y ∷ l) (inl e) = ([], l, ap (λ z. z ∷ l) (sym e))
parted x (y ∷ l) (inr i) =
    let p = parted x l i in
    (y ∷ p.0, p.1, ap (λ m. y ∷ m) p.2)

among_parted : {A : Type 0} (x : A) (l xs ys : List A) → l ≡ xs ++ x ∷ ys → IsAmong x l
among_parted x l xs ys e = subst (IsAmong x) (sym e) (among_later x xs (x ∷ ys) (inl refl))

-- A reply that is opened was that of an accepted buffer, its own, which is one of a session.
own_over : (o : Origin) (ls : List Life) (seals : List Seal) (openings : List Opening) (x : Execution) (s : Seal) (w : Opened)
    → IsOfCallersOver o seals openings ls → IsAmong x (executions o ls) → IsAmong s seals → needs_authorization (code_for s.body) ≡ true
    → IsAmong (record { seal = s; bytes = reply_to x }) openings → opened (waiting s) (reply_to x) ≡ Ok w
    → WasAccepted x × Spells command (sealed_command s) x.bytes × (is_session s.caller.handle ≡ true)
own_over o ls seals openings x s w callers among given needs tried is =
    let parts = parted x (executions o ls) among in
    let p = place_over o ls parts.0 parts.1 x parts.2 in
    subst
    (λ (z : Execution). IsAmong z (executions o ls) → IsAmong (record { seal = s; bytes = reply_to z }) openings → opened (waiting s) (reply_to z) ≡ Ok w
    → WasAccepted z × Spells command (sealed_command s) z.bytes × (is_session s.caller.handle ≡ true))
    (sym p.is)
    (λ here also opens.
    let r = own p.origin seals openings (texts_over texts_checked o ls) (texts_over texts_replied o ls) p.before p.bytes p.nonce s (record {
      sealed = callers.sealed (record { origin = p.origin; history = after p.origin [] p.before; bytes = p.bytes; nonce = p.nonce }) here;
      differ = callers.differ;
      free = callers.no_collision;
      given = given;
      answers = p.replies_are;
      tried = also;
    }) needs w opens in
    (r.0, r.1.0, r.1.1))
    among tried is

pub own_reply_over : (o : Origin) (ls : List Life) (seals : List Seal) (openings : List Opening) (x : Execution) (s : Seal) (w : Opened)
    → IsOfCallersOver o seals openings ls → IsAmong x (executions o ls) → IsAmong s seals → needs_authorization (code_for s.body) ≡ true
    → IsAmong (record { seal = s; bytes = reply_to x }) openings → opened (waiting s) (reply_to x) ≡ Ok w
    → WasAccepted x × Spells command (sealed_command s) x.bytes
own_reply_over o ls seals openings x s w callers among given needs tried is =
    let r = own_over o ls seals openings x s w callers among given needs tried is in
    (r.0, r.1)

pub one_reply_over : (o : Origin) (ls : List Life) (seals : List Seal) (openings : List Opening) (xs ys zs : List Execution) (x y : Execution) (s : Seal)
    (w v : Opened)
    → executions o ls ≡ xs ++ x ∷ ys ++ y ∷ zs → NoncesDifferOver ls → IsOfCallersOver o seals openings ls → IsAmong s seals
    → needs_authorization (code_for s.body) ≡ true
    → IsAmong (record { seal = s; bytes = reply_to x }) openings → IsAmong (record { seal = s; bytes = reply_to y }) openings
    → opened (waiting s) (reply_to x) ≡ Ok w → opened (waiting s) (reply_to y) ≡ Ok v → ⊥
one_reply_over o ls seals openings xs ys zs x y s w v e differ callers given needs tried also is both =
    let from = e ∙ append_assoc xs (x ∷ ys) (y ∷ zs) in
    let all = executions o ls in
    let a = own_over o ls seals openings x s w callers (among_parted x all xs (ys ++ y ∷ zs) from) given needs tried is in
    let b = own_over o ls seals openings y s v callers (among_parted y all (xs ++ x ∷ ys) zs e) given needs also both in
    twice_by o ls xs ys zs x y (sealed_command s) (seal_auth s) from differ
    (fewer (texts_over texts_checked o ls) (texts_over texts_replied o ls ++ texts_opened openings) callers.no_collision)
    (record { first = a.1; second = b.1; one = refl; is = a.2; some = hmac_some s.caller.hash (seal_key s) (seal_text s) }) a.0 b.0
