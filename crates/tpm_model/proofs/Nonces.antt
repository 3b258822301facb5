-- The nonces of sessions along runs.
use Rattle.std.proofs.Common.{◌≡◌, ◌≢◌, ℕ, ◌+◌, ◌≤◌, List, [], ◌∷◌, ◌++◌, length, take, Ok, Some, None, Option, Bool}
use Rattle.std.proofs.Common.{true, false, ◌||◌, refl, sym, ap, ◌∙◌, subst, arith, inl, inr}
use Rattle.std.proofs.lemmas.Bool.Decides.{nat_tests}
use Rattle.std.specs.Prelude.{if◌then◌else◌, ◌==◌, ◌⊎◌, nat_lt, is_some}
use Rattle.tpm_wire.specs.ResponseCodes.{rc_size, of_parameter}
use Rattle.tpm_wire.proofs.Agreement.{bind_ok}
use Rattle.tpm_types.specs.Alg.{digest_len}
use Rattle.tpm_types.proofs.Algs.{digest_most}
use Rattle.tpm_commands.specs.declared.command.Command.{Command}
use Rattle.tpm_commands.specs.declared.command.CommandBody.{CommandBody}
use Rattle.tpm_commands.specs.declared.command.StartAuth.{StartAuth}
use Rattle.tpm_commands.specs.declared.command.ReplyBody.{ReplyBody}
use Rattle.tpm_commands.specs.declared.command.CommandBody.TheVariants as bodies
use Rattle.tpm_commands.specs.declared.command.ReplyBody.TheVariants as replies
use Rattle.tpm_buffer.specs.Responses.{Reply}
use Rattle.tpm_model.specs.Steps.{History, Accepted, PowerCycle, Origin}
use Rattle.tpm_model.specs.Sessions.{Session, slot_of, lives, begins, clears, closes, authorizes, Start, start_of}
use Rattle.tpm_model.specs.Sessions.{begun, begun_with, started_by, last_nonce}
use Rattle.tpm_model.specs.Present.{present}
use Rattle.tpm_model.specs.Authorization.{refuse}
use Rattle.tpm_model.specs.Actions.{action}
use Rattle.tpm_model.specs.Answers.{next}
use Rattle.tpm_model.specs.Runs.Stimulus.{Given, Cycled}
use Rattle.tpm_model.specs.Runs.{Stimulus, after}
use Rattle.tpm_model.specs.Premises.{nonces, IsApart, AreApart, least_nonce, most_nonce}
use Rattle.tpm_hmac.specs.Among.{IsAmong}
use Rattle.tpm_model.proofs.Accepted.{along, after_next}
use Rattle.tpm_model.proofs.Slots.{Held}
use Rattle.tpm_hmac.proofs.Among.{among_later}

-- ---- lists of nonces

pub nonces-append : (es fs : List Stimulus) → nonces (es ++ fs) ≡ nonces es ++ nonces fs
nonces-append [] fs = refl
nonces-append (Given bytes n ∷ es) fs = ap (λ (ns : List (List ℕ)). n ∷ ns) (nonces-append es fs)
nonces-append (Cycled ∷ es) fs = nonces-append es fs

apart_from : (n : List ℕ) (ns : List (List ℕ)) (m : List ℕ) → IsApart n ns → IsAmong m ns → take least_nonce n ≢ take least_nonce m
apart_from n [] m a i = absurd i
apart_from n (k ∷ ns) m a (inl e) = λ s. a.0 (s ∙ ap (take least_nonce) e)
apart_from n (k ∷ ns) m a (inr i) = apart_from n ns m a.1 i

-- a nonce before and a nonce after
pub apart_across : (xs ys : List (List ℕ)) (n m : List ℕ) → AreApart (xs ++ ys) → IsAmong n xs → IsAmong m ys → take least_nonce n ≢ take least_nonce m
apart_across [] ys n m a i j = absurd i
apart_across (x ∷ xs) ys n m a (inl e) j = λ s. apart_from x (xs ++ ys) m a.0 (among_later m xs ys j) (sym (ap (take least_nonce) e) ∙ s)
apart_across (x ∷ xs) ys n m a (inr i) j = apart_across xs ys n m a.1 i j

from_front : (x : List ℕ) (xs ys : List (List ℕ)) → IsApart x (xs ++ ys) → IsApart x xs
from_front x [] ys a = tt
from_front x (y ∷ xs) ys a = (a.0, from_front x xs ys a.1)

pub apart_front : (xs ys : List (List ℕ)) → AreApart (xs ++ ys) → AreApart xs
apart_front [] ys a = tt
apart_front (x ∷ xs) ys a = (from_front x xs ys a.0, apart_front xs ys a.1)

pub apart_behind : (xs ys : List (List ℕ)) → AreApart (xs ++ ys) → AreApart ys
apart_behind [] ys a = a
apart_behind (x ∷ xs) ys a = apart_behind xs ys a.1

-- ---- the nonce of a session's last step

last_by : (begin by live gone : Bool) (n old : List ℕ) → (begin || (if gone then false else live)) ≡ true →
    ((if begin || by then n else old) ≡ n) ⊎ ((live ≡ true) × ((if begin || by then n else old) ≡ old))
last_by true by live gone n old l = inl refl
last_by false true live gone n old l = inl refl
last_by false false live true n old l = absurd (let k : ⊥ = cc in k)
last_by false false live false n old l = inr (l, refl)

pub last_step : (k : ℕ) (h : History) (c : Command) (r : Reply) (n : List ℕ) → lives k (Accepted c r n ∷ h) ≡ true →
    (last_nonce k (Accepted c r n ∷ h) ≡ n) ⊎ ((lives k h ≡ true) × (last_nonce k (Accepted c r n ∷ h) ≡ last_nonce k h))
last_step k h c r n l =
    last_by (begins k c.body r.body) (authorizes k c.auths.items) (lives k h) (clears k c.body || closes k c.auths.items) n (last_nonce k h) l

abbrev Or : (List ℕ → Type 0) → List ℕ → List ℕ → Type 0
Or S n x = S x ⊎ (x ≡ n)

moved : (S : List ℕ → Type 0) (x n : List ℕ) (ns : List (List ℕ)) → Or S n x ⊎ IsAmong x ns → S x ⊎ IsAmong x (n ∷ ns)
moved S x n ns (inl (inl s)) = inl s
moved S x n ns (inl (inr e)) = inr (inl e)
moved S x n ns (inr i) = inr (inr i)

-- While a session lives, the nonce of its last step is what it was, or was handed in since.
pub fresh : (S : List ℕ → Type 0) (o : Origin) (k : ℕ) (es : List Stimulus) (h : History) → (lives k h ≡ true → S (last_nonce k h)) →
    lives k (after o h es) ≡ true → S (last_nonce k (after o h es)) ⊎ IsAmong (last_nonce k (after o h es)) (nonces es)
fresh S o k [] h f l = inl (f l)
fresh S o k (Given bytes n ∷ es) h f l =
    moved S (last_nonce k (after o (next o h bytes n) es)) n (nonces es) (fresh (Or S n) o k es (next o h bytes n)
    (after_next (λ g. lives k g ≡ true → Or S n (last_nonce k g)) o h bytes n (λ p. inl (f p))
    (λ d s p. elim (last_step k h d.command d.reply n p) [ inl e ↦ inr e | inr q ↦ inl (subst S (sym q.1) (f q.0)) ])) l)
fresh S o k (Cycled ∷ es) h f l = fresh S o k es (PowerCycle ∷ h) (λ p. absurd (let z : ⊥ = cc in z)) l

-- ---- Each live session was started with a nonce of enough bytes, and not too many.

abbrev pub HasLength : StartAuth → Type 0
HasLength q = (least_nonce ≤ length q.params.nonce_caller) × (length q.params.nonce_caller ≤ most_nonce)

abbrev HasStart : Option Start → Type 0
HasStart None = ⊥
HasStart (Some s) = HasLength s.request

abbrev IsSound : ℕ → History → Type 0
IsSound k h = lives k h ≡ true → HasStart (start_of k h)

sound_by : (begin : Option StartAuth) (live gone : Bool) (n : List ℕ) (old : Option Start) → ((q : StartAuth) → begin ≡ Some q → HasLength q)
    → (live ≡ true → HasStart old)
    → (is_some begin || (if gone then false else live)) ≡ true → HasStart (started_by begin n old)
sound_by (Some q) live gone n old f g l = f q refl
sound_by None live true n old f g l = absurd (let k : ⊥ = cc in k)
sound_by None live false n old f g l = g l

pub bounds : (n m code : ℕ) → refuse (nat_lt n 16 || nat_lt m n) code ≡ Ok tt → (16 ≤ n) × (n ≤ m)
bounds n m code e = go (nat_lt n 16) (nat_lt m n) refl refl e
  where
    go : (a b : Bool) → nat_lt n 16 ≡ a → nat_lt m n ≡ b → refuse (a || b) code ≡ Ok tt → (16 ≤ n) × (n ≤ m)
    go false false s t e = (let enough : 16 ≤ n = grind (arith, nat_tests) in enough, let few : n ≤ m = grind (arith, nat_tests) in few)
    go _ _ s t e = absurd (let z : ⊥ = cc in z)

begun_same : (k : ℕ) (s q : StartAuth) (reply : ReplyBody) → begun_with k s reply ≡ Some q → s ≡ q
begun_same k s q (replies.StartAuthSession r) e = go (slot_of r.session == k) e
  where
    go : (b : Bool) → (if b then Some s else None) ≡ Some q → s ≡ q
    go true e = cc
    go false e = absurd (let z : ⊥ = cc in z)
begun_same k s q _ e = absurd (let z : ⊥ = cc in z)

start_by : (o : Origin) (h : History) (k : ℕ) (body : CommandBody) (n : List ℕ) (reply : ReplyBody) (q : StartAuth)
    → action (present o h) body n ≡ Ok reply → begun k body reply ≡ Some q → HasLength q
start_by o h k (bodies.StartAuthSession s) n reply q e b =
    let f =
    bind_ok
    (refuse (nat_lt (length s.params.nonce_caller) 16 || nat_lt (digest_len s.params.auth_hash) (length s.params.nonce_caller)) (rc_size + of_parameter 1))
    _ reply e in
    let g = bounds (length s.params.nonce_caller) (digest_len s.params.auth_hash) (rc_size + of_parameter 1) f.1 in
    subst HasLength (begun_same k s q reply b) (g.0, omega (arith, g.1, digest_most s.params.auth_hash))
start_by o h k _ n reply q e b = absurd (let z : ⊥ = cc in z)

sound_along : (o : Origin) (k : ℕ) (es : List Stimulus) → IsSound k (after o [] es)
sound_along o k es = along (IsSound k) o
    (λ h bytes n d s f. sound_by (begun k d.command.body d.reply.body) (lives k h) (clears k d.command.body || closes k d.command.auths.items)
    n (start_of k h) (λ q b. start_by o h k d.command.body n d.reply.body q s.act b) f)
    (λ h f l. absurd (let z : ⊥ = cc in z)) es [] (λ l. absurd (let z : ⊥ = cc in z))

-- a session that is loaded has such a start
pub has_length : (o : Origin) (es : List Stimulus) (handle : ℕ) (y : Session) (x : Held o (after o [] es) handle y) → HasLength x.start.request
has_length o es handle y x = subst HasStart x.there (sound_along o (slot_of handle) es x.live)
