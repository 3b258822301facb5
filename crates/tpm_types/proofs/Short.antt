-- The parts of sessions and parameters take few bytes, and are read alike whatever is behind them.
use Rattle.std.proofs.Common.{◌≡◌, ℕ, ◌+◌, ◌≤◌, ◌<◌, Bool, true, false, eqb, List, ◌++◌, length, Result, Ok}
use Rattle.std.proofs.Common.{Err, refl, arith}
use Rattle.std.proofs.lemmas.Bool.{ne_eqb, eqb-true}
use Rattle.std.proofs.lemmas.List.{length-append}
use Rattle.tpm_wire.specs.declared.refusal.Refusal.{Refusal}
use Rattle.tpm_wire.specs.ResponseCodes.{rc_size, rc_hash, rc_value}
use Rattle.tpm_wire.specs.Token.{Here}
use Rattle.tpm_wire.specs.Layout.{Form, raw, either}
use Rattle.tpm_wire.specs.Reading.{finish, ◌>>=◌}
use Rattle.tpm_wire.specs.Buffers.{buffer, Layout, number_in, numbered}
use Rattle.tpm_wire.specs.Longer.{with_more}
use Rattle.tpm_wire.proofs.Longer.{TakesAtMost, in_set, at_most_more, at_most_done, at_most_number, at_most_number_in}
use Rattle.tpm_wire.proofs.Longer.{at_most_text, at_most_field, at_most_marked, at_most_sized_bytes}
use Rattle.tpm_types.specs.declared.alg.Alg.TheVariants.{Sha1, Sha256, Sha384}
use Rattle.tpm_types.specs.declared.alg.Alg.{Alg}
use Rattle.tpm_types.specs.declared.tpms.Selection.{Selection}
use Rattle.tpm_types.specs.declared.tpmt.SymDef.TheVariants.{Null, Aes, Xor}
use Rattle.tpm_types.specs.Limits.{digest_bytes}
use Rattle.tpm_types.specs.Alg.{alg_of, alg_number, digest_len, hash}
use Rattle.tpm_types.specs.Handles.{is_auth_session, auth_session}
use Rattle.tpm_types.specs.Tpma.{is_session_attrs, session_attrs}
use Rattle.tpm_types.specs.Tpms.{select_bytes, selection, auth_command}
use Rattle.tpm_types.specs.Constants.{key_bits_of, key_bits_number, key_bits}
use Rattle.tpm_types.specs.Tpmt.{digest_value, bits_of, hash_of, alg_cfb, alg_null, alg_aes, algorithm, mode, sym_def}

-- a part, and what follows it
pub and : {A B : Type 0} (j k : ℕ) (get : A → B) (l : Layout B) (f : B → Layout A) → TakesAtMost j l
    → ((y : B) → TakesAtMost k (f y)) → TakesAtMost (j + k) (Form.field get l f)
and j k get l f one two = at_most_field j k get l f one (λ m h y is. two y.0)

-- a parameter, and what follows it
pub next : {A B : Type 0} (j k n : ℕ) (get : A → B) (l : Layout B) (f : B → Layout A) → TakesAtMost j l
    → ((y : B) → TakesAtMost k (f y)) → TakesAtMost (j + k) (Form.field get (numbered n l) f)
next j k n get l f one two = and j k get (numbered n l) f (at_most_marked j n l one) two

-- a part, and nothing behind it
pub last : {A B : Type 0} (j : ℕ) (get : A → B) (l : Layout B) (x : B → A) → TakesAtMost j l → TakesAtMost (j + 0) (Form.field get l (λ y. Form.done (x y)))
last j get l x one = and j 0 get l (λ y. Form.done (x y)) one (λ y. at_most_done (x y))

pub only : {A B : Type 0} (j n : ℕ) (get : A → B) (l : Layout B) (x : B → A) → TakesAtMost j l
    → TakesAtMost (j + 0) (Form.field get (numbered n l) (λ y. Form.done (x y)))
only j n get l x one = last j get (numbered n l) x (at_most_marked j n l one)

pub of_hash : TakesAtMost 2 hash
unfolding hash
of_hash = at_most_number 2 alg_of alg_number rc_hash

of_digest_len : (alg : Alg) → digest_len alg ≤ 48
of_digest_len Sha1 = omega arith
of_digest_len Sha256 = omega arith
of_digest_len Sha384 = omega arith

pub of_session : TakesAtMost 105 auth_command
unfolding auth_command auth_session session_attrs
of_session =
    and 4 101 _ _ _ (at_most_number_in 4 is_auth_session rc_value) (λ s.
    and 50 51 _ _ _ (at_most_sized_bytes digest_bytes) (λ n.
    and 1 50 _ _ _ (at_most_number_in 1 is_session_attrs _) (λ a.
    last 50 _ _ _ (at_most_sized_bytes digest_bytes))))

abbrev made : Alg → List ℕ → Selection
made alg select = record { hash = alg; select = select }

pub of_selection : TakesAtMost 6 selection
unfolding selection
of_selection =
    and 2 4 _ _ _ of_hash (λ alg.
    at_most_field 1 3 (λ _. select_bytes) (number_in 1 (λ n. eqb n select_bytes) rc_value)
    (λ n. Form.field (λ s. s.select) (raw n) (λ select. Form.done (made alg select)))
    (at_most_number_in 1 (λ n. eqb n select_bytes) rc_value)
    (λ m h n is.
    let three : n.0 ≡ 3 = eqb-true n.0 select_bytes (in_set 1 (λ n. eqb n select_bytes) rc_value m h n is) in
    at_most_more (n.0 + 0) 3 _ (omega (arith, three))
    (last n.0 (λ s. s.select) (raw n.0) (λ select. made alg select)
    (at_most_text n.0 (λ bytes. Ok bytes) (λ bytes. bytes)))))

pub of_digest_value : TakesAtMost 50 digest_value
unfolding digest_value
of_digest_value =
    and 2 48 _ _ _ of_hash (λ alg.
    at_most_more (digest_len alg + 0) 48 _ (omega (arith, of_digest_len alg))
    (last (digest_len alg) _ _ _ (at_most_text (digest_len alg) (λ bytes. Ok bytes) (λ bytes. bytes))))

pub of_sym_def : TakesAtMost 6 sym_def
unfolding sym_def algorithm key_bits mode
of_sym_def = and 2 4 _ _ _ (at_most_number_in 2 _ _) (λ n. go (eqb n alg_null) (eqb n alg_aes))
  where
    go : (a b : Bool)
        → TakesAtMost 4
        (either a (Form.done Null)
        (either b
        (Form.field bits_of key_bits (λ bits. Form.field (λ _. alg_cfb) mode (λ _. Form.done (Aes bits))))
        (Form.field hash_of hash (λ alg. Form.done (Xor alg)))))
    go true b = at_most_more 0 4 _ (omega arith) (at_most_done _)
    go false true = and 2 2 _ _ _ (at_most_number 2 key_bits_of key_bits_number rc_value) (λ bits. last 2 _ _ _ (at_most_number_in 2 _ _))
    go false false = at_most_more 2 4 _ (omega arith) (last 2 _ _ _ of_hash)

-- ---- more bytes than are read

abbrev pub ok : {A : Type 0} → A → Result A Refusal
ok x = Ok x

abbrev pub err : {A : Type 0} → Refusal → Result A Refusal
err e = Err e

-- behind what was read there are bytes left
pub over : {A : Type 0} (more : List ℕ) → 0 < length more → (x : A) (g : Here)
    → (finish buffer (x, with_more more g) >>= λ y. ok y.0) ≡ err (record { code = rc_size; at = g.at })
over more some x g =
    let n : eqb (length (g.rest ++ more)) 0 ≡ false = ne_eqb (length (g.rest ++ more)) 0 (λ e. omega (arith, some, e, length-append g.rest more)) in
    rw n refl
