-- What is opened and what is not, by what the bytes spell.
use Rattle.std.proofs.Common.{◌≡◌, ◌≢◌, ◌↔◌, ℕ, Bool, true, false, List, [], ◌∷◌, length, Result, Ok, Err, Some, Option}
use Rattle.std.proofs.Common.{refl, sym, ap, ◌∙◌, subst}
use Rattle.std.proofs.lemmas.Bool.{eqb-true, eq-eqb, both_ways}
use Rattle.std.proofs.lemmas.Slice.Eq.{bytes_eq-Decides}
use Rattle.std.specs.Prelude.{◌==◌}
use Rattle.tpm_wire.specs.declared.refusal.Refusal.{Refusal}
use Rattle.tpm_wire.specs.Buffers.{buffer}
use Rattle.tpm_wire.specs.Path.{Spells, Fault}
use Rattle.tpm_wire.specs.Reading.{read_all, ◌>>=◌}
use Rattle.tpm_wire.proofs.Buffers.{buffer_sound}
use Rattle.tpm_wire.proofs.Whole.{spells_read, read_spells, fault_read, read_fault}
use Rattle.tpm_types.specs.declared.tpms.AuthReply.{AuthReply}
use Rattle.tpm_commands.specs.declared.command.ReplyBody.{ReplyBody}
use Rattle.tpm_commands.specs.declared.response.Response.{Response}
use Rattle.tpm_commands.specs.declared.response.Response.TheVariants as responses
use Rattle.tpm_buffer.specs.Responses.{response, done_with}
use Rattle.tpm_hmac.specs.Hmac.{hmac}
use Rattle.tpm_model.specs.InStep.{CallerSession}
use Rattle.tpm_model.specs.Callers.{CallerFault, Refused, Code, NotExpected, WrongMac, Waiting, Opened, awaited_text}
use Rattle.tpm_model.specs.Callers.{has_mac, caller_after, unless, opened_session, opened_response, opened}
use Rattle.tpm_model.specs.Callers.{caller_of_refusal, given_up}
use Rattle.tpm_model.proofs.RoundTrip.{open_is}
use Rattle.tpm_caller.specs.Opens.{IsOpened, IsNotExpected, HasWrongMac, IsGivenUp}
use Rattle.tpm_caller.proofs.Opening.{other_length, other_mac, opened_is}

-- ---- what the bytes are, by what was answered

abbrev done_as : ReplyBody → AuthReply → Response
done_as body a = done_with (record { body = body; auths = a ∷ [] })

-- what an answer tells of the bytes that read so
abbrev Tells : Waiting → List ℕ → Result Response Refusal → Result Opened CallerFault → Type 0
Tells w bytes r (Ok x) = IsOpened w bytes x
Tells w bytes r (Err (Refused e)) = r ≡ Err e
Tells w bytes r (Err (Code n)) = r ≡ Ok (responses.Code n)
Tells w bytes r (Err NotExpected) = IsNotExpected w bytes
Tells w bytes r (Err WrongMac) = HasWrongMac w bytes

spelled : (w : Waiting) (bytes : List ℕ) (r : Response) → read_all (response w.code) bytes ≡ Ok r → Spells (response w.code) r bytes
spelled w bytes r e = read_spells buffer buffer_sound (response w.code) bytes r e

abbrev ReadAs : Waiting → List ℕ → ReplyBody → List AuthReply → Type 0
ReadAs w bytes body auths = read_all (response w.code) bytes ≡ Ok (done_with (record { body = body; auths = auths }))

one_told : (w : Waiting) (bytes : List ℕ) (body : ReplyBody) (a : AuthReply) → ReadAs w bytes body (a ∷ [])
    → Tells w bytes (Ok (done_as body a)) (opened_session w body (a ∷ []))
one_told w bytes body a is = go (length a.nonce == length w.caller.nonce) (has_mac w body a) refl refl
  where
    go : (long mac : Bool) → (length a.nonce == length w.caller.nonce) ≡ long → has_mac w body a ≡ mac
        → Tells w bytes (Ok (done_as body a))
        (unless long NotExpected
        >>= λ _.
        unless mac WrongMac >>= λ _. Ok (record { caller = caller_after w a; response = done_as body a }))
    go false mac t u = record {
      body = body;
      auths = a ∷ [];
      spells = spelled w bytes _ is;
      differs =
          λ d one same.
          let d_is : a ≡ d = cc in
          both_ways (length a.nonce == length w.caller.nonce) t
          (eq-eqb _ _ (ap (λ (k : AuthReply). length k.nonce) d_is ∙ same));
    }
    go true false t u = record {
      body = body;
      auth = a;
      expected = record { spells = spelled w bytes _ is; nonce = eqb-true _ _ t };
      mac = λ same. both_ways (has_mac w body a) u ((bytes_eq-Decides a.hmac (hmac w.caller.hash w.key (awaited_text w body a))).1 same);
    }
    go true true t u = record {
      body = body;
      auth = a;
      expected = record { spells = spelled w bytes _ is; nonce = eqb-true _ _ t };
      mac = (bytes_eq-Decides a.hmac (hmac w.caller.hash w.key (awaited_text w body a))).0 u;
      is = refl;
    }

told : (w : Waiting) (bytes : List ℕ) (r : Result Response Refusal) → read_all (response w.code) bytes ≡ r → Tells w bytes r (opened_response w r)
told w bytes (Err f) is = refl
told w bytes (Ok (responses.Code m)) is = refl
told w bytes (Ok (responses.Done body auths)) is = go auths.items is
  where
    go : (l : List AuthReply) → ReadAs w bytes body l → Tells w bytes (Ok (done_with (record { body = body; auths = l }))) (opened_session w body l)
    go (a ∷ []) is = one_told w bytes body a is
    go [] is = record { body = body; auths = []; spells = spelled w bytes _ is; differs = λ a one. absurd (let z : ⊥ = cc in z) }
    go (a ∷ b ∷ others) is = record { body = body; auths = a ∷ b ∷ others; spells = spelled w bytes _ is; differs = λ d one. absurd (let z : ⊥ = cc in z) }

answer_told : (w : Waiting) (bytes : List ℕ) (x : Result Opened CallerFault) → opened w bytes ≡ x → Tells w bytes (read_all (response w.code) bytes) x
answer_told w bytes x e = subst (Tells w bytes (read_all (response w.code) bytes)) e (told w bytes (read_all (response w.code) bytes) refl)

-- ---- and the other way

not_expected_by : (w : Waiting) (body : ReplyBody) (auths : List AuthReply)
    → ((a : AuthReply) → auths ≡ a ∷ [] → length a.nonce ≢ length w.caller.nonce)
    → opened_session w body auths ≡ Err NotExpected
not_expected_by w body [] differs = refl
not_expected_by w body (a ∷ []) differs = other_length w body a (differs a refl)
not_expected_by w body (a ∷ b ∷ others) differs = refl

pub what_opens : (w : Waiting) (bytes : List ℕ) (x : Opened) → (opened w bytes ≡ Ok x) ↔ IsOpened w bytes x
what_opens w bytes x = (
  answer_told w bytes (Ok x),
  λ o.
      opened_is w w.code bytes (done_as o.body o.auth) refl o.expected.spells
      ∙ open_is w o.body o.auth o.expected.nonce o.mac
      ∙ ap (λ (y : Opened). let z : Result Opened CallerFault = Ok y in z) (sym o.is),
)

pub what_is_refused : (w : Waiting) (bytes : List ℕ) (e : Refusal) → (opened w bytes ≡ Err (Refused e)) ↔ Fault (response w.code) bytes e
what_is_refused w bytes e = (
  λ o. read_fault buffer buffer_sound (response w.code) bytes e (answer_told w bytes (Err (Refused e)) o),
  λ f. ap (opened_response w) (fault_read buffer buffer_sound (response w.code) bytes e f),
)

pub what_is_a_code : (w : Waiting) (bytes : List ℕ) (n : ℕ) → (opened w bytes ≡ Err (Code n)) ↔ Spells (response w.code) (responses.Code n) bytes
what_is_a_code w bytes n = (
  λ o. spelled w bytes (responses.Code n) (answer_told w bytes (Err (Code n)) o),
  λ s. opened_is w w.code bytes (responses.Code n) refl s,
)

pub what_is_not_expected : (w : Waiting) (bytes : List ℕ) → (opened w bytes ≡ Err NotExpected) ↔ IsNotExpected w bytes
what_is_not_expected w bytes = (
  answer_told w bytes (Err NotExpected),
  λ x. opened_is w w.code bytes (done_with (record { body = x.body; auths = x.auths })) refl x.spells ∙ not_expected_by w x.body x.auths x.differs,
)

pub what_has_a_wrong_mac : (w : Waiting) (bytes : List ℕ) → (opened w bytes ≡ Err WrongMac) ↔ HasWrongMac w bytes
what_has_a_wrong_mac w bytes = (
  answer_told w bytes (Err WrongMac),
  λ x. opened_is w w.code bytes (done_as x.body x.auth) refl x.expected.spells ∙ other_mac w x.body x.auth x.expected.nonce x.mac,
)

-- ---- giving up

refusal_told : (w : Waiting) (c : CallerSession) (r : Result Response Refusal) → caller_of_refusal w r ≡ Some c
    → (n : ℕ) × (r ≡ Ok (responses.Code n)) × (c ≡ w.caller)
refusal_told w c (Ok (responses.Code n)) is = (n, refl, let same : c ≡ w.caller = cc in same)
refusal_told w c _ is = absurd (let z : ⊥ = cc in z)

pub what_is_given_up : (w : Waiting) (bytes : List ℕ) (c : CallerSession) → (given_up w bytes ≡ Some c) ↔ IsGivenUp w bytes c
what_is_given_up w bytes c = (
  λ e. let t = refusal_told w c (read_all (response w.code) bytes) e in record { code = t.0; spells = spelled w bytes (responses.Code t.0) t.1; is = t.2 },
  λ x.
      ap (caller_of_refusal w)
      (spells_read buffer buffer_sound (response w.code) bytes (responses.Code x.code) x.spells)
      ∙ ap (λ (k : CallerSession). let o : Option CallerSession = Some k in o) (sym x.is),
)
