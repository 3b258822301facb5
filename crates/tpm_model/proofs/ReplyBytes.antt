-- The session of a reply as it is read from its bytes: its nonce and its HMAC, whichever command it is read as the reply to.
use Rattle.std.proofs.Common.{◌≡◌, ℕ, ◌+◌, ◌-◌, ◌≤◌, ◌<◌, ◌^◌, List, [], ◌∷◌, ◌++◌, length, take, drop, Result, Ok}
use Rattle.std.proofs.Common.{Some, None, Option, refl, sym, ap, ◌∙◌, subst, arith}
use Rattle.std.proofs.lemmas.List.{take_at, drop_at}
use Rattle.std.specs.Prelude.{◌==◌, ◌&&◌, nat_le, if◌then◌else◌}
use Rattle.std.specs.Int.{bytes_high_first}
use Rattle.tpm_wire.specs.declared.refusal.Refusal.{Refusal}
use Rattle.tpm_wire.specs.Buffers.{buffer, number_in}
use Rattle.tpm_wire.specs.Structures.{sized_bytes}
use Rattle.tpm_wire.specs.Token.{Here, past, at_start, number_of}
use Rattle.tpm_wire.specs.Reading.{read, unless, found}
use Rattle.tpm_wire.specs.ResponseCodes.{rc_reserved_bits, rc_size, rc_value}
use Rattle.tpm_wire.proofs.Agreement.{bind_ok, number_ok}
use Rattle.tpm_wire.proofs.Buffers.{buffer_sound}
use Rattle.tpm_wire.proofs.Numbers.{number_of-bytes}
use Rattle.tpm_types.specs.declared.tpms.AuthReply.{AuthReply}
use Rattle.tpm_types.specs.Tpm2b.{nonce, auth_value}
use Rattle.tpm_types.specs.Tpma.{session_attrs, is_session_attrs}
use Rattle.tpm_types.specs.Tpms.{auth_response}
use Rattle.tpm_buffer.specs.Commands.{command_size}
use Rattle.tpm_buffer.specs.Responses.{is_response_tag, goes_with, response_tag, response_front, response_code}
use Rattle.tpm_buffer.specs.Responses.{parameter_size, reply_sessions, further_sessions}
use Rattle.tpm_model.specs.Premises.{most_nonce}
use Rattle.tpm_model.proofs.Sealing.{okay_is}
use Rattle.tpm_model.proofs.ReplySessions.{session_list, auths_at, auths_behind, Lists, Fronted, fronted, meant}
use Rattle.tpm_model.proofs.ReplySessions.{in_place, front_tag}

-- ---- places behind numbers

total_place : (h : Here) (x : ℕ × Here) → read 0 command_size h ≡ Ok x → x.1 ≡ past 4 h
unfolding command_size
total_place h x e =
    let n = number_ok buffer buffer_sound 0 4 (λ left n. if (n == left + 6) && nat_le 10 n && nat_le n 4096 then Some n else None) (λ n. n) 0x142 h x e in
    sym n.2

pub front_place : (h : Here) (x : (ℕ × ℕ) × Here) → read 0 response_front h ≡ Ok x → x.1 ≡ past 4 (past 2 h)
unfolding response_front response_tag
front_place h x e =
    let a = bind_ok (read 0 response_tag h) _ x e in
    let b = bind_ok (read 0 command_size a.0.1) _ x a.2 in
    sym (ap (λ (z : (ℕ × ℕ) × Here). z.1) (okay_is {E = Refusal} ((a.0.0, b.0.0), b.0.1) x b.2)) ∙ total_place a.0.1 b.0 b.1
    ∙ ap (past 4) ((in_place 0 2 is_response_tag 0x01E h a.0 a.1).1)

pub code_place : (t : ℕ) (h : Here) (x : ℕ × Here) → read 0 (response_code t) h ≡ Ok x → x.1 ≡ past 4 h
unfolding response_code
code_place t h x e = (in_place 0 4 (goes_with t) rc_value h x e).1

pub size_place : (h : Here) (x : ℕ × Here) → read 0 parameter_size h ≡ Ok x → (number_of (take 4 h.rest) ≡ x.0) × (x.1 ≡ past 4 h)
unfolding parameter_size
size_place h x e =
    let n = number_ok buffer buffer_sound 0 4 (λ left n. if nat_le n left then Some n else None) (λ n. n) rc_size h x e in
    (meant (nat_le (number_of (take 4 h.rest)) (length h.rest - 4)) (number_of (take 4 h.rest)) x.0 rc_size n.1, sym n.2)

-- where the code ends
pub code_at : {A : Type 0} (next : ℕ → ℕ → Here → Result A Refusal) (bytes : List ℕ) (x : A) (p : Fronted next bytes x)
    → p.code.1 ≡ past 4 (past 4 (past 2 (at_start bytes)))
code_at next bytes x p = code_place p.front.0.0 p.front.1 p.code p.follows ∙ ap (past 4) (front_place (at_start bytes) p.front p.begins)

taken : (o : Option ℕ) (mark n : ℕ) (h : Here) (x : List ℕ × Here) → unless buffer o mark h (found buffer (Ok (take n h.rest)) n mark h) ≡ Ok x
    → (take n h.rest ≡ x.0) × (past n h ≡ x.1)
taken None mark n h x e =
    let same = okay_is {E = Refusal} (take n h.rest, past n h) x e in
    (ap (λ (z : List ℕ × Here). z.0) same, ap (λ (z : List ℕ × Here). z.1) same)
taken (Some fault) mark n h x e = absurd (let z : ⊥ = cc in z)

-- sized bytes, by their size
pub sized_place : (mark : ℕ) (h : Here) (x : List ℕ × Here) → read mark (sized_bytes most_nonce) h ≡ Ok x
    → (x.0 ≡ take (number_of (take 2 h.rest)) (drop 2 h.rest)) × (x.1 ≡ past (number_of (take 2 h.rest)) (past 2 h))
unfolding sized_bytes
sized_place mark h x e =
    let a = bind_ok (read mark (number_in 2 (λ n. nat_le n most_nonce) rc_size) h) _ x e in
    let n = in_place mark 2 (λ n. nat_le n most_nonce) rc_size h a.0 a.1 in
    let k = number_of (take 2 h.rest) in
    let t = taken (buffer.lacks mark a.0.1.at a.0.0 (length a.0.1.rest)) mark a.0.0 a.0.1 x a.2 in (
      sym t.0 ∙ ap (λ (i : ℕ). take i a.0.1.rest) (sym n.0) ∙ ap (λ (g : Here). take k g.rest) n.1,
      sym t.1 ∙ ap (λ (i : ℕ). past i a.0.1) (sym n.0) ∙ ap (past k) n.1,
    )

-- ---- a session

-- a session in bytes, and what follows it
abbrev pub session_text : (nonce : List ℕ) → (attrs : ℕ) → (hmac more : List ℕ) → List ℕ
session_text n f m more = bytes_high_first 2 (length n) ++ (n ++ (bytes_high_first 1 f ++ (bytes_high_first 2 (length m) ++ (m ++ more))))

-- a place and its rest
abbrev Rest : Here → List ℕ → Type 0
Rest h rest = h.rest ≡ rest

two_bytes : (n : ℕ) (more : List ℕ) → n < 256 ^ 2 → number_of (take 2 (bytes_high_first 2 n ++ more)) ≡ n
two_bytes n more small = number_of-bytes 2 n small

-- sized bytes are read from their spelling
sized_read : (mark : ℕ) (h : Here) (x : List ℕ × Here) (n more : List ℕ) → length n ≤ most_nonce → Rest h (bytes_high_first 2 (length n) ++ (n ++ more))
    → read mark (sized_bytes most_nonce) h ≡ Ok x → (x.0 ≡ n) × Rest x.1 more
sized_read mark h x n more few is e =
    let p = sized_place mark h x e in
    let k : number_of (take 2 h.rest) ≡ length n = ap (λ (l : List ℕ). number_of (take 2 l)) is ∙ two_bytes (length n) (n ++ more) (omega (arith, few)) in
    let rest : drop 2 h.rest ≡ n ++ more = ap (drop 2) is in (
      p.0 ∙ ap (λ (i : ℕ). take i (drop 2 h.rest)) k ∙ ap (take (length n)) rest ∙ take_at n more (length n) refl,
      ap (λ (g : Here). g.rest) p.1 ∙ ap (λ (i : ℕ). drop i (drop 2 h.rest)) k ∙ ap (drop (length n)) rest ∙ drop_at n more (length n) refl,
    )

abbrev auth_at : List ℕ → ℕ → List ℕ → Here → AuthReply × Here
auth_at n f m g = (record { nonce = n; attrs = f; hmac = m }, g)

session_read : (mark : ℕ) (h : Here) (x : AuthReply × Here) (n : List ℕ) (f : ℕ) (m more : List ℕ) → length n ≤ most_nonce → length m ≤ most_nonce
    → Rest h (session_text n f m more) → read mark auth_response h ≡ Ok x
    → (x.0.nonce ≡ n) × (x.0.hmac ≡ m)
unfolding auth_response session_attrs
session_read mark h x n f m more few_n few_m is e =
    let a = bind_ok (read mark nonce h) _ x e in
    let b = bind_ok (read mark session_attrs a.0.1) _ x a.2 in
    let c = bind_ok (read mark auth_value b.0.1) _ x b.2 in
    let first = sized_read mark h a.0 n (bytes_high_first 1 f ++ (bytes_high_first 2 (length m) ++ (m ++ more))) few_n is a.1 in
    let behind : Rest b.0.1 (bytes_high_first 2 (length m) ++ (m ++ more)) =
    ap (λ (g : Here). g.rest) ((in_place mark 1 is_session_attrs rc_reserved_bits a.0.1 b.0 b.1).1) ∙ ap (drop 1) first.1 in
    let last = sized_read mark b.0.1 c.0 m more few_m behind c.1 in
    let same = okay_is {E = Refusal} (auth_at a.0.0 b.0.0 c.0.0 c.0.1) x c.2 in
    (sym (ap (λ (z : AuthReply × Here). z.0.nonce) same) ∙ first.0, sym (ap (λ (z : AuthReply × Here). z.0.hmac) same) ∙ last.0)

pub head_is : {A : Type 0} (a b : A) (others : List A) → a ∷ others ≡ b ∷ [] → a ≡ b
head_is a b others e = cc

sessions_read : (h g : Here) (a : AuthReply) (n : List ℕ) (f : ℕ) (m more : List ℕ) → length n ≤ most_nonce → length m ≤ most_nonce
    → Rest h (session_text n f m more) → read 0 reply_sessions h ≡ Ok (a ∷ [], g)
    → (a.nonce ≡ n) × (a.hmac ≡ m)
unfolding reply_sessions
sessions_read h g a n f m more few_n few_m is e =
    let b = bind_ok (read 0x900 auth_response h) _ (a ∷ [], g) e in
    let c = bind_ok (read 0 further_sessions b.0.1) _ (a ∷ [], g) b.2 in
    let same = head_is b.0.0 a c.0.0 (ap (λ (z : List AuthReply × Here). z.0) (okay_is {E = Refusal} (b.0.0 ∷ c.0.0, c.0.1) (a ∷ [], g) c.2)) in
    let r = session_read 0x900 h b.0 n f m more few_n few_m is b.1 in
    (sym (ap (λ (z : AuthReply). z.nonce) same) ∙ r.0, sym (ap (λ (z : AuthReply). z.hmac) same) ∙ r.1)

-- ---- a response

-- a response with one session, by its parts
abbrev pub reply_bytes : (size : ℕ) → (params nonce : List ℕ) → (attrs : ℕ) → (hmac more : List ℕ) → List ℕ
reply_bytes size params n f m more =
    bytes_high_first 2 0x8002
    ++ (bytes_high_first 4 size ++ (bytes_high_first 4 0 ++ (bytes_high_first 4 (length params) ++ (params ++ session_text n f m more))))

pub one_session : (size : ℕ) (params n : List ℕ) (f : ℕ) (m more : List ℕ) (a : AuthReply) → length params ≤ 110 → length n ≤ most_nonce → length m ≤ most_nonce
    → Lists (session_list (reply_bytes size params n f m more)) (a ∷ []) → (a.nonce ≡ n) × (a.hmac ≡ m)
one_session size params n f m more a short few_n few_m l =
    let bytes = reply_bytes size params n f m more in
    let p = fronted auths_behind bytes (a ∷ [], l.0) l.1 in
    let t : p.front.0.0 ≡ 0x8002 = sym (front_tag bytes p.front p.begins) in
    let z = bind_ok (read 0 parameter_size p.code.1) _ (a ∷ [], l.0) (subst (λ (t : ℕ). auths_at (t == 0x8002) p.code.1 ≡ Ok (a ∷ [], l.0)) t p.last) in
    let rest : Rest p.code.1 (bytes_high_first 4 (length params) ++ (params ++ session_text n f m more)) =
    ap (λ (g : Here). g.rest) (code_at auths_behind bytes (a ∷ [], l.0) p) in
    let s = size_place p.code.1 z.0 z.1 in
    let k : z.0.0 ≡ length params = sym s.0 ∙ ap (λ (r : List ℕ). number_of (take 4 r)) rest ∙ number_of-bytes 4 (length params) (omega (arith, short)) in
    let there : Rest (past z.0.0 z.0.1) (session_text n f m more) =
    ap (λ (i : ℕ). drop i z.0.1.rest) k ∙ ap (λ (g : Here). drop (length params) g.rest) s.1 ∙ ap (λ (r : List ℕ). drop (length params) (drop 4 r)) rest
    ∙ drop_at params (session_text n f m more) (length params) refl in
    sessions_read (past z.0.0 z.0.1) l.0 a n f m more few_n few_m there z.2
