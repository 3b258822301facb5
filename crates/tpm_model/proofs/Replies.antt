-- The reply to a command of a session is read again.
use Rattle.std.proofs.Common.{◌≡◌, ℕ, ◌+◌, ◌≤◌, ◌<◌, ◌^◌, List, [], ◌∷◌, ◌++◌, length, take, drop, Result, Ok, Option}
use Rattle.std.proofs.Common.{true, refl, sym, ap, subst, arith, inl, length-append, length-take, length-drop}
use Rattle.std.proofs.lemmas.Bool.{le-leb}
use Rattle.std.proofs.lemmas.List.Elements.{All-nil}
use Rattle.std.proofs.lemmas.List.{append-nil}
use Rattle.std.specs.Prelude.{nat_lt, not, ok_or}
use Rattle.std.specs.Int.{w64, to_be_bytes}
use Rattle.tpm_wire.specs.Buffers.{buffer}
use Rattle.tpm_wire.specs.Reading.{read_all}
use Rattle.tpm_wire.specs.Spelling.{spelling, Fits, IsSpelled}
use Rattle.tpm_wire.specs.Structures.{sized_bytes, counted}
use Rattle.tpm_wire.specs.ResponseCodes.{rc_nv_authorization, rc_nv_range, rc_nv_uninitialized}
use Rattle.tpm_wire.proofs.Agreement.{bind_ok}
use Rattle.tpm_wire.proofs.Buffers.{buffer_sound}
use Rattle.tpm_wire.proofs.Whole.{spells_read}
use Rattle.tpm_types.specs.declared.alg.Alg.TheVariants.{Sha1, Sha256, Sha384}
use Rattle.tpm_types.specs.declared.alg.Alg.{Alg}
use Rattle.tpm_types.specs.declared.tpms.AuthReply.{AuthReply}
use Rattle.tpm_types.specs.declared.handle_sets.PcrOrNull.{PcrOrNull}
use Rattle.tpm_types.specs.declared.handle_sets.NvAuthHandle.{NvAuthHandle}
use Rattle.tpm_types.specs.Alg.{hash, digest_len}
use Rattle.tpm_types.specs.Tpma.{session_attrs, is_session_attrs, owner_reads}
use Rattle.tpm_types.specs.Tpmt.{digest_value}
use Rattle.tpm_types.specs.Tpms.{auth_response}
use Rattle.tpm_commands.specs.declared.command.CommandBody.{CommandBody}
use Rattle.tpm_commands.specs.declared.commands.nv.NvRead.{NvRead}
use Rattle.tpm_commands.specs.declared.command.ReplyBody.{ReplyBody}
use Rattle.tpm_commands.specs.Handles.{needs_authorization}
use Rattle.tpm_commands.specs.Replies.{code_for_reply, reply_handles, reply_handles_of, parameters_of_reply}
use Rattle.tpm_commands.specs.Commands.Nv.{nv_read_reply}
use Rattle.tpm_commands.specs.Commands.Pcr.{pcr_event_reply}
use Rattle.tpm_commands.specs.declared.command.CommandBody.TheVariants as bodies
use Rattle.tpm_commands.specs.declared.command.ReplyBody.TheVariants as replies
use Rattle.tpm_buffer.specs.Commands.{code_for}
use Rattle.tpm_buffer.specs.Responses.{Reply, reply_tag, reply, with_sessions, parameter_size, reply_sessions}
use Rattle.tpm_buffer.specs.Responses.{further_sessions, response, done_with}
use Rattle.tpm_buffer.proofs.Answered.{fits_sessions, fits_behind, done_spelled}
use Rattle.tpm_hmac.specs.Hashes.{digest}
use Rattle.tpm_hmac.proofs.DigestLengths.{length-digest}
use Rattle.tpm_pcr.specs.Registers.{event_digests}
use Rattle.tpm_model.specs.Counters.{Counter, counter_in}
use Rattle.tpm_model.specs.Present.{Present}
use Rattle.tpm_model.specs.Authorization.{refuse}
use Rattle.tpm_model.specs.Actions.{counter_size, defined_counter, may, read_counter, then_reply, action}
use Rattle.tpm_model.specs.Answers.{reply_params}
use Rattle.tpm_model.specs.Premises.{most_nonce}
use Rattle.tpm_model.proofs.Accepted.{ok_is}

-- ---- bytes of a size

pub fits_bytes : (most left : ℕ) (bytes : List ℕ) → most < 256 ^ 2 → length bytes ≤ most → Fits left (sized_bytes most) bytes
unfolding sized_bytes
fits_bytes most left bytes small le = ((omega arith, rw (le-leb (length bytes) most le) refl), (refl, refl))

pub length_bytes : (most : ℕ) (bytes : List ℕ) → length (spelling (sized_bytes most) bytes) ≡ 2 + length bytes
unfolding sized_bytes
length_bytes most bytes = omega arith

-- ---- the parameters

-- the reply to a command of a session
pub record IsReply (body : CommandBody) (r : ReplyBody) : Type 0 where
  pub code : code_for body ≡ code_for_reply r
  pub handles : (left : ℕ) → Fits left (reply_handles (code_for_reply r)) (reply_handles_of r)
  pub params : (left : ℕ) → Fits left (parameters_of_reply r) r
  pub short : length (reply_params r) ≤ 110
  pub none : spelling (reply_handles (code_for_reply r)) (reply_handles_of r) ≡ []

replied_by : {A : Type 0} (check : Result A ℕ) (q r : ReplyBody) → then_reply check q ≡ Ok r → q ≡ r
replied_by check q r e = let b = bind_ok check _ r e in ok_is q r b.2

read_short : (there : Option Counter) (by : NvAuthHandle) (i size offset : ℕ) (bytes : List ℕ) → read_counter there by i size offset ≡ Ok bytes
    → length bytes ≤ 8
read_short there by i size offset bytes e =
    let a = bind_ok (defined_counter there) _ bytes e in
    let b = bind_ok (refuse (not (may by (owner_reads a.0.public.attrs) i)) rc_nv_authorization) _ bytes a.2 in
    let c = bind_ok (ok_or a.0.value rc_nv_uninitialized) _ bytes b.2 in
    let d = bind_ok (refuse (nat_lt counter_size (offset + size)) rc_nv_range) _ bytes c.2 in
    let same = ok_is (take size (drop offset (to_be_bytes w64 c.0))) bytes d.2 in
    subst (λ (l : List ℕ). length l ≤ 8) same (omega (arith, length-take size (drop offset (to_be_bytes w64 c.0)), length-drop offset (to_be_bytes w64 c.0)))

reply_read : (by : NvAuthHandle) (i : ℕ) (asked : NvRead) (bytes : List ℕ) → length bytes ≤ 8 → IsReply (bodies.NvRead by i asked) (replies.NvRead bytes)
unfolding nv_read_reply
reply_read by i asked bytes le = record {
  code = refl;
  handles = λ left. refl;
  params = λ left. (fits_bytes 8 left bytes (omega arith) le, refl);
  short = omega (arith, le, length_bytes 8 bytes, ap length (append-nil (spelling (sized_bytes 8) bytes)));
  none = refl;
}

value_spelled : (alg : Alg) (d : List ℕ) → length d ≡ digest_len alg → IsSpelled digest_value (alg, d)
unfolding digest_value hash
value_spelled Sha1 d e = record { fits = λ left. ((omega arith, refl), ((e, refl), refl)); some = omega arith }
value_spelled alg d e = record { fits = λ left. ((omega arith, refl), ((e, refl), refl)); some = omega arith }

length_value : (alg : Alg) (d : List ℕ) → length d ≡ digest_len alg → length (spelling digest_value (alg, d)) ≡ 2 + digest_len alg
unfolding digest_value hash
length_value alg d e = simp length-append (omega (arith, e))

reply_event : (q : PcrOrNull) (event : List ℕ) → IsReply (bodies.PcrEvent q event) (replies.PcrEvent (event_digests event))
unfolding pcr_event_reply counted
reply_event q event =
    let a = digest Sha1 event in
    let b = digest Sha256 event in
    let c = digest Sha384 event in
    let x = value_spelled Sha1 a (length-digest Sha1 event) in
    let y = value_spelled Sha256 b (length-digest Sha256 event) in
    let z = value_spelled Sha384 c (length-digest Sha384 event) in
    let u = spelling digest_value (Sha1, a) in
    let v = spelling digest_value (Sha256, b) in
    let w = spelling digest_value (Sha384, c) in
    let long : length ((u ++ (v ++ (w ++ []))) ++ []) ≡ length u + (length v + length w) = simp (append-nil, length-append) refl in
    record {
      code = refl;
      handles = λ left. refl;
      params = λ left. (((omega arith, refl), (x.some, x.fits _, (y.some, y.fits _, (z.some, z.fits _, inl refl)))), refl);
      short = omega (
        arith,
        long,
        length_value Sha1 a (length-digest Sha1 event),
        length_value Sha256 b (length-digest Sha256 event),
        length_value Sha384 c (length-digest Sha384 event),
      );
      none = refl;
    }

pub own_reply : (p : Present) (body : CommandBody) (n : List ℕ) (r : ReplyBody) → needs_authorization (code_for body) ≡ true → action p body n ≡ Ok r
    → IsReply body r
own_reply p (bodies.PcrExtend q digests) n r needs e =
    subst (IsReply (bodies.PcrExtend q digests)) (replied_by _ _ r e)
    (record { code = refl; handles = λ left. refl; params = λ left. refl; short = omega arith; none = refl })
own_reply p (bodies.PcrEvent q event) n r needs e = subst (IsReply (bodies.PcrEvent q event)) (replied_by _ _ r e) (reply_event q event)
own_reply p (bodies.PcrReset q) n r needs e =
    subst (IsReply (bodies.PcrReset q)) (replied_by _ _ r e)
    (record { code = refl; handles = λ left. refl; params = λ left. refl; short = omega arith; none = refl })
own_reply p (bodies.NvDefineSpace asked) n r needs e =
    subst (IsReply (bodies.NvDefineSpace asked)) (replied_by _ _ r e)
    (record { code = refl; handles = λ left. refl; params = λ left. refl; short = omega arith; none = refl })
own_reply p (bodies.NvUndefineSpace index) n r needs e =
    subst (IsReply (bodies.NvUndefineSpace index)) (replied_by _ _ r e)
    (record { code = refl; handles = λ left. refl; params = λ left. refl; short = omega arith; none = refl })
own_reply p (bodies.NvIncrement by index) n r needs e =
    subst (IsReply (bodies.NvIncrement by index)) (replied_by _ _ r e)
    (record { code = refl; handles = λ left. refl; params = λ left. refl; short = omega arith; none = refl })
own_reply p (bodies.NvRead by index asked) n r needs e =
    let b = bind_ok (read_counter (counter_in p.nv.counters index) by index asked.size asked.offset) _ r e in
    subst (IsReply (bodies.NvRead by index asked)) (ok_is (replies.NvRead b.0) r b.2)
    (reply_read by index asked b.0 (read_short (counter_in p.nv.counters index) by index asked.size asked.offset b.0 b.1))
own_reply p _ n r needs e = absurd (let z : ⊥ = cc in z)

-- ---- the session

pub auth_spelled : (a : AuthReply) → length a.nonce ≤ most_nonce → length a.hmac ≤ most_nonce → a.attrs < 256 → is_session_attrs a.attrs ≡ true
    → IsSpelled auth_response a
unfolding auth_response session_attrs
auth_spelled a nonce mac small attrs = record {
  fits =
      λ left.
      (fits_bytes most_nonce left a.nonce (omega arith) nonce, ((omega arith, rw attrs refl), (fits_bytes most_nonce _ a.hmac (omega arith) mac, refl)));
  some = simp (length-append, length_bytes) (omega arith);
}

auth_short : (a : AuthReply) → length a.nonce ≤ most_nonce → length a.hmac ≤ most_nonce → length (spelling auth_response a) ≤ 101
unfolding auth_response session_attrs
auth_short a nonce mac = simp (length-append, length_bytes) (omega arith)

-- ---- the whole

abbrev made : ReplyBody → AuthReply → Reply
made body a = record { body = body; auths = a ∷ [] }

whole_short : (body : CommandBody) (r : ReplyBody) (a : AuthReply) → IsReply body r → length (spelling auth_response a) ≤ 101
    → length (spelling (reply (code_for_reply r) (reply_tag (a ∷ []))) (made r a)) ≤ 4000
unfolding with_sessions parameter_size reply_sessions further_sessions
whole_short body r a is short = rw is.none (simp length-append (omega (arith, is.short, short)))

pub read_again_as : (body : CommandBody) (r : ReplyBody) (a : AuthReply) → IsReply body r → length a.nonce ≤ most_nonce → length a.hmac ≤ most_nonce
    → a.attrs < 256 → is_session_attrs a.attrs ≡ true
    → read_all (response (code_for body)) (spelling (response (code_for body)) (done_with (made r a))) ≡ Ok (done_with (made r a))
read_again_as body r a is nonce mac small attrs =
    let one = auth_spelled a nonce mac small attrs in
    let sessions = fits_sessions a [] (omega arith) one (All-nil (IsSpelled auth_response)) in
    let behind = fits_behind (parameters_of_reply r) r (a ∷ []) is.params (omega (arith, is.short)) (λ _. sessions) in
    let code = code_for_reply r in
    let spelled =
    done_spelled r (a ∷ []) (spelling (response code) (done_with (made r a))) refl (whole_short body r a is (auth_short a nonce mac)) is.handles behind in
    subst (λ k. read_all (response k) (spelling (response k) (done_with (made r a))) ≡ Ok (done_with (made r a))) (sym is.code)
    (spells_read buffer buffer_sound (response code) (spelling (response code) (done_with (made r a))) (done_with (made r a)) spelled)
