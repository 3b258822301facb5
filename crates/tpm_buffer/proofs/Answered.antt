-- Every response has a spelling.
use Rattle.std.proofs.Common.{◌≡◌, ℕ, ◌+◌, ◌-◌, ◌^◌, ◌<◌, ◌≤◌, Bool, true, false, cond, eqb, leb, List, [], ◌∷◌, ◌++◌}
use Rattle.std.proofs.Common.{length, All, Some, None, refl, sym, subst, ap, ◌∙◌, arith, inr}
use Rattle.std.proofs.lemmas.Bool.{le-leb, ne_eqb}
use Rattle.std.proofs.lemmas.List.{length-append, append-nil}
use Rattle.std.specs.Prelude.{◌||◌}
use Rattle.std.specs.Int.{bytes_high_first}
use Rattle.tpm_wire.specs.Spelling.{spelling, Fits, IsSpelled, joined}
use Rattle.tpm_wire.specs.Buffers.{Layout}
use Rattle.tpm_wire.specs.Path.{Spells}
use Rattle.tpm_wire.proofs.Again.{fit_list}
use Rattle.tpm_types.specs.declared.tpms.AuthReply.{AuthReply}
use Rattle.tpm_types.specs.Tpms.{auth_response}
use Rattle.tpm_types.specs.declared.command_code.CommandCode.{CommandCode}
use Rattle.tpm_commands.specs.declared.command.ReplyBody.{ReplyBody}
use Rattle.tpm_commands.specs.Replies.{code_for_reply, reply_handles, reply_handles_of, parameters_of_reply}
use Rattle.tpm_commands.specs.declared.response.Response.TheVariants as responses
use Rattle.tpm_buffer.specs.Commands.{command_size}
use Rattle.tpm_buffer.specs.Responses.{response_front, response_tag, code_tag, reply_tag, goes_with, response_code}
use Rattle.tpm_buffer.specs.Responses.{further_sessions, reply_sessions, parameter_size, with_sessions}
use Rattle.tpm_buffer.specs.Responses.{without_sessions, reply_behind, Reply, reply, done_with, behind_code, response}
use Rattle.tpm_buffer.proofs.Spelled.{size_meant, encoded}

pub fits_sessions : (a : AuthReply) (others : List AuthReply) → length others ≤ 2 → IsSpelled auth_response a → All (IsSpelled auth_response) others
    → Fits (length (spelling reply_sessions (a ∷ others))) reply_sessions (a ∷ others)
unfolding reply_sessions further_sessions
fits_sessions a others two one each =
    let first = spelling auth_response a in
    let rest = joined (λ _. spelling auth_response) [] others in
    let left : length (first ++ (rest ++ [])) - length first ≡ length rest = omega (arith, length-append first (rest ++ []), ap length (append-nil rest)) in
    (one.fits _, (fit_list auth_response true 2 _ [] others each two (inr (refl, left)), refl))

-- ---- a response that is a code

abbrev tag_by : Bool → ℕ
tag_by b = cond b 0x00C4 0x8001

-- the tag is one of the three, and the code goes with it
record GoesWith (n t : ℕ) : Type 0 where
  is_tag : cond (eqb t 0x8001 || eqb t 0x8002 || eqb t 0x00C4) (Some t) None ≡ Some t
  small : t < 2 ^ 16
  goes : cond (goes_with t n) (Some n) None ≡ Some n

one_tag : (n : ℕ) (b : Bool) → eqb n 0x01E ≡ b → GoesWith n (tag_by b)
one_tag n true e = record { is_tag = refl; small = omega arith; goes = rw e refl }
one_tag n false e = record { is_tag = refl; small = omega arith; goes = rw e refl }

code_behind : (code : CommandCode) (n : ℕ) → eqb n 0 ≡ false → spelling (behind_code code (code_tag n) n) (responses.Code n) ≡ []
code_behind code n e = rw e refl

fits_code : (code : CommandCode) (n : ℕ) → 0 < n → n < 2 ^ 32 → Fits 10 (response code) (responses.Code n)
unfolding response response_front response_tag command_size response_code
fits_code code n some small =
    let none : eqb n 0 ≡ false = ne_eqb n 0 (λ e. omega (arith, some, e)) in
    let tags = one_tag n (eqb n 0x01E) refl in
    let rest = code_behind code n none in
    (((tags.small, tags.is_tag), ((rw rest (omega arith), rw rest refl), refl)), ((small, tags.goes), rw none refl))

-- what is written of a code
pub code_text : (code : CommandCode) (n : ℕ) → 0 < n
    → spelling (response code) (responses.Code n)
    ≡ bytes_high_first 2 (code_tag n) ++ (bytes_high_first 4 10 ++ bytes_high_first 4 n)
unfolding response response_front response_tag command_size response_code
code_text code n some =
    let rest = code_behind code n (ne_eqb n 0 (λ e. omega (arith, some, e))) in
    rw (rest, append-nil (bytes_high_first 4 n)) refl

pub code_spelled : (code : CommandCode) (n : ℕ) (bytes : List ℕ) → 0 < n → n < 2 ^ 32
    → bytes ≡ bytes_high_first 2 (code_tag n) ++ (bytes_high_first 4 10 ++ bytes_high_first 4 n)
    → Spells (response code) (responses.Code n) bytes
code_spelled code n bytes some small is =
    let text = code_text code n some in
    let ten : length (spelling (response code) (responses.Code n)) ≡ 10 = rw text refl in
    encoded (response code) (responses.Code n) bytes (is ∙ sym text) (rw (is ∙ sym text, ten) (fits_code code n some small))

-- ---- a reply

abbrev made : ReplyBody → List AuthReply → Reply
made body auths = record { body = body; auths = auths }

-- a value that fits where so many bytes are left
at_left : {A : Type 0} (l : Layout A) (x : A) (k m : ℕ) → Fits m l x → k ≡ m → Fits k l x
at_left l x k m fits is = subst (λ (j : ℕ). Fits j l x) (sym is) fits

room_meant : (n left : ℕ) → n ≤ left → cond (leb n left) (Some n) None ≡ Some n
room_meant n left le = rw (le-leb n left le) refl

fits_with : (l : Layout ReplyBody) (body : ReplyBody) (auths : List AuthReply) → ((left : ℕ) → Fits left l body) → length (spelling l body) ≤ 3500
    → Fits (length (spelling reply_sessions auths)) reply_sessions auths
    → Fits (length (spelling (with_sessions l) (record { body = body; auths = auths }))) (with_sessions l)
    (record { body = body; auths = auths })
unfolding with_sessions parameter_size
fits_with l body auths params short sessions =
    let n = length (spelling l body) in
    let m = length (spelling reply_sessions auths) in
    let whole : length (spelling l body ++ (spelling reply_sessions auths ++ [])) ≡ n + m =
    omega (
      arith,
      length-append (spelling l body) (spelling reply_sessions auths ++ []),
      ap length (append-nil (spelling reply_sessions auths)),
    ) in (
      (omega (arith, short), room_meant n _ (omega (arith, whole))),
      ((refl, params n), (at_left reply_sessions auths _ m sessions (omega (arith, whole)), refl)),
    )

pub fits_behind : (l : Layout ReplyBody) (body : ReplyBody) (auths : List AuthReply) → ((left : ℕ) → Fits left l body) → length (spelling l body) ≤ 3500
    → (0 < length auths → Fits (length (spelling reply_sessions auths)) reply_sessions auths)
    → Fits (length (spelling (reply_behind (reply_tag auths) l) (record { body = body; auths = auths })))
    (reply_behind (reply_tag auths) l) (record { body = body; auths = auths })
unfolding without_sessions
fits_behind l body [] params short sessions = (params _, refl)
fits_behind l body (a ∷ others) params short sessions = fits_with l body (a ∷ others) params short (sessions (omega arith))

fits_reply : (body : ReplyBody) (auths : List AuthReply) → ((left : ℕ) → Fits left (reply_handles (code_for_reply body)) (reply_handles_of body))
    → Fits (length (spelling (reply_behind (reply_tag auths) (parameters_of_reply body)) (made body auths)))
    (reply_behind (reply_tag auths) (parameters_of_reply body)) (made body auths)
    → Fits (length (spelling (reply (code_for_reply body) (reply_tag auths)) (made body auths)))
    (reply (code_for_reply body) (reply_tag auths)) (made body auths)
fits_reply body auths handles behind =
    let front = spelling (reply_handles (code_for_reply body)) (reply_handles_of body) in
    let back = spelling (reply_behind (reply_tag auths) (parameters_of_reply body)) (made body auths) in
    let left : length (front ++ back) - length front ≡ length back = omega (arith, length-append front back) in
    (handles _, at_left (reply_behind (reply_tag auths) (parameters_of_reply body)) (made body auths) _ (length back) behind left)

done_tag : (auths : List AuthReply) → GoesWith 0 (reply_tag auths)
done_tag [] = record { is_tag = refl; small = omega arith; goes = refl }
done_tag (a ∷ others) = record { is_tag = refl; small = omega arith; goes = refl }

fits_done : (body : ReplyBody) (auths : List AuthReply) → length (spelling (reply (code_for_reply body) (reply_tag auths)) (made body auths)) ≤ 4000
    → Fits (length (spelling (reply (code_for_reply body) (reply_tag auths)) (made body auths)))
    (reply (code_for_reply body) (reply_tag auths)) (made body auths)
    → Fits (length (spelling (response (code_for_reply body)) (done_with (made body auths)))) (response (code_for_reply body)) (done_with (made body auths))
unfolding response response_front response_tag command_size response_code
fits_done body auths short behind =
    let text = spelling (reply (code_for_reply body) (reply_tag auths)) (made body auths) in
    let n = length text in
    let same : length (text ++ []) ≡ n = ap length (append-nil text) in
    let tags = done_tag auths in (
      (
        (tags.small, tags.is_tag),
        (
          (
            omega (arith, short, same),
            size_meant (10 + length (text ++ [])) _ (omega arith) (omega arith) (omega (arith, short, same)),
          ),
          refl,
        ),
      ),
      (
        (omega arith, tags.goes),
        (
          at_left (reply (code_for_reply body) (reply_tag auths)) (made body auths) _ n behind
              (omega (arith, same)),
          refl,
        ),
      ),
    )

pub done_spelled : (body : ReplyBody) (auths : List AuthReply) (bytes : List ℕ)
    → bytes ≡ spelling (response (code_for_reply body)) (done_with (made body auths))
    → length (spelling (reply (code_for_reply body) (reply_tag auths)) (made body auths)) ≤ 4000
    → ((left : ℕ) → Fits left (reply_handles (code_for_reply body)) (reply_handles_of body))
    → Fits (length (spelling (reply_behind (reply_tag auths) (parameters_of_reply body)) (made body auths)))
    (reply_behind (reply_tag auths) (parameters_of_reply body)) (made body auths)
    → Spells (response (code_for_reply body)) (done_with (made body auths)) bytes
done_spelled body auths bytes is short handles behind =
    encoded (response (code_for_reply body)) (done_with (made body auths)) bytes is (rw is (fits_done body auths short (fits_reply body auths handles behind)))
