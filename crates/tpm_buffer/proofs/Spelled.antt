-- Every command has a spelling.
use Rattle.std.proofs.Common.{◌≡◌, ℕ, ◌+◌, ◌-◌, ◌^◌, ◌<◌, ◌≤◌, ◌⊎◌, Bool, true, false, eqb, leb, List, [], ◌∷◌, ◌++◌}
use Rattle.std.proofs.Common.{length, All, Some, refl, sym, ap, ◌∙◌, arith, inl, inr, subst, cond, None}
use Rattle.std.proofs.lemmas.Bool.{le-leb, eq-eqb, ne_eqb}
use Rattle.std.proofs.lemmas.List.{length-append, nil_from_length}
use Rattle.std.specs.Prelude.{◌||◌, ◌&&◌}
use Rattle.tpm_wire.specs.Structures.{sized_bytes}
use Rattle.tpm_wire.specs.Spelling.{spelling, Fits, IsSpelled, joined, joined_all}
use Rattle.tpm_wire.specs.Reading.{read_all}
use Rattle.tpm_wire.specs.Buffers.{buffer, Layout}
use Rattle.tpm_wire.specs.Path.{Spells}
use Rattle.tpm_wire.proofs.Buffers.{buffer_sound, buffer_roomy}
use Rattle.tpm_wire.proofs.Again.{fit_list, read_again}
use Rattle.tpm_wire.proofs.Whole.{read_spells}
use Rattle.tpm_types.specs.declared.tpms.Auth.{Auth}
use Rattle.tpm_types.specs.Tpma.{session_attrs}
use Rattle.tpm_types.specs.Handles.{auth_session}
use Rattle.tpm_types.specs.Tpms.{auth_command}
use Rattle.tpm_types.specs.declared.command_code.CommandCode.{CommandCode}
use Rattle.tpm_commands.specs.declared.command.Command.{Command}
use Rattle.tpm_commands.specs.declared.command.CommandBody.{CommandBody}
use Rattle.tpm_types.specs.CommandCodes.{code_of, code_number, command_code}
use Rattle.tpm_commands.specs.Handles.{handles}
use Rattle.tpm_commands.specs.Parameters.{parameters}
use Rattle.tpm_buffer.specs.Commands.{sessions, authorization_size, authorization, tag, tag_of, command_size, code_for}
use Rattle.tpm_buffer.specs.Commands.{handles_of, params_of, body_from, with_auths, rest_of, header, command}

-- a session has at least nine bytes
auth_long : (a : Auth) → 9 ≤ length (spelling auth_command a)
unfolding auth_command auth_session session_attrs sized_bytes
auth_long a = simp length-append (omega arith)

some_long : (auths : List Auth) → 0 < length auths → 9 ≤ length (joined_all auth_command auths)
some_long [] some = absurd (omega arith)
some_long (a ∷ auths) some = omega (arith, auth_long a, length-append (spelling auth_command a) (joined (λ _. spelling auth_command) (a ∷ []) auths))

pub fits_authorization : (t : ℕ) (auths : List Auth) (left : ℕ) → ((t ≡ 0x8001) × (length auths ≡ 0)) ⊎ ((t ≡ 0x8002) × (0 < length auths)) → length auths ≤ 3
    → All (IsSpelled auth_command) auths → length (spelling (authorization t) auths) < 2 ^ 16
    → length (spelling (authorization t) auths) ≤ left → Fits left (authorization t) auths
unfolding authorization authorization_size sessions
fits_authorization t auths left (inl none) three each small room = rw (none.0) (nil_from_length auths none.1)
fits_authorization t auths left (inr some) three each small room =
    let n = length (joined_all auth_command auths) in
    let long = some_long auths some.1 in
    let least : leb 9 n ≡ true = le-leb 9 n long in
    let fits : 4 + n ≤ left = omega (arith, subst (λ (k : ℕ). length (spelling (authorization k) auths) ≤ left) some.0 room) in
    let below : 4 + n < 2 ^ 16 = omega (arith, subst (λ (k : ℕ). length (spelling (authorization k) auths) < 2 ^ 16) some.0 small) in
    let most : leb n (left - 4) ≡ true = le-leb n (left - 4) (omega arith) in
    rw some.0 ((omega arith, rw (least, most) refl), (refl, fit_list auth_command true 3 n [] auths each three (inr (refl, refl))))

abbrev tag_by : Bool → ℕ
tag_by b = cond b 0x8001 0x8002

tag_meant : (b : Bool) → (tag_by b < 2 ^ 16) × (cond (eqb (tag_by b) 0x8001 || eqb (tag_by b) 0x8002) (Some (tag_by b)) None ≡ Some (tag_by b))
tag_meant true = (omega arith, refl)
tag_meant false = (omega arith, refl)

pub size_meant : (n left : ℕ) → n ≡ left + 6 → 10 ≤ n → n ≤ 4096 → cond ((eqb n (left + 6)) && leb 10 n && leb n 4096) (Some n) None ≡ Some n
size_meant n left e least most = rw (eq-eqb n (left + 6) e, le-leb 10 n least, le-leb n 4096 most) refl

-- the code's number stands for the code
abbrev pub IsCode : CommandCode → Type 0
IsCode code = (code_number code < 2 ^ 32) × (code_of (code_number code) ≡ Some code)

pub fits_command : (c : Command) → IsCode (code_for c.body) → length (spelling (rest_of (code_for c.body) (tag_of c)) c) ≤ 4000
    → ((left : ℕ) → length (spelling (rest_of (code_for c.body) (tag_of c)) c) ≤ left → Fits left (rest_of (code_for c.body) (tag_of c)) c)
    → Fits (length (spelling command c)) command c
unfolding command header tag command_size command_code
fits_command c code short rest =
    let n = length (spelling (rest_of (code_for c.body) (tag_of c)) c) in
    let total = 10 + n in (
      (
        tag_meant (eqb (length c.auths.items) 0),
        ((omega arith, size_meant (10 + n) _ (omega arith) (omega arith) (omega arith)), ((code.0, code.1), refl)),
      ),
      rest _ (omega arith),
    )

-- bytes that are the spelling of a value spell it
pub encoded : {A : Type 0} (l : Layout A) (x : A) (bytes : List ℕ) → bytes ≡ spelling l x → Fits (length bytes) l x → Spells l x bytes
encoded l x bytes is fits = read_spells buffer buffer_sound l bytes x (ap (read_all l) is ∙ read_again buffer buffer_roomy l x (rw is at fits))

tag_cases : (auths : List Auth)
    → ((tag_by (eqb (length auths) 0) ≡ 0x8001) × (length auths ≡ 0))
    ⊎ ((tag_by (eqb (length auths) 0) ≡ 0x8002) × (0 < length auths))
tag_cases [] = inl (refl, refl)
tag_cases (a ∷ auths) = inr (rw (ne_eqb (length (a ∷ auths)) 0 (λ e. omega (arith, e))) refl, omega arith)

-- what follows the header fits, as each of its parts does
pub fits_rest : (c : Command) → length c.auths.items ≤ 3 → All (IsSpelled auth_command) c.auths.items
    → ((left : ℕ) → Fits left (handles (code_for c.body)) (handles_of c.body)) → ((left : ℕ) → Fits left (parameters (code_for c.body)) (params_of c.body))
    → body_from (handles_of c.body) (params_of c.body) ≡ c.body → length (spelling (rest_of (code_for c.body) (tag_of c)) c) ≤ 4000
    → (left : ℕ) → length (spelling (rest_of (code_for c.body) (tag_of c)) c) ≤ left → Fits left (rest_of (code_for c.body) (tag_of c)) c
fits_rest c three each one last whole short left room =
    let auths = c.auths.items in
    let front = spelling (handles (code_for c.body)) (handles_of c.body) in
    let middle = spelling (authorization (tag_of c)) auths in
    let back = spelling (parameters (code_for c.body)) (params_of c.body) ++ [] in
    let lengths : length (front ++ (middle ++ back)) ≡ length front + (length middle + length back) =
    omega (arith, length-append front (middle ++ back), length-append middle back) in (
      one left,
      (
        fits_authorization (tag_of c) auths (left - length front) (tag_cases auths) three each (omega (arith, short, lengths)) (omega (arith, room, lengths)),
        (last _, ap (λ (b : CommandBody). with_auths b auths) (sym whole)),
      ),
    )
