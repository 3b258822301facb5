-- Where the handles and the parameters of a command lie in its bytes.
use Rattle.std.proofs.Common.{rules, ◌≡◌, ◌≤◌, ◌<◌, ◌==◌, ℕ, ◌+◌, ◌-◌, ◌*◌, ◌/◌, ◌^◌, Bool, true, false, List, [], ◌∷◌, ◌++◌}
use Rattle.std.proofs.Common.{length, take, drop, Option, Some, None, Result, Ok, Err, refl, sym, ap, ◌∙◌, subst, arith, length-append}
use Rattle.std.proofs.Common.{if◌then◌else◌}
use Rattle.std.proofs.lemmas.Bool.{eqb-true}
use Rattle.std.proofs.lemmas.List.{append-nil, take_at, drop_at}
use Rattle.tpm_wire.specs.declared.refusal.Refusal.{Refusal}
use Rattle.tpm_wire.specs.Buffers.{buffer, later_refusal}
use Rattle.tpm_wire.specs.Layout.{cut}
use Rattle.tpm_wire.specs.Path.{Fault}
use Rattle.tpm_wire.specs.Reading.{read_all}
use Rattle.tpm_wire.specs.Spelling.{spelling, Fits}
use Rattle.tpm_wire.proofs.Buffers.{buffer_sound}
use Rattle.tpm_wire.proofs.Whole.{spells_read, read_spells, fault_read, read_fault}
use Rattle.tpm_types.specs.declared.command_code.CommandCode.{CommandCode}
use Rattle.tpm_commands.specs.declared.command_handles.HandleKind.{HandleKind}
use Rattle.tpm_commands.specs.declared.command.Command.{Command}
use Rattle.tpm_commands.specs.declared.command.CommandBody.{CommandBody}
use Rattle.tpm_commands.specs.declared.command.Params.{Params}
use Rattle.tpm_commands.specs.Handles.{admits, handles, handles_from, handle_kinds, needs_authorization, AreAdmitted}
use Rattle.tpm_commands.specs.Parameters.{params_code, parameters}
use Rattle.tpm_commands.proofs.EachCommand.{handles_again, params_again}
use Rattle.tpm_buffer.specs.Commands.{header, authorization, body_from, code_for, handles_of, params_of}
use Rattle.tpm_buffer.specs.Commands.{with_auths, before_params, command}
use Rattle.tpm_buffer.specs.CommandAreas.{Cut, HasCut, IsSpelledBy}
use Rattle.tpm_buffer.proofs.Staged.{of_before, of_parts, of_params}
use Rattle.tpm_model.specs.Callers.{command_params}
use Rattle.tpm_caller.specs.Plain.{body_in, PartsFit, PlainParts, handle_bytes, parts_in}
use Rattle.tpm_caller.proofs.HmacPlace.{header_long}
use Rattle.tpm_caller.specs.inner.Placing.{AreParams}

-- ---- bytes that are no command

abbrev parts_read : Result Command Refusal → Option PlainParts
parts_read r = parts_in (body_in r)

refused : (bytes : List ℕ) (e : Refusal) → Fault command bytes e → None ≡ parts_read (read_all command bytes)
refused bytes e f = sym (ap parts_read (fault_read buffer buffer_sound command bytes e f))

pub no_areas : (bytes : List ℕ) (e : Refusal) → Fault (cut before_params) bytes e → None ≡ parts_read (read_all command bytes)
no_areas bytes e f = refused bytes e (of_before bytes e f)

pub no_params : (bytes : List ℕ) (x : Cut) (code : CommandCode) (params : List ℕ) (e : Refusal) → HasCut bytes x → code ≡ x.header.code
    → params ≡ x.params → read_all (parameters code) params ≡ Err e → None ≡ parts_read (read_all command bytes)
no_params bytes x code params e has same_code same_params bad =
    let its : read_all (parameters x.header.code) x.params ≡ Err e =
    subst (λ (k : CommandCode). read_all (parameters k) x.params ≡ Err e) same_code
    (subst (λ (l : List ℕ). read_all (parameters code) l ≡ Err e) same_params bad) in
    refused bytes (later_refusal (length bytes - length x.params) e)
    (of_params bytes x.params (record { header = x.header; handles = x.handles; auths = x.auths }) e has.0
    (read_fault buffer buffer_sound (parameters x.header.code) x.params e its))

-- ---- bytes that are one

-- the parameters of this cut
pub record HasParams (bytes : List ℕ) (x : Cut) (p : Params) : Type 0 where
  pub cut : HasCut bytes x
  pub spelled : IsSpelledBy bytes x
  pub are : AreParams x.header.code x.params p

pub has_params : (bytes : List ℕ) (x : Cut) (code : CommandCode) (params : List ℕ) (p : Params) → HasCut bytes x
    → IsSpelledBy bytes x → code ≡ x.header.code → params ≡ x.params → AreParams code params p → HasParams bytes x p
has_params bytes x code params p has spelled same_code same_params are = record {
  cut = has;
  spelled = spelled;
  are = subst (λ (k : CommandCode). AreParams k x.params p) same_code (subst (λ (l : List ℕ). AreParams code l p) same_params are);
}

abbrev command_of : Cut → Params → Command
command_of x p = with_auths (body_from x.handles p) x.auths

is_command : (bytes : List ℕ) (x : Cut) (p : Params) → HasParams bytes x p → read_all command bytes ≡ Ok (command_of x p)
is_command bytes x p h =
    spells_read buffer buffer_sound command bytes (command_of x p)
    (of_parts bytes x.params (record { header = x.header; handles = x.handles; auths = x.auths }) p h.cut.0
    (read_spells buffer buffer_sound (parameters x.header.code) x.params p h.are.read))

-- what the command is, by its parts
record IsOf (x : Cut) (body : CommandBody) : Type 0 where
  code_is : code_for body ≡ x.header.code
  handles_are : handles_of body ≡ x.handles
  params_are : command_params body ≡ x.params

is_of : (bytes : List ℕ) (x : Cut) (p : Params) → HasParams bytes x p → IsOf x (body_from x.handles p)
is_of bytes x p h =
    let are = h.are in
    let same_code : code_for (body_from x.handles p) ≡ x.header.code = ap params_code (params_again p x.handles) ∙ are.code_is in
    record {
      code_is = same_code;
      handles_are = handles_again p x.handles (subst (λ (k : CommandCode). AreAdmitted (handle_kinds k) x.handles) (sym are.code_is) h.spelled.admitted);
      params_are =
          ap (λ (k : CommandCode). spelling (parameters k) (params_of (body_from x.handles p))) same_code
          ∙ ap (spelling (parameters x.header.code)) (params_again p x.handles)
          ∙ sym are.spelled;
    }

-- the handles lie behind the header
pub record HandlesLie (bytes : List ℕ) (x : Cut) (n : ℕ) : Type 0 where
  pub within : 10 + 4 * n ≤ length bytes
  pub are : take (4 * n) (drop 10 bytes) ≡ spelling (handles x.header.code) x.handles

spelled_long : (i : ℕ) (ks : List HandleKind) (hs : List ℕ) → AreAdmitted ks hs → length (spelling (handles_from i ks) hs) ≡ 4 * length ks
spelled_long i [] hs is = refl
spelled_long i (k ∷ ks) [] none = absurd none
spelled_long i (k ∷ ks) (h ∷ hs) is =
    omega (arith, spelled_long (i + 1) ks hs is.1, ap length (append-nil (spelling (handles_from (i + 1) ks) hs)))

lie : (bytes head hs rest : List ℕ) (k : ℕ) → bytes ≡ head ++ (hs ++ rest) → length head ≡ 10 → length hs ≡ k
    → (10 + k ≤ length bytes) × (take k (drop 10 bytes) ≡ hs)
lie bytes head hs rest k is ten long = (
  omega (arith, ten, long, ap length is, length-append head (hs ++ rest), length-append hs rest),
  ap (take k) (ap (drop 10) is ∙ drop_at head (hs ++ rest) 10 ten) ∙ take_at hs rest k long,
)

pub handles_lie : (bytes : List ℕ) (x : Cut) (n : ℕ) → n ≡ length (handle_kinds x.header.code) → IsSpelledBy bytes x → HandlesLie bytes x n
handles_lie bytes x n counted spelled =
    let hs = spelling (handles x.header.code) x.handles in
    let long : length hs ≡ 4 * n = spelled_long 1 (handle_kinds x.header.code) x.handles spelled.admitted ∙ ap (λ (k : ℕ). 4 * k) (sym counted) in
    let l = lie bytes (spelling header x.header) hs (spelling (authorization x.header.tag) x.auths ++ x.params) (4 * n)
    spelled.text (header_long x.header) long in
    record { within = l.0; are = l.1 }

abbrev with_parts : CommandCode → List ℕ → List ℕ → Option PlainParts
with_parts code handles params = Some (record { code = code; handles = handles; params = params })

-- what is read of a command: its code, its handles and its parameters, where it needs authorization
pub read_as : (bytes : List ℕ) (x : Cut) (p : Params) (code : CommandCode) (handles_there params : List ℕ) (n : ℕ) → HasParams bytes x p
    → needs_authorization code ≡ true → code ≡ x.header.code → n ≡ length (handle_kinds code)
    → handles_there ≡ take (4 * n) (drop 10 bytes) → params ≡ x.params
    → with_parts code handles_there params ≡ parts_read (read_all command bytes)
read_as bytes x p code handles_there params n h needs same_code counted there same_params =
    let body = body_from x.handles p in
    let o = is_of bytes x p h in
    let its_code : code ≡ code_for body = same_code ∙ sym o.code_is in
    let its_handles : handles_there ≡ handle_bytes body =
    there
    ∙ (handles_lie bytes x n (counted ∙ ap (λ (k : CommandCode). length (handle_kinds k)) same_code) h.spelled).are
    ∙ ap (spelling (handles x.header.code)) (sym o.handles_are)
    ∙ ap (λ (k : CommandCode). spelling (handles k) (handles_of body)) (sym o.code_is) in
    let needed : needs_authorization (code_for body) ≡ true = ap needs_authorization (sym its_code) ∙ needs in
    let told : parts_read (read_all command bytes) ≡ with_parts (code_for body) (handle_bytes body) (command_params body) =
    ap parts_read (is_command bytes x p h) ∙ rw needed refl in
    ap (λ (k : CommandCode). with_parts k handles_there params) its_code
    ∙ ap (λ (l : List ℕ). with_parts (code_for body) l params) its_handles
    ∙ ap (with_parts (code_for body) (handle_bytes body)) (same_params ∙ sym o.params_are)
    ∙ sym told

-- The first handle of the command needs no authorization.
pub not_needed : (bytes : List ℕ) (x : Cut) (p : Params) (code : CommandCode) → HasParams bytes x p → code ≡ x.header.code
    → needs_authorization code ≡ false → None ≡ parts_read (read_all command bytes)
not_needed bytes x p code h same_code not =
    let o = is_of bytes x p h in
    let free : needs_authorization (code_for (body_from x.handles p)) ≡ false = ap needs_authorization (o.code_is ∙ sym same_code) ∙ not in
    sym (ap parts_read (is_command bytes x p h) ∙ rw free refl)

-- ---- its parts have spellings

kind_small : (n k : ℕ) → (n / 0x1000000 == k) ≡ true → k < 4 → n < 256 ^ 4
kind_small n k is few = let at : n / 0x1000000 ≡ k = eqb-true (n / 0x1000000) k is in omega (arith, at, few)

number_small : (n k : ℕ) → (n == k) ≡ true → k < 256 ^ 4 → n < 256 ^ 4
number_small n k is few = let at : n ≡ k = eqb-true n k is in omega (arith, at, few)

-- A number that a handle of the kind may have has four bytes.
admitted_small : (kind : HandleKind) (n : ℕ) → admits kind n ≡ true → n < 256 ^ 4
admitted_small kind n is = search rules

admitted_fits : (i : ℕ) (ks : List HandleKind) (hs : List ℕ) → AreAdmitted ks hs → (left : ℕ) → Fits left (handles_from i ks) hs
admitted_fits i [] hs is left = is
admitted_fits i (k ∷ ks) [] none left = absurd none
admitted_fits i (k ∷ ks) (h ∷ hs) is left = (
  (admitted_small k h is.0, rw is.0 refl),
  (admitted_fits (i + 1) ks hs is.1 _, refl),
)

the_body : (needs : Bool) (one other : CommandBody) → (if needs then Some one else None) ≡ Some other → one ≡ other
the_body true one other is = cc
the_body false one other is = absurd (let z : ⊥ = cc in z)

-- Those of a command that is read have spellings, and make it again.
pub parts_fit : (bytes : List ℕ) (x : Cut) (p : Params) → HasParams bytes x p → (body : CommandBody)
    → body_in (read_all command bytes) ≡ Some body → PartsFit body
parts_fit bytes x p h body is =
    let made = body_from x.handles p in
    let o = is_of bytes x p h in
    let same : made ≡ body = the_body (needs_authorization (code_for made)) made body (ap body_in (sym (is_command bytes x p h)) ∙ is) in
    let params : params_of made ≡ p = params_again p x.handles in
    subst PartsFit same (record {
      handles = λ left.
          rw (o.code_is, o.handles_are) (admitted_fits 1 (handle_kinds x.header.code) x.handles h.spelled.admitted left);
      params = λ left. rw (o.code_is, params) (h.are.fits left);
      whole = rw (o.handles_are, params) refl;
    })
