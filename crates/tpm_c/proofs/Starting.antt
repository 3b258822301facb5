-- What a session is started with, by the areas of a command and its parameters.
use Rattle.std.proofs.Common.{◌≡◌, ℕ, ◌-◌, List, length, Option, Some, None, Result, Ok, Err, refl, sym, ap, subst, ◌∙◌}
use Rattle.tpm_wire.specs.declared.refusal.Refusal.{Refusal}
use Rattle.tpm_wire.specs.Buffers.{buffer, later_refusal}
use Rattle.tpm_wire.specs.Layout.{cut}
use Rattle.tpm_wire.specs.Path.{Fault}
use Rattle.tpm_wire.specs.Reading.{read_all}
use Rattle.tpm_wire.proofs.Buffers.{buffer_sound}
use Rattle.tpm_wire.proofs.Whole.{read_spells, read_fault}
use Rattle.tpm_types.specs.declared.handle_sets.BindHandle.{BindHandle}
use Rattle.tpm_types.specs.declared.command_code.CommandCode.{CommandCode}
use Rattle.tpm_commands.specs.declared.command.Command.{Command}
use Rattle.tpm_commands.specs.declared.command.StartAuth.{StartAuth}
use Rattle.tpm_commands.specs.declared.command.Params.{Params}
use Rattle.tpm_types.specs.declared.command_code.CommandCode.TheVariants as codes
use Rattle.tpm_commands.specs.declared.command.Params.TheVariants as params
use Rattle.tpm_commands.specs.Handles.{second}
use Rattle.tpm_commands.specs.Parameters.{parameters}
use Rattle.tpm_buffer.specs.Commands.{before_params, body_from, bind_in, code_for, command, with_auths}
use Rattle.tpm_buffer.specs.CommandAreas.{Cut, HasCut, checked}
use Rattle.tpm_buffer.proofs.Staged.{of_before, of_parts, of_params}
use Rattle.tpm_model.proofs.OwnCode.{code_again, params_are}
use Rattle.tpm_c.specs.Callers.{request_in}
use Rattle.tpm_c.proofs.Decoding.{is_read, is_refused, no_request}

-- ---- bytes that are no command

refused : (bytes : List ℕ) (e : Refusal) → Fault command bytes e → None ≡ request_in (read_all command bytes)
refused bytes e f = sym (ap request_in (is_refused command bytes e f))

pub no_areas : (bytes : List ℕ) (e : Refusal) → Fault (cut before_params) bytes e → None ≡ request_in (read_all command bytes)
no_areas bytes e f = refused bytes e (of_before bytes e f)

faulty : (bytes : List ℕ) (x : Cut) (e : Refusal) → HasCut bytes x → read_all (parameters x.header.code) x.params ≡ Err e
    → None ≡ request_in (read_all command bytes)
faulty bytes x e has bad =
    refused bytes (later_refusal (length bytes - length x.params) e)
    (of_params bytes x.params (checked x) e has.0 (read_fault buffer buffer_sound (parameters x.header.code) x.params e bad))

-- ---- bytes that are one

abbrev command_of : Cut → Params → Command
command_of x p = with_auths (body_from x.handles p) x.auths

is_command : (bytes : List ℕ) (x : Cut) (p : Params) → HasCut bytes x → read_all (parameters x.header.code) x.params ≡ Ok p
    → read_all command bytes ≡ Ok (command_of x p)
is_command bytes x p has good =
    is_read command bytes (command_of x p)
    (of_parts bytes x.params (checked x) p has.0 (read_spells buffer buffer_sound (parameters x.header.code) x.params p good))

-- whose code is another
pub other_command : (bytes : List ℕ) (x : Cut) → HasCut bytes x → (x.header.code ≡ codes.StartAuthSession → ⊥)
    → None ≡ request_in (read_all command bytes)
other_command bytes x has differs = go (read_all (parameters x.header.code) x.params) refl
  where
    go : (r : Result Params Refusal) → read_all (parameters x.header.code) x.params ≡ r → None ≡ request_in (read_all command bytes)
    go (Ok p) good =
        let own : code_for (body_from x.handles p) ≡ x.header.code =
        code_again p x.handles ∙ params_are x.header.code x.params p good in
        no_request (body_from x.handles p) (λ q same. differs (sym own ∙ ap code_for same))
        ∙ sym (ap request_in (is_command bytes x p has good))
    go (Err e) bad = faulty bytes x e has bad

-- ---- parameters alone, of this command

-- what is read of these is read of the cut's
of_cut : (x : Cut) (given : List ℕ) (r : Result Params Refusal) → x.header.code ≡ codes.StartAuthSession → given ≡ x.params
    → read_all (parameters codes.StartAuthSession) given ≡ r → read_all (parameters x.header.code) x.params ≡ r
of_cut x given r same_code same_params is =
    subst (λ (k : CommandCode). read_all (parameters k) x.params ≡ r) (sym same_code)
    (subst (λ (l : List ℕ). read_all (parameters codes.StartAuthSession) l ≡ r) same_params is)

pub no_params : (bytes : List ℕ) (x : Cut) (given : List ℕ) (e : Refusal) → HasCut bytes x → x.header.code ≡ codes.StartAuthSession
    → given ≡ x.params → read_all (parameters codes.StartAuthSession) given ≡ Err e → None ≡ request_in (read_all command bytes)
no_params bytes x given e has same_code same_params bad =
    faulty bytes x e has (of_cut x given (Err e) same_code same_params bad)

pub request_is : (bytes : List ℕ) (x : Cut) (given : List ℕ) (q : StartAuth) → HasCut bytes x → x.header.code ≡ codes.StartAuthSession
    → given ≡ x.params → read_all (parameters codes.StartAuthSession) given ≡ Ok (params.StartAuthSession q.params) → q.bind ≡ bind_in (second x.handles)
    → Some q ≡ request_in (read_all command bytes)
request_is bytes x given q has same_code same_params good bound =
    ap (λ (b : BindHandle). some (record { bind = b; params = q.params })) bound
    ∙ sym (ap request_in (is_command bytes x (params.StartAuthSession q.params) has
    (of_cut x given (Ok (params.StartAuthSession q.params)) same_code same_params good)))
  where
    some : StartAuth → Option StartAuth
    some y = Some y
