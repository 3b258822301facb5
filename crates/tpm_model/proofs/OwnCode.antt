-- A command that was done is one of the code that was read, and one with a session is one that needs authorization.
use Rattle.std.proofs.Common.{◌≡◌, ℕ, List, [], ◌∷◌, length, Ok, Bool, true, false, refl, sym, ap, ◌∙◌, subst}
use Rattle.std.specs.Prelude.{◌==◌, if◌then◌else◌}
use Rattle.tpm_wire.specs.declared.refusal.Refusal.{Refusal}
use Rattle.tpm_wire.specs.Buffers.{Layout}
use Rattle.tpm_wire.specs.Layout.Form.{done, field, area}
use Rattle.tpm_wire.specs.Layout.{either}
use Rattle.tpm_wire.specs.Token.{Here, at_start}
use Rattle.tpm_wire.specs.Reading.{read, read_all}
use Rattle.tpm_wire.specs.Spelling.{spelling}
use Rattle.tpm_wire.specs.ResponseCodes.{rc_auth_context, rc_auth_missing}
use Rattle.tpm_wire.proofs.Agreement.{bind_ok}
use Rattle.tpm_types.specs.declared.tpms.Auth.{Auth}
use Rattle.tpm_types.specs.declared.command_code.CommandCode.{CommandCode}
use Rattle.tpm_commands.specs.declared.command.Params.{Params}
use Rattle.tpm_commands.specs.Handles.{needs_authorization}
use Rattle.tpm_commands.specs.Parameters.{parameters, params_code}
use Rattle.tpm_commands.specs.declared.command.Params.TheVariants as params
use Rattle.tpm_buffer.specs.Commands.{sessions, authorization_size, authorization, body_from, code_for}
use Rattle.tpm_model.specs.Present.{Present}
use Rattle.tpm_model.specs.Authorization.{refuse as test}
use Rattle.tpm_model.specs.Answers.{check_tag, Done}
use Rattle.tpm_model.proofs.Accepted.{Passed}
use Rattle.tpm_model.proofs.Spelled.{was_read, code_ok}
use Rattle.tpm_model.proofs.Sealing.{okay_is}
use Rattle.tpm_model.proofs.ReplySessions.{from_start}
use Rattle.tpm_model.proofs.EachCommand.{Ends, own_params}

-- ---- what a layout ends with

ends : {A : Type 0} (P : A → Type 0) (mark : ℕ) (l : Layout A) (h : Here) (x : A × Here) → Ends P l → read mark l h ≡ Ok x → P x.0
unfolding Ends
ends P mark (done y) h x p e = subst P (ap (λ (z : _ × Here). z.0) (okay_is {E = Refusal} (y, h) x e)) p
ends P mark (field get l f) h x p e =
    let a = bind_ok (read mark l h) _ x e in
    ends P mark (f a.0.0) a.0.1 x (p a.0.0) a.2
ends P mark _ h x p e = absurd p

pub params_are : (code : CommandCode) (bytes : List ℕ) (p : Params) → read_all (parameters code) bytes ≡ Ok p → params_code p ≡ code
params_are code bytes p e =
    let whole = from_start (read 0 (parameters code) (at_start bytes)) p e in
    ends (λ q. params_code q ≡ code) 0 (parameters code) (at_start bytes) (p, whole.0) (own_params code) whole.1

pub code_again : (p : Params) (hs : List ℕ) → code_for (body_from hs p) ≡ params_code p
code_again params.PolicyGetDigest hs = refl
code_again _ hs = refl

-- What was done is a command of the code that was read.
pub own_code : (p : Present) (bytes n : List ℕ) (d : Done) (s : Passed p bytes n d) → code_for d.command.body ≡ s.x.code
own_code p bytes n d s = ap code_for s.body ∙ code_again s.params s.x.handles ∙ params_are s.x.code s.x.params s.params (code_ok _ s.params s.read)

-- ---- a session is there

without : (two : Bool) (l : Layout (List Auth)) (h : Here) (x : List Auth × Here) → two ≡ false → read 0 (either two l (done [])) h ≡ Ok x → x.0 ≡ []
without true l h x e r = absurd (let z : ⊥ = cc in z)
without false l h x e r = sym (ap (λ (z : List Auth × Here). z.0) (okay_is {E = Refusal} ([], h) x r))

no_area : (t : ℕ) (h : Here) (x : List Auth × Here) → (t == 0x8002) ≡ false → read 0 (authorization t) h ≡ Ok x → x.0 ≡ []
unfolding authorization
no_area t h x e r = without (t == 0x8002) (field (λ auths. length (spelling sessions auths)) authorization_size (λ n. area n 0x144 sessions)) h x e r

passed_not : (b : Bool) (code : ℕ) → test b code ≡ Ok tt → b ≡ false
passed_not true code e = absurd (let z : ⊥ = cc in z)
passed_not false code e = refl

none_needed : (needs : Bool) (t : ℕ) → (if needs then test (t == 0x8001) rc_auth_missing else test (t == 0x8002) rc_auth_context) ≡ Ok tt → needs ≡ false
    → (t == 0x8002) ≡ false
none_needed true t c not = absurd (let z : ⊥ = cc in z)
none_needed false t c not = passed_not (t == 0x8002) rc_auth_context c

-- A command that needs no authorization has no session.
pub no_session_read : (code : CommandCode) (t : ℕ) (h : Here) (auths : List Auth) (g : Here) → check_tag code t ≡ Ok tt
    → read 0 (authorization t) h ≡ Ok (auths, g)
    → needs_authorization code ≡ false → auths ≡ []
no_session_read code t h auths g tag reads not = no_area t h (auths, g) (none_needed (needs_authorization code) t tag not) reads

pub needs_it : (needs : Bool) (auths : List Auth) (a : Auth) (others : List Auth) → (needs ≡ false → auths ≡ []) → auths ≡ a ∷ others → needs ≡ true
needs_it true auths a others none is = refl
needs_it false auths a others none is = let e : [] ≡ a ∷ others = sym (none refl) ∙ is in absurd (cc)

pub by_session_needs : (p : Present) (bytes n : List ℕ) (d : Done) (s : Passed p bytes n d) (a : Auth) → s.x.auths ≡ a ∷ []
    → needs_authorization (code_for d.command.body) ≡ true
by_session_needs p bytes n d s a one =
    let r = was_read p bytes s.x s.asked in
    ap needs_authorization (own_code p bytes n d s ∙ r.code)
    ∙ needs_it (needs_authorization r.before.header.code) r.before.auths a []
    (no_session_read r.before.header.code r.before.header.tag r.area r.before.auths r.place r.tag r.listed) (sym r.auths ∙ one)
