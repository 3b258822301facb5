-- What is known of a command that was read, and of the checks of its sessions.
use Rattle.std.proofs.Common.{◌≡◌, ℕ, Bool, true, false, List, [], ◌∷◌, Option, Ok, refl, sym, ap}
use Rattle.std.proofs.Common.{subst, ◌∙◌}
use Rattle.std.specs.Prelude.{◌==◌, if◌then◌else◌}
use Rattle.tpm_wire.specs.Buffers.{number_in, numbered}
use Rattle.tpm_wire.specs.Token.{Here}
use Rattle.tpm_wire.specs.Reading.{read, ◌>>=◌}
use Rattle.tpm_wire.specs.ResponseCodes.{rc_value, of_handle}
use Rattle.tpm_wire.proofs.Agreement.{bind_ok}
use Rattle.tpm_wire.proofs.Longer.{in_set}
use Rattle.tpm_types.specs.declared.tpms.Auth.{Auth}
use Rattle.tpm_types.specs.Handles.{is_owner, rs_pw}
use Rattle.tpm_types.specs.declared.command_code.CommandCode.{CommandCode}
use Rattle.tpm_commands.specs.declared.command_handles.HandleKind.TheVariants.{Owner, Index}
use Rattle.tpm_commands.specs.declared.command_handles.HandleKind.{HandleKind}
use Rattle.tpm_commands.specs.Handles.{admits, first, handles, handles_from}
use Rattle.tpm_types.specs.declared.command_code.CommandCode.TheVariants as codes
use Rattle.tpm_buffer.specs.CommandAreas.{Cut}
use Rattle.tpm_model.specs.Sessions.{Session, loaded}
use Rattle.tpm_model.specs.Present.{Present}
use Rattle.tpm_model.specs.Entities.{Entity, entity_of, names_of}
use Rattle.tpm_model.specs.Authorization.{Evidence, NotAsked, Password, by_session, check_session}
use Rattle.tpm_model.specs.Authorization.{check_entity, evidence_by, check_evidence, authorize, reply_auths}
use Rattle.tpm_model.specs.Authorization.{password_reply}
use Rattle.tpm_model.specs.Answers.{evidence_in}
use Rattle.tpm_model.proofs.Sealing.{okay_is}
use Rattle.tpm_model.proofs.Refused.{handles_read, same_list}
use Rattle.tpm_session.specs.Entities.{authorized}
use Rattle.tpm_device.specs.inner.Checks.{evidence_for, sessions_checked, claim_of, owner_authorizes}

-- ---- the handles

owner_first : (kinds : List HandleKind) (h : Here) (x : List ℕ × Here) → read 0 (handles_from 1 (Owner ∷ kinds)) h ≡ Ok x → is_owner (first x.0) ≡ true
owner_first kinds h x e =
    let a = bind_ok (read 0 (numbered (of_handle 1) (number_in 4 (admits Owner) rc_value)) h)
    (λ y. read 0 (handles_from 2 kinds) y.1 >>= λ z. handles_read (y.0 ∷ z.0) z.1) x e in
    let b = bind_ok (read 0 (handles_from 2 kinds) a.0.1) (λ z. handles_read (a.0.0 ∷ z.0) z.1) x a.2 in
    let list : a.0.0 ∷ b.0.0 ≡ x.0 = same_list (a.0.0 ∷ b.0.0) x.0 b.0.1 x.1 b.2 in
    ap (λ (ns : List ℕ). is_owner (first ns)) (sym list) ∙ in_set 4 (admits Owner) rc_value (of_handle 1) h a.0 a.1

-- The owner authorizes these commands alone.
pub owner_read : (code : CommandCode) (h : Here) (ns : List ℕ) (g : Here) → read 0 (handles code) h ≡ Ok (ns, g) → owner_authorizes code ≡ true →
    is_owner (first ns) ≡ true
owner_read codes.NvDefineSpace h ns g e is = owner_first [] h (ns, g) e
owner_read codes.NvUndefineSpace h ns g e is = owner_first (Index ∷ []) h (ns, g) e
owner_read _ h ns g e is = absurd (cc)

-- ---- the checks of the sessions

names_by : (is : Bool) (s : Option Session) (e : Entity) (code : CommandCode) (names others : List (List ℕ)) (params : List ℕ) (counter : ℕ) (a : Auth)
    (more : List Auth) → (is ≡ false → names ≡ others)
    → (((if is then Ok Password else by_session s) >>= λ by.
    (check_session by a more >>= λ _. (check_entity by e code counter >>= λ _. Ok (evidence_by by e code names params a)))) >>= check_evidence e)
    ≡ (((if is then Ok Password else by_session s) >>= λ by.
    (check_session by a more >>= λ _. (check_entity by e code counter >>= λ _. Ok (evidence_by by e code others params a)))) >>= check_evidence e)
names_by true s e code names others params counter a more same = refl
names_by false s e code names others params counter a more same = rw (same refl) refl

-- A password covers no Names.
pub names_matter : (s : Option Session) (e : Entity) (code : CommandCode) (names others : List (List ℕ)) (params : List ℕ) (counter : ℕ)
    (a : Auth) (more : List Auth)
    → ((a.session == rs_pw) ≡ false → names ≡ others) → authorize s e code names params counter (a ∷ more) ≡ authorize s e code others params counter (a ∷ more)
names_matter s e code names others params counter a more same = names_by (a.session == rs_pw) s e code names others params counter a more same

-- The checks of what was handed in are those of what is present.
pub checked_by : (p : Present) (x : Cut) (a : Auth) (others : List Auth) (e : Entity) (code : CommandCode) (names : List (List ℕ)) (params : List ℕ)
    (counter : ℕ) → x.auths ≡ a ∷ others
    → e ≡ entity_of p (first x.handles) → code ≡ x.header.code → params ≡ x.params → counter ≡ p.registers.update_counter →
    ((a.session == rs_pw) ≡ false → names ≡ names_of p x.handles)
    → authorize (loaded p.sessions a.session) e code names params counter (a ∷ others) ≡ sessions_checked p x
checked_by p x a others e code names params counter auths entity is_code is_params is_counter are =
    let s = loaded p.sessions a.session in
    ap (λ (f : Entity). authorize s f code names params counter (a ∷ others)) entity
    ∙ ap (λ (k : CommandCode). authorize s (entity_of p (first x.handles)) k names params counter (a ∷ others)) is_code
    ∙ ap (λ (ps : List ℕ). authorize s (entity_of p (first x.handles)) x.header.code names ps counter (a ∷ others)) is_params
    ∙ ap (λ (n : ℕ). authorize s (entity_of p (first x.handles)) x.header.code names x.params n (a ∷ others)) is_counter
    ∙ names_matter s (entity_of p (first x.handles)) x.header.code names (names_of p x.handles) x.params p.registers.update_counter a others are
    ∙ ap (authorized p.sessions (claim_of p x)) (sym auths)

-- ---- the reply to a password

password_gives : (is : Bool) (s : Option Session) (e : Entity) (code : CommandCode) (names : List (List ℕ)) (params : List ℕ) (counter : ℕ) (a : Auth)
    (more : List Auth) (x : Evidence) → is ≡ true
    → ((if is then Ok Password else by_session s) >>= λ by.
    (check_session by a more >>= λ _. (check_entity by e code counter >>= λ _. Ok (evidence_by by e code names params a)))) ≡ Ok x
    → evidence_by Password e code names params a ≡ x
password_gives false s e code names params counter a more x is gives = absurd (let z : ⊥ = cc in z)
password_gives true s e code names params counter a more x is gives =
    let session = bind_ok (check_session Password a more)
    (λ _. (check_entity Password e code counter >>= λ _. Ok (evidence_by Password e code names params a))) x gives in
    let entity = bind_ok (check_entity Password e code counter) (λ _. Ok (evidence_by Password e code names params a)) x session.2 in
    okay_is {E = ℕ} (evidence_by Password e code names params a) x entity.2

-- A password is answered with its own session, whatever the parameters are.
pub password_replies : (p : Present) (x : Cut) (a : Auth) (others : List Auth) (e : Evidence) (code : CommandCode) (params nonce : List ℕ) →
    (a.session == rs_pw) ≡ true → x.auths ≡ a ∷ others → evidence_for p x ≡ Ok e
    → reply_auths e code params nonce ≡ password_reply ∷ []
password_replies p x a others e code params nonce is are gives =
    let by = password_gives (a.session == rs_pw) (loaded p.sessions a.session) (entity_of p (first x.handles)) x.header.code
    (names_of p x.handles) x.params p.registers.update_counter a others e is
    (ap (λ (auths : List Auth). evidence_in p x.header.code x.handles x.params auths) (sym are) ∙ gives) in
    subst (λ (y : Evidence). reply_auths y code params nonce ≡ password_reply ∷ []) by refl

-- No session replies to none.
pub none_replied : (p : Present) (x : Cut) (e : Evidence) (code : CommandCode) (params nonce : List ℕ) → x.auths ≡ [] → evidence_for p x ≡ Ok e →
    reply_auths e code params nonce ≡ []
none_replied p x e code params nonce none gives =
    let is = okay_is {E = ℕ} NotAsked e (ap (λ (auths : List Auth). evidence_in p x.header.code x.handles x.params auths) (sym none) ∙ gives) in
    subst (λ (y : Evidence). reply_auths y code params nonce ≡ []) is refl
