-- A device that stands one step further.
use Rattle.std.proofs.Common.{◌≡◌, ℕ, Bool, true, false, List, [], ◌∷◌, Option, Result, Ok, Err, refl, sym, ap, ◌∙◌}
use Rattle.std.specs.Prelude.{◌||◌, ◌++◌, OnOk}
use Rattle.tpm_types.specs.declared.tpms.Auth.{Auth}
use Rattle.tpm_types.specs.declared.tpms.AuthReply.{AuthReply}
use Rattle.tpm_commands.specs.declared.command.Command.{Command}
use Rattle.tpm_commands.specs.declared.command.CommandBody.{CommandBody}
use Rattle.tpm_commands.specs.declared.command.ReplyBody.{ReplyBody}
use Rattle.tpm_commands.specs.Handles.{needs_authorization}
use Rattle.tpm_commands.specs.declared.command.CommandBody.TheVariants as bodies
use Rattle.tpm_buffer.specs.Commands.{code_for, with_auths}
use Rattle.tpm_buffer.specs.Responses.{Reply}
use Rattle.tpm_model.specs.Steps.{History, Accepted, Origin, starts, started as started_of}
use Rattle.tpm_pcr.specs.Registers.{Registers, registers_after}
use Rattle.tpm_model.specs.Changes.{changes, changes_by}
use Rattle.tpm_model.specs.Sessions.{Session, sessions_at}
use Rattle.tpm_model.specs.Counters.{NvMemory, nv_by, nv_memory}
use Rattle.tpm_model.specs.Present.{Present}
use Rattle.tpm_device.specs.declared.device.Device.{Device}
use Rattle.tpm_device.specs.Stands.{Stands}
use Rattle.tpm_device.specs.inner.Actions.{Steps, step_of}

abbrev made : Bool → List ℕ → Registers → List (Option Session) → NvMemory → Present
made started owner registers sessions nv = record { started = started; owner = owner; registers = registers; sessions = sessions; nv = nv }

same : (s t : Bool) (w v : List ℕ) (q r : Registers) (a b : List (Option Session)) (m k : NvMemory) → s ≡ t → w ≡ v → q ≡ r → a ≡ b → m ≡ k
    → made s w q a m ≡ made t v r b k
same s t w v q r a b m k is_started is_owner are_registers are_sessions is_nv = cc

-- A device stands one step further where each part of it does.
pub one_more : (o : Origin) (h : History) (old new : Device) (body : CommandBody) (reply : ReplyBody) (n : List ℕ) → Stands o h old
    → new.owner ≡ old.owner → new.started ≡ (starts body || old.started) → new.registers ≡ registers_after (changes_by body ++ changes h)
    → new.sessions ≡ sessions_at o (step_of body reply n ∷ h) → new.counters ≡ nv_by body old.counters
    → Stands o (step_of body reply n ∷ h) new
one_more o h old new body reply n st owner started registers sessions counters =
    same new.started (starts body || started_of h) new.owner o.owner new.registers (registers_after (changes_by body ++ changes h))
    new.sessions (sessions_at o (step_of body reply n ∷ h)) new.counters (nv_by body (nv_memory o h))
    (started ∙ ap (λ (p : Present). starts body || p.started) st)
    (owner ∙ ap (λ (p : Present). p.owner) st)
    registers sessions
    (counters ∙ ap (λ (p : Present). nv_by body p.nv) st)

-- what a device stands with
pub its_owner : (o : Origin) (h : History) (d : Device) → Stands o h d → d.owner ≡ o.owner
its_owner o h d st = ap (λ (p : Present). p.owner) st

pub its_registers : (o : Origin) (h : History) (d : Device) → Stands o h d → d.registers ≡ registers_after (changes h)
its_registers o h d st = ap (λ (p : Present). p.registers) st

pub its_sessions : (o : Origin) (h : History) (d : Device) → Stands o h d → d.sessions ≡ sessions_at o h
its_sessions o h d st = ap (λ (p : Present). p.sessions) st

-- ---- the session of a command

-- A command that is authorized leaves the sessions as they were, but for the one that authorized it.
pub sessions_stay : (o : Origin) (h : History) (body : CommandBody) (reply : ReplyBody) (n : List ℕ) → needs_authorization (code_for body) ≡ true
    → sessions_at o (step_of body reply n ∷ h) ≡ sessions_at o h
sessions_stay o h (bodies.Startup kind) reply n needs = absurd (cc)
sessions_stay o h (bodies.StartAuthSession start) reply n needs = absurd (cc)
sessions_stay o h (bodies.FlushContext handle) reply n needs = absurd (cc)
sessions_stay o h (bodies.PolicyPcr handle asked) reply n needs = absurd (cc)
sessions_stay o h (bodies.PolicyOr handle ds) reply n needs = absurd (cc)
sessions_stay o h (bodies.PolicyCommandCode handle code) reply n needs = absurd (cc)
sessions_stay o h (bodies.PolicyAuthValue handle) reply n needs = absurd (cc)
sessions_stay o h (bodies.PolicyRestart handle) reply n needs = absurd (cc)
sessions_stay o h _ reply n needs = refl

-- A command with these sessions leaves the device where it leaves it without them, if the sessions
-- are those of the history with them.
pub with_sessions : (o : Origin) (h : History) (old new : Device) (body : CommandBody) (reply : ReplyBody) (auths : List Auth)
    (replied : List AuthReply) (n : List ℕ)
    → Stands o (step_of body reply n ∷ h) old → new.started ≡ old.started → new.owner ≡ old.owner → new.registers ≡ old.registers → new.counters ≡ old.counters
    → new.sessions ≡ sessions_at o (Accepted (with_auths body auths) (record { body = reply; auths = replied }) n ∷ h)
    → Stands o (Accepted (with_auths body auths) (record { body = reply; auths = replied }) n ∷ h) new
with_sessions o h old new body reply auths replied n st started owner registers counters sessions =
    same new.started (starts body || started_of h) new.owner o.owner new.registers (registers_after (changes_by body ++ changes h))
    new.sessions (sessions_at o (Accepted (with_auths body auths) (record { body = reply; auths = replied }) n ∷ h)) new.counters (nv_by body (nv_memory o h))
    (started ∙ ap (λ (p : Present). p.started) st)
    (owner ∙ ap (λ (p : Present). p.owner) st)
    (registers ∙ ap (λ (p : Present). p.registers) st)
    sessions
    (counters ∙ ap (λ (p : Present). p.nv) st)

-- ---- words

-- What always holds, holds where a call succeeds.
pub always : {P : Type 0} (r : Result (Unit {0}) ℕ) → P → OnOk r P
always (Ok u) p = p
always (Err code) p = tt

-- A command that changes no more than the sessions takes the device one step further.
pub sessions_change : (o : Origin) (h : History) (d : Device) (body : CommandBody) (reply : ReplyBody) (n : List ℕ)
    (sessions : List (Option Session)) → Stands o h d
    → starts body ≡ false → changes_by body ≡ [] → ((nv : NvMemory) → nv_by body nv ≡ nv)
    → ((c : Command) (r : Reply) (m : List ℕ) → c.body ≡ body → c.auths.items ≡ [] → d.sessions ≡ sessions_at o h →
    sessions ≡ sessions_at o (Accepted c r m ∷ h))
    → Stands o (step_of body reply n ∷ h) (record d { sessions = sessions })
sessions_change o h d body reply n sessions st starts_none changes_none nv after =
    one_more o h d (record d { sessions = sessions }) body reply n st refl (rw starts_none refl) (rw changes_none (its_registers o h d st))
    (after (with_auths body []) (record { body = reply; auths = [] }) n refl refl (its_sessions o h d st)) (sym (nv d.counters))

-- A command that changes nothing takes the device one step further.
pub unchanged : (d : Device) (body : CommandBody) (reply : ReplyBody) (n : List ℕ) → starts body ≡ false → changes_by body ≡ []
    → ((o : Origin) (h : History) → sessions_at o (step_of body reply n ∷ h) ≡ sessions_at o h) →
    ((nv : NvMemory) → nv_by body nv ≡ nv) → Steps d d (step_of body reply n)
unchanged d body reply n starts_none changes_none sessions nv = λ o h st.
    one_more o h d d body reply n st refl (rw starts_none refl) (rw changes_none (its_registers o h d st))
    (its_sessions o h d st ∙ sym (sessions o h)) (sym (nv d.counters))
