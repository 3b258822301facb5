-- What a command leaves of what authorized it.
use Rattle.std.proofs.Common.{◌≡◌, ℕ, Bool, true, false, List, [], ◌∷◌, Option, Some, None, refl, sym, ap, ◌∙◌}
use Rattle.std.specs.Prelude.{if◌then◌else◌}
use Rattle.tpm_types.specs.Handles.{is_owner, is_pcr, is_nv_index}
use Rattle.tpm_commands.specs.declared.command.CommandBody.{CommandBody}
use Rattle.tpm_commands.specs.declared.command.ReplyBody.{ReplyBody}
use Rattle.tpm_commands.specs.Handles.{needs_authorization}
use Rattle.tpm_commands.specs.declared.command.CommandBody.TheVariants as bodies
use Rattle.tpm_buffer.specs.Commands.{code_for}
use Rattle.tpm_model.specs.Steps.{History, Origin}
use Rattle.tpm_model.specs.Counters.{Counter, has_index, counter_in, incremented, with_increment, nv_memory}
use Rattle.tpm_model.specs.Present.{Present, present}
use Rattle.tpm_model.specs.Entities.{Entity, Register, Null, Owner, entity_of, index_entity, auth_value}
use Rattle.tpm_model.specs.Entities.{is_owner_entity}
use Rattle.tpm_device.specs.declared.device.Device.{Device}
use Rattle.tpm_device.specs.Stands.{holds, Stands}
use Rattle.tpm_device.specs.inner.Actions.{step_of, IsAlike}
use Rattle.tpm_device.specs.inner.Checks.{owner_authorizes}
use Rattle.tpm_device.proofs.Further.{its_sessions, sessions_stay}

-- the entity of a handle, by what it is tested for
abbrev named : (pcr owner index : Bool) → List ℕ → Option Counter → Entity
named pcr owner index auth c = if pcr then Register else if owner then Owner auth else if index then index_entity c else Null

same_value : (pcr owner index : Bool) (auth : List ℕ) (c d : Option Counter) → auth_value (index_entity c) ≡ auth_value (index_entity d)
    → auth_value (named pcr owner index auth c) ≡ auth_value (named pcr owner index auth d)
same_value true owner index auth c d e = refl
same_value false true index auth c d e = refl
same_value false false true auth c d e = e
same_value false false false auth c d e = refl

owners_value : (pcr owner index : Bool) (auth : List ℕ) (c d : Option Counter) → owner ≡ true →
    auth_value (named pcr owner index auth c) ≡ auth_value (named pcr owner index auth d)
owners_value true owner index auth c d e = refl
owners_value false true index auth c d e = refl
owners_value false false index auth c d e = absurd (cc)

not_owner : (c : Option Counter) → is_owner_entity (index_entity c) ≡ false
not_owner None = refl
not_owner (Some c) = refl

same_owner : (pcr owner index : Bool) (auth : List ℕ) (c d : Option Counter) →
    is_owner_entity (named pcr owner index auth c) ≡ is_owner_entity (named pcr owner index auth d)
same_owner true owner index auth c d = refl
same_owner false true index auth c d = refl
same_owner false false true auth c d = not_owner c ∙ sym (not_owner d)
same_owner false false false auth c d = refl

-- ---- an increment leaves the authorization values

abbrev value_in : Option Counter → List ℕ
value_in c = auth_value (index_entity c)

here : (is : Bool) (g : ℕ) (c : Counter) (r : Option Counter) → value_in (if is then Some c else r) ≡ value_in (if is then Some (incremented g c) else r)
here true g c r = refl
here false g c r = refl

there : (is : Bool) (c : Counter) (r s : Option Counter) → value_in r ≡ value_in s → value_in (if is then Some c else r) ≡ value_in (if is then Some c else s)
there true c r s e = refl
there false c r s e = e

one_of : (is : Bool) (i g handle : ℕ) (c : Counter) (cs : List Counter) → value_in (counter_in cs handle) ≡ value_in (counter_in (with_increment i g cs) handle)
    → value_in (counter_in (c ∷ cs) handle) ≡ value_in (counter_in (if is then incremented g c ∷ cs else c ∷ with_increment i g cs) handle)
one_of true i g handle c cs e = here (has_index handle c) g c (counter_in cs handle)
one_of false i g handle c cs e = there (has_index handle c) c (counter_in cs handle) (counter_in (with_increment i g cs) handle) e

value_stays : (i g handle : ℕ) (cs : List Counter) → value_in (counter_in cs handle) ≡ value_in (counter_in (with_increment i g cs) handle)
value_stays i g handle [] = refl
value_stays i g handle (c ∷ cs) = one_of (has_index i c) i g handle c cs (value_stays i g handle cs)

-- ---- what authorized a command

value_after : (o : Origin) (h : History) (body : CommandBody) (reply : ReplyBody) (n : List ℕ) (handle : ℕ) → needs_authorization (code_for body) ≡ true
    → (owner_authorizes (code_for body) ≡ true → is_owner handle ≡ true)
    → auth_value (entity_of (present o h) handle) ≡ auth_value (entity_of (present o (step_of body reply n ∷ h)) handle)
value_after o h (bodies.NvDefineSpace asked) reply n handle needs owner =
    owners_value (is_pcr handle) (is_owner handle) (is_nv_index handle) o.owner _ _ (owner refl)
value_after o h (bodies.NvUndefineSpace index) reply n handle needs owner =
    owners_value (is_pcr handle) (is_owner handle) (is_nv_index handle) o.owner _ _ (owner refl)
value_after o h (bodies.NvIncrement by index) reply n handle needs owner =
    same_value (is_pcr handle) (is_owner handle) (is_nv_index handle) o.owner _ _ (value_stays index (nv_memory o h).greatest handle (nv_memory o h).counters)
value_after o h _ reply n handle needs owner = refl

-- A device that has acted authorizes as before.
pub alike : (o : Origin) (h : History) (old new : Device) (body : CommandBody) (reply : ReplyBody) (n : List ℕ) (handle : ℕ) → Stands o h old →
    Stands o (step_of body reply n ∷ h) new
    → needs_authorization (code_for body) ≡ true → (owner_authorizes (code_for body) ≡ true → is_owner handle ≡ true) → IsAlike (holds old) new handle
alike o h old new body reply n handle st further needs owner = record {
  sessions = its_sessions o h old st ∙ sym (sessions_stay o h body reply n needs) ∙ sym (its_sessions o (step_of body reply n ∷ h) new further);
  value = ap (λ (p : Present). auth_value (entity_of p handle)) st ∙ value_after o h body reply n handle needs owner
      ∙ sym (ap (λ (p : Present). auth_value (entity_of p handle)) further);
  owner = ap (λ (p : Present). is_owner_entity (entity_of p handle)) st
      ∙ same_owner (is_pcr handle) (is_owner handle) (is_nv_index handle) o.owner (counter_in (nv_memory o h).counters handle)
      (counter_in (nv_memory o (step_of body reply n ∷ h)).counters handle)
      ∙ sym (ap (λ (p : Present). is_owner_entity (entity_of p handle)) further);
}
