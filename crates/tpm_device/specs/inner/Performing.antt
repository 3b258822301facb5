-- A command from its parameters to its reply.
use Rattle.std.specs.Prelude.{◌≡◌, ℕ, List, length, Option, Result, Ok, Err, IfErr, OnOk, OnErr}
use Rattle.arrayvec.specs.ArrayVec.{ArrayVec}
use Rattle.tpm_buffer.specs.CommandAreas.{Cut}
use Rattle.tpm_model.specs.Steps.{History, Origin}
use Rattle.tpm_model.specs.Authorization.{Evidence}
use Rattle.tpm_model.specs.Answers.{Presented, Done, with_outcome}
use Rattle.tpm_model.specs.Premises.{code_in}
use Rattle.tpm_session.specs.declared.authorize.Authorization.{Authorization}
use Rattle.tpm_session.specs.Entities.{IsAuthorization}
use Rattle.tpm_device.specs.declared.device.Device.{Device}
use Rattle.tpm_device.specs.Stands.{holds, Stands}
use Rattle.tpm_device.specs.inner.Checks.{presented_with, evidence_for, HasEvidence, IsAdmitted}
use Rattle.tpm_device.specs.inner.Answers.{given, told}

-- What a command that was read has before it is performed: it is authorized so, its sessions give
-- evidence, and the buffer is empty.
pub record MayBePerformed (d : Device) (x : Cut) (by : Option Authorization) (out : ArrayVec ℕ) : Type 0 where
  pub authorized : IsAuthorization d.sessions x.auths by
  pub admitted : IsAdmitted x
  pub evidence : HasEvidence (holds d) x
  pub empty : length out.items ≡ 0

-- where performing begins: the device, the nonce that is handed in, and the buffer for the answer
pub record Begin : Type 0 where
  pub device : Device
  pub nonce : List ℕ
  pub out : ArrayVec ℕ

-- and where it ends: what is returned, the device, and the buffer
pub record End : Type 0 where
  pub result : Result (Unit {0}) ℕ
  pub device : Device
  pub out : ArrayVec ℕ

-- From its begin to its end, this is done of a command that was read.
pub record IsPerformed (x : Cut) (does : Presented → Result Done ℕ) (old : Begin) (new : End) : Type 0 where
  pub answer : (e : Evidence) (o : Origin) (h : History) →
      evidence_for (holds old.device) x ≡ Ok e →
      Stands o h old.device →
      given new.out.items new.result ≡ told (does (presented_with (holds old.device) x e))
  pub stands : (e : Evidence) (o : Origin) (h : History) →
      evidence_for (holds old.device) x ≡ Ok e →
      Stands o h old.device →
      Stands o (with_outcome h old.nonce (does (presented_with (holds old.device) x e))) new.device
  pub refuses : IfErr new.result (λ code.
      (y : Presented) → y.code ≡ x.header.code → y.handles ≡ x.handles → y.params ≡ x.params → does y ≡ Err code)
  pub refused : OnErr new.result (new.device ≡ old.device)
  pub done : OnOk new.result (code_in new.out.items ≡ 0)
  pub none : OnErr new.result (new.out ≡ old.out)
