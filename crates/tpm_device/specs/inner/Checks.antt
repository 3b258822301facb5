-- What the checks of a command find, before its parameters.
use Rattle.std.specs.Prelude.{◌≡◌, ℕ, Bool, true, false, List, [], ◌∷◌, Option, None, Result, Ok, Err}
use Rattle.tpm_wire.specs.Reading.{◌>>=◌}
use Rattle.tpm_types.specs.Handles.{is_owner}
use Rattle.tpm_types.specs.declared.command_code.CommandCode.{CommandCode}
use Rattle.tpm_commands.specs.Handles.{first, needs_authorization}
use Rattle.tpm_types.specs.declared.command_code.CommandCode.TheVariants as codes
use Rattle.tpm_buffer.specs.CommandAreas.{Cut}
use Rattle.tpm_model.specs.Present.{Present}
use Rattle.tpm_model.specs.Entities.{entity_of, names_of}
use Rattle.tpm_model.specs.Sessions.{Session}
use Rattle.tpm_model.specs.Authorization.{Evidence}
use Rattle.tpm_model.specs.Answers.{Presented, evidence_in}
use Rattle.tpm_session.specs.Entities.{Claim, authorized}

-- three slots, none with a session
abbrev pub none_loaded : List (Option Session)
none_loaded = None ∷ None ∷ None ∷ []

-- what was read before the parameters, and how the command is authorized
abbrev pub presented_with : Present → Cut → Evidence → Presented
presented_with p x evidence = record {
  code = x.header.code;
  handles = x.handles;
  auths = x.auths;
  params = x.params;
  entity = entity_of p (first x.handles);
  evidence = evidence;
}

-- the evidence of a command that was read
abbrev pub evidence_for : Present → Cut → Result Evidence ℕ
evidence_for p x = evidence_in p x.header.code x.handles x.params x.auths

-- The checks of its sessions that come before the last are met.
abbrev pub HasEvidence : Present → Cut → Type 0
HasEvidence p x = (evidence : Evidence) × (evidence_for p x ≡ Ok evidence)

-- the commands on NV memory that the owner authorizes
abbrev pub owner_authorizes : CommandCode → Bool
owner_authorizes codes.NvDefineSpace = true
owner_authorizes codes.NvUndefineSpace = true
owner_authorizes _ = false

-- What a command that was read is beside how it is authorized: its handles are of their kinds, and it has sessions
-- only where one authorizes it.
pub record IsAdmitted (x : Cut) : Type 0 where
  pub owner : owner_authorizes x.header.code ≡ true → is_owner (first x.handles) ≡ true
  pub sessions : needs_authorization x.header.code ≡ false → x.auths ≡ []

-- Of the checks before the last, those of the sessions are left, or one before them fails.
abbrev pub IsRead : Present → Result Presented ℕ → Result Cut ℕ → Type 0
IsRead p r (Ok x) = r ≡ (evidence_for p x >>= λ evidence. Ok (presented_with p x evidence))
IsRead p r (Err code) = r ≡ Err code

-- by what the authorization of a command that was read is judged
abbrev pub claim_of : Present → Cut → Claim
claim_of p x = record {
  entity = entity_of p (first x.handles);
  command = x.header.code;
  names = names_of p x.handles;
  params = x.params;
  update_counter = p.registers.update_counter;
}

-- all checks of its sessions
abbrev pub sessions_checked : Present → Cut → Result (Unit {0}) ℕ
sessions_checked p x = authorized p.sessions (claim_of p x) x.auths

-- A command has evidence, with which all checks before the parameters are met.
pub record IsPermittedBy (p : Present) (r : Result Presented ℕ) (x : Cut) : Type 0 where
  pub evidence : Evidence
  pub gives : evidence_for p x ≡ Ok evidence
  pub is : r ≡ Ok (presented_with p x evidence)
