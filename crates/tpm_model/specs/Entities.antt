-- What authorizes a command, and the Names of handles (Part 1, "Names" and "Authorizations and Acknowledgments").
use Rattle.std.specs.Prelude.{ℕ, Bool, true, false, List, [], ◌++◌, map, Option, Some, None, if◌then◌else◌}
use Rattle.std.specs.Int.{w16, w32, to_be_bytes}
use Rattle.tpm_wire.specs.Spelling.{spelling}
use Rattle.tpm_types.specs.declared.tpms.NvPublic.{NvPublic}
use Rattle.tpm_types.specs.Alg.{alg_number}
use Rattle.tpm_types.specs.Handles.{is_owner, is_pcr, is_nv_index}
use Rattle.tpm_types.specs.Tpms.{nv_public_area}
use Rattle.tpm_hmac.specs.Hashes.{digest}
use Rattle.tpm_hmac.specs.Sessions.{trim}
use Rattle.tpm_model.specs.Counters.{Counter, counter_in}
use Rattle.tpm_model.specs.Present.{Present}

-- ---- entities

-- what the first handle of a command is
pub data Entity : Type 0 where
  Register : Entity
  Null : Entity
  Owner : (auth : List ℕ) → Entity
  -- an index, with its public area as it is now
  Index : (public : NvPublic) → (auth : List ℕ) → Entity

-- Registers and TPM_RH_NULL have the empty value, and trailing zeros are no part of one (Part 1, "Authorization
-- Values").
abbrev pub auth_value : Entity → List ℕ
auth_value Register = []
auth_value Null = []
auth_value (Owner auth) = trim auth
auth_value (Index public auth) = trim auth

abbrev pub is_owner_entity : Entity → Bool
is_owner_entity (Owner auth) = true
is_owner_entity _ = false

-- an index that is not there is none
abbrev pub index_entity : Option Counter → Entity
index_entity None = Null
index_entity (Some c) = Index c.public c.auth

abbrev pub entity_of : Present → ℕ → Entity
entity_of p handle =
    if is_pcr handle then Register
    else if is_owner handle then Owner p.owner
    else if is_nv_index handle then index_entity (counter_in p.nv.counters handle)
    else Null

-- ---- Names (Part 1, "Names")

-- the Name of an index: nameAlg || H(TPMS_NV_PUBLIC), the public area without its size
abbrev pub nv_name : NvPublic → List ℕ
nv_name public = to_be_bytes w16 (alg_number public.alg) ++ digest public.alg (spelling nv_public_area public)

-- the Name of a register, a session or a permanent handle: its bytes
abbrev pub handle_name : ℕ → List ℕ
handle_name handle = to_be_bytes w32 handle

abbrev pub index_name : Option Counter → ℕ → List ℕ
index_name None handle = handle_name handle
index_name (Some c) handle = nv_name c.public

abbrev pub name_of : Present → ℕ → List ℕ
name_of p handle =
    if is_nv_index handle then index_name (counter_in p.nv.counters handle) handle else handle_name handle

abbrev pub names_of : Present → List ℕ → List (List ℕ)
names_of p handles = map (name_of p) handles
