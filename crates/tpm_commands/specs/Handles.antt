-- The handles of the commands (Part 3, the command table of each).
use Rattle.std.specs.Prelude.{◌≡◌, ℕ, ◌+◌, Bool, true, is_some, List, [], ◌∷◌}
use Rattle.tpm_wire.specs.Buffers.{Layout, number_in, numbered}
use Rattle.tpm_wire.specs.Layout.Form.{done, field}
use Rattle.tpm_wire.specs.ResponseCodes.{rc_value, of_handle}
use Rattle.tpm_types.specs.Handles.{is_pcr, is_owner, is_null, is_nv_index, is_policy}
use Rattle.tpm_types.specs.HandleSets.{pcr_or_null_of, nv_auth_of, bind_of}
use Rattle.tpm_commands.specs.declared.command_handles.HandleKind.TheVariants.{Pcr, PcrOrNull, Owner, Null, OwnerOrNull}
use Rattle.tpm_commands.specs.declared.command_handles.HandleKind.TheVariants.{Index, OwnerOrIndex, Policy}
use Rattle.tpm_commands.specs.declared.command_handles.HandleKind.{HandleKind}
use Rattle.tpm_types.specs.declared.command_code.CommandCode.{CommandCode}
use Rattle.tpm_commands.specs.Table.{row}
pub use Rattle.tpm_commands.specs.Row.{first, others, second}

abbrev pub admits : HandleKind → ℕ → Bool
admits Pcr n = is_pcr n
admits PcrOrNull n = is_some (pcr_or_null_of n)
admits Owner n = is_owner n
admits Null n = is_null n
admits OwnerOrNull n = is_some (bind_of n)
admits Index n = is_nv_index n
admits OwnerOrIndex n = is_some (nv_auth_of n)
admits Policy n = is_policy n

-- what the handles of each command may be
abbrev pub handle_kinds : CommandCode → List HandleKind
handle_kinds code = (row code).handles

-- The first handle needs authorization.
abbrev pub needs_authorization : CommandCode → Bool
needs_authorization code = (row code).authorized

-- handles of these kinds, the first of which has this number
abbrev pub handles_from : ℕ → List HandleKind → Layout (List ℕ)
handles_from i [] = done []
handles_from i (kind ∷ kinds) =
    field first (numbered (of_handle i) (number_in 4 (admits kind) rc_value)) (λ n.
    field others (handles_from (i + 1) kinds) (λ ns.
    done (n ∷ ns)))

abbrev pub handles : CommandCode → Layout (List ℕ)
handles code = handles_from 1 (handle_kinds code)

-- handles of these kinds
abbrev pub AreAdmitted : List HandleKind → List ℕ → Type 0
AreAdmitted [] ns = ns ≡ []
AreAdmitted (kind ∷ kinds) [] = ⊥
AreAdmitted (kind ∷ kinds) (n ∷ ns) = (admits kind n ≡ true) × AreAdmitted kinds ns
