-- The commands of non-volatile storage (Part 3, 31).
use Rattle.std.specs.Prelude.{ℕ, List, [], ◌∷◌, true, false, codes}
use Rattle.tpm_wire.specs.Buffers.{Layout, any_number, numbered}
use Rattle.tpm_wire.specs.ResponseCodes.{of_parameter}
use Rattle.tpm_wire.specs.Layout.Form.{done, field}
use Rattle.tpm_wire.specs.Structures.{sized_bytes}
use Rattle.tpm_types.specs.declared.alg.Alg.TheVariants.{Sha256}
use Rattle.tpm_types.specs.declared.tpms.NvPublic.{NvPublic}
use Rattle.tpm_types.specs.Tpm2b.{auth_value, name}
use Rattle.tpm_types.specs.Tpms.{nv_public}
use Rattle.tpm_commands.specs.declared.command_handles.HandleKind.TheVariants.{Owner, Index, OwnerOrIndex}
use Rattle.tpm_commands.specs.declared.command.Params.{Params}
use Rattle.tpm_commands.specs.declared.command.ReplyBody.{ReplyBody}
use Rattle.tpm_commands.specs.Row.{Row, named}
use Rattle.tpm_commands.specs.declared.command.Params.TheVariants as params
use Rattle.tpm_commands.specs.declared.command.ReplyBody.TheVariants as replies

abbrev pub no_public : NvPublic
no_public = record { index = 0x01000000; alg = Sha256; attrs = 0; policy = []; data_size = 0 }

-- ---- TPM2_NV_DefineSpace (31.3)

abbrev pub auth_of : Params → List ℕ
auth_of (params.NvDefineSpace p) = p.auth
auth_of _ = []

abbrev pub public_of : Params → NvPublic
public_of (params.NvDefineSpace p) = p.public
public_of _ = no_public

unfoldable pub nv_define_space : Layout Params
nv_define_space =
    field auth_of (numbered (of_parameter 1) auth_value) (λ auth.
    field public_of (numbered (of_parameter 2) nv_public) (λ public.
    done (params.NvDefineSpace (record { auth = auth; public = public }))))

abbrev pub nv_define_space_row : Row
nv_define_space_row = record {
  handles = Owner ∷ [];
  authorized = true;
  parameters = nv_define_space;
  reply = λ hs. done replies.NvDefineSpace;
  parameter_names =
      named (codes "auth") (codes "TPM2B_AUTH")
      ∷ named (codes "publicInfo") (codes "TPM2B_NV_PUBLIC")
      ∷ [];
  reply_names = [];
}

-- ---- TPM2_NV_UndefineSpace (31.4)

abbrev pub nv_undefine_space_row : Row
nv_undefine_space_row = record {
  handles = Owner ∷ Index ∷ [];
  authorized = true;
  parameters = done params.NvUndefineSpace;
  reply = λ hs. done replies.NvUndefineSpace;
  parameter_names = [];
  reply_names = [];
}

-- ---- TPM2_NV_ReadPublic (31.6)

abbrev pub reply_public_of : ReplyBody → NvPublic
reply_public_of (replies.NvReadPublic public its_name) = public
reply_public_of _ = no_public

abbrev pub name_of : ReplyBody → List ℕ
name_of (replies.NvReadPublic public its_name) = its_name
name_of _ = []

unfoldable pub nv_read_public_reply : Layout ReplyBody
nv_read_public_reply =
    field reply_public_of (numbered (of_parameter 1) nv_public) (λ public.
    field name_of (numbered (of_parameter 2) name) (λ its_name.
    done (replies.NvReadPublic public its_name)))

abbrev pub nv_read_public_row : Row
nv_read_public_row = record {
  handles = Index ∷ [];
  authorized = false;
  parameters = done params.NvReadPublic;
  reply = λ hs. nv_read_public_reply;
  parameter_names = [];
  reply_names =
      named (codes "nvPublic") (codes "TPM2B_NV_PUBLIC")
      ∷ named (codes "nvName") (codes "TPM2B_NAME")
      ∷ [];
}

-- ---- TPM2_NV_Increment (31.8)

abbrev pub nv_increment_row : Row
nv_increment_row = record {
  handles = OwnerOrIndex ∷ Index ∷ [];
  authorized = true;
  parameters = done params.NvIncrement;
  reply = λ hs. done replies.NvIncrement;
  parameter_names = [];
  reply_names = [];
}

-- ---- TPM2_NV_Read (31.13)

abbrev pub size_of : Params → ℕ
size_of (params.NvRead p) = p.size
size_of _ = 0

abbrev pub offset_of : Params → ℕ
offset_of (params.NvRead p) = p.offset
offset_of _ = 0

unfoldable pub nv_read : Layout Params
nv_read =
    field size_of (numbered (of_parameter 1) (any_number 2)) (λ size.
    field offset_of (numbered (of_parameter 2) (any_number 2)) (λ offset.
    done (params.NvRead (record { size = size; offset = offset }))))

abbrev pub data_of : ReplyBody → List ℕ
data_of (replies.NvRead bytes) = bytes
data_of _ = []

unfoldable pub nv_read_reply : Layout ReplyBody
nv_read_reply =
    field data_of (numbered (of_parameter 1) (sized_bytes 8)) (λ bytes.
    done (replies.NvRead bytes))

abbrev pub nv_read_row : Row
nv_read_row = record {
  handles = OwnerOrIndex ∷ Index ∷ [];
  authorized = true;
  parameters = nv_read;
  reply = λ hs. nv_read_reply;
  parameter_names = named (codes "size") (codes "UINT16") ∷ named (codes "offset") (codes "UINT16") ∷ [];
  reply_names = named (codes "data") (codes "TPM2B_MAX_NV_BUFFER") ∷ [];
}
