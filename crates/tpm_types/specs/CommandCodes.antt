-- The commands' numbers and names (Part 2, 6.5.2, TPM_CC).
use Rattle.std.specs.Prelude.{ℕ, List, [], ◌∷◌, Option, Some, None, ◌==◌, if◌then◌else◌, codes as text}
use Rattle.tpm_wire.specs.Buffers.{Layout}
use Rattle.tpm_wire.specs.Layout.Form.{number}
use Rattle.tpm_wire.specs.ResponseCodes.{rc_command_code}
use Rattle.tpm_types.specs.declared.command_code.CommandCode.{CommandCode}
use Rattle.tpm_types.specs.declared.command_code.CommandCode.TheVariants as codes

-- in the order of their numbers
abbrev pub all_commands : List CommandCode
all_commands =
    codes.NvUndefineSpace ∷ codes.NvDefineSpace ∷ codes.NvIncrement ∷ codes.PcrEvent ∷ codes.PcrReset
    ∷ codes.Startup ∷ codes.NvRead ∷ codes.FlushContext ∷ codes.NvReadPublic ∷ codes.PolicyAuthValue
    ∷ codes.PolicyCommandCode ∷ codes.PolicyOr ∷ codes.StartAuthSession ∷ codes.PcrRead ∷ codes.PolicyPcr
    ∷ codes.PolicyRestart ∷ codes.PcrExtend ∷ codes.PolicyGetDigest ∷ []

abbrev pub code_number : CommandCode → ℕ
code_number codes.NvUndefineSpace = 0x122
code_number codes.NvDefineSpace = 0x12A
code_number codes.NvIncrement = 0x134
code_number codes.PcrEvent = 0x13C
code_number codes.PcrReset = 0x13D
code_number codes.Startup = 0x144
code_number codes.NvRead = 0x14E
code_number codes.FlushContext = 0x165
code_number codes.NvReadPublic = 0x169
code_number codes.PolicyAuthValue = 0x16B
code_number codes.PolicyCommandCode = 0x16C
code_number codes.PolicyOr = 0x171
code_number codes.StartAuthSession = 0x176
code_number codes.PcrRead = 0x17E
code_number codes.PolicyPcr = 0x17F
code_number codes.PolicyRestart = 0x180
code_number codes.PcrExtend = 0x182
code_number codes.PolicyGetDigest = 0x189

-- the command's name in Part 3, without its TPM2_
abbrev pub code_name : CommandCode → List ℕ
code_name codes.NvUndefineSpace = text "NV_UndefineSpace"
code_name codes.NvDefineSpace = text "NV_DefineSpace"
code_name codes.NvIncrement = text "NV_Increment"
code_name codes.PcrEvent = text "PCR_Event"
code_name codes.PcrReset = text "PCR_Reset"
code_name codes.Startup = text "Startup"
code_name codes.NvRead = text "NV_Read"
code_name codes.FlushContext = text "FlushContext"
code_name codes.NvReadPublic = text "NV_ReadPublic"
code_name codes.PolicyAuthValue = text "PolicyAuthValue"
code_name codes.PolicyCommandCode = text "PolicyCommandCode"
code_name codes.PolicyOr = text "PolicyOR"
code_name codes.StartAuthSession = text "StartAuthSession"
code_name codes.PcrRead = text "PCR_Read"
code_name codes.PolicyPcr = text "PolicyPCR"
code_name codes.PolicyRestart = text "PolicyRestart"
code_name codes.PcrExtend = text "PCR_Extend"
code_name codes.PolicyGetDigest = text "PolicyGetDigest"

-- the one of these that has the number
abbrev pub code_among : List CommandCode → ℕ → Option CommandCode
code_among [] n = None
code_among (c ∷ cs) n = if n == code_number c then Some c else code_among cs n

abbrev pub code_of : ℕ → Option CommandCode
code_of = code_among all_commands

unfoldable pub command_code : Layout CommandCode
command_code = number 4 (λ left. code_of) code_number rc_command_code
