-- The commands of the library by their names (Part 2, 6.5.2, TPM_CC), and how many handles each has (Part 3).
use Rattle.std.specs.Prelude.{ℕ, ◌==◌, List, [], ◌∷◌, codes, Option, find}

-- a command's number, its name without TPM_CC_, and how many handles it and its response have
pub record Listed : Type 0 where
  pub number : ℕ
  pub name : List ℕ
  pub handles : ℕ
  pub reply_handles : ℕ

abbrev pub listed : ℕ → List ℕ → ℕ → ℕ → Listed
listed number name handles reply_handles =
    record { number = number; name = name; handles = handles; reply_handles = reply_handles }

abbrev pub commands : List Listed
commands =
    listed 0x11f (codes "NV_UndefineSpaceSpecial") 2 0 ∷
    listed 0x120 (codes "EvictControl") 2 0 ∷
    listed 0x121 (codes "HierarchyControl") 1 0 ∷
    listed 0x122 (codes "NV_UndefineSpace") 2 0 ∷
    listed 0x124 (codes "ChangeEPS") 1 0 ∷
    listed 0x125 (codes "ChangePPS") 1 0 ∷
    listed 0x126 (codes "Clear") 1 0 ∷
    listed 0x127 (codes "ClearControl") 1 0 ∷
    listed 0x128 (codes "ClockSet") 1 0 ∷
    listed 0x129 (codes "HierarchyChangeAuth") 1 0 ∷
    listed 0x12a (codes "NV_DefineSpace") 1 0 ∷
    listed 0x12b (codes "PCR_Allocate") 1 0 ∷
    listed 0x12c (codes "PCR_SetAuthPolicy") 1 0 ∷
    listed 0x12d (codes "PP_Commands") 1 0 ∷
    listed 0x12e (codes "SetPrimaryPolicy") 1 0 ∷
    listed 0x12f (codes "FieldUpgradeStart") 2 0 ∷
    listed 0x130 (codes "ClockRateAdjust") 1 0 ∷
    listed 0x131 (codes "CreatePrimary") 1 1 ∷
    listed 0x132 (codes "NV_GlobalWriteLock") 1 0 ∷
    listed 0x133 (codes "GetCommandAuditDigest") 2 0 ∷
    listed 0x134 (codes "NV_Increment") 2 0 ∷
    listed 0x135 (codes "NV_SetBits") 2 0 ∷
    listed 0x136 (codes "NV_Extend") 2 0 ∷
    listed 0x137 (codes "NV_Write") 2 0 ∷
    listed 0x138 (codes "NV_WriteLock") 2 0 ∷
    listed 0x139 (codes "DictionaryAttackLockReset") 1 0 ∷
    listed 0x13a (codes "DictionaryAttackParameters") 1 0 ∷
    listed 0x13b (codes "NV_ChangeAuth") 1 0 ∷
    listed 0x13c (codes "PCR_Event") 1 0 ∷
    listed 0x13d (codes "PCR_Reset") 1 0 ∷
    listed 0x13e (codes "SequenceComplete") 1 0 ∷
    listed 0x13f (codes "SetAlgorithmSet") 1 0 ∷
    listed 0x140 (codes "SetCommandCodeAuditStatus") 1 0 ∷
    listed 0x141 (codes "FieldUpgradeData") 0 0 ∷
    listed 0x142 (codes "IncrementalSelfTest") 0 0 ∷
    listed 0x143 (codes "SelfTest") 0 0 ∷
    listed 0x144 (codes "Startup") 0 0 ∷
    listed 0x145 (codes "Shutdown") 0 0 ∷
    listed 0x146 (codes "StirRandom") 0 0 ∷
    listed 0x147 (codes "ActivateCredential") 2 0 ∷
    listed 0x148 (codes "Certify") 2 0 ∷
    listed 0x149 (codes "PolicyNV") 3 0 ∷
    listed 0x14a (codes "CertifyCreation") 2 0 ∷
    listed 0x14b (codes "Duplicate") 2 0 ∷
    listed 0x14c (codes "GetTime") 2 0 ∷
    listed 0x14d (codes "GetSessionAuditDigest") 3 0 ∷
    listed 0x14e (codes "NV_Read") 2 0 ∷
    listed 0x14f (codes "NV_ReadLock") 2 0 ∷
    listed 0x150 (codes "ObjectChangeAuth") 2 0 ∷
    listed 0x151 (codes "PolicySecret") 2 0 ∷
    listed 0x152 (codes "Rewrap") 2 0 ∷
    listed 0x153 (codes "Create") 1 0 ∷
    listed 0x154 (codes "ECDH_ZGen") 1 0 ∷
    listed 0x155 (codes "HMAC") 1 0 ∷
    listed 0x156 (codes "Import") 1 0 ∷
    listed 0x157 (codes "Load") 1 1 ∷
    listed 0x158 (codes "Quote") 1 0 ∷
    listed 0x159 (codes "RSA_Decrypt") 1 0 ∷
    listed 0x15b (codes "HMAC_Start") 1 1 ∷
    listed 0x15c (codes "SequenceUpdate") 1 0 ∷
    listed 0x15d (codes "Sign") 1 0 ∷
    listed 0x15e (codes "Unseal") 1 0 ∷
    listed 0x160 (codes "PolicySigned") 2 0 ∷
    listed 0x161 (codes "ContextLoad") 0 1 ∷
    listed 0x162 (codes "ContextSave") 1 0 ∷
    listed 0x163 (codes "ECDH_KeyGen") 1 0 ∷
    listed 0x164 (codes "EncryptDecrypt") 1 0 ∷
    listed 0x165 (codes "FlushContext") 0 0 ∷
    listed 0x167 (codes "LoadExternal") 0 1 ∷
    listed 0x168 (codes "MakeCredential") 1 0 ∷
    listed 0x169 (codes "NV_ReadPublic") 1 0 ∷
    listed 0x16a (codes "PolicyAuthorize") 1 0 ∷
    listed 0x16b (codes "PolicyAuthValue") 1 0 ∷
    listed 0x16c (codes "PolicyCommandCode") 1 0 ∷
    listed 0x16d (codes "PolicyCounterTimer") 1 0 ∷
    listed 0x16e (codes "PolicyCpHash") 1 0 ∷
    listed 0x16f (codes "PolicyLocality") 1 0 ∷
    listed 0x170 (codes "PolicyNameHash") 1 0 ∷
    listed 0x171 (codes "PolicyOR") 1 0 ∷
    listed 0x172 (codes "PolicyTicket") 1 0 ∷
    listed 0x173 (codes "ReadPublic") 1 0 ∷
    listed 0x174 (codes "RSA_Encrypt") 1 0 ∷
    listed 0x176 (codes "StartAuthSession") 2 1 ∷
    listed 0x177 (codes "VerifySignature") 1 0 ∷
    listed 0x178 (codes "ECC_Parameters") 0 0 ∷
    listed 0x179 (codes "FirmwareRead") 0 0 ∷
    listed 0x17a (codes "GetCapability") 0 0 ∷
    listed 0x17b (codes "GetRandom") 0 0 ∷
    listed 0x17c (codes "GetTestResult") 0 0 ∷
    listed 0x17d (codes "Hash") 0 0 ∷
    listed 0x17e (codes "PCR_Read") 0 0 ∷
    listed 0x17f (codes "PolicyPCR") 1 0 ∷
    listed 0x180 (codes "PolicyRestart") 1 0 ∷
    listed 0x181 (codes "ReadClock") 0 0 ∷
    listed 0x182 (codes "PCR_Extend") 1 0 ∷
    listed 0x183 (codes "PCR_SetAuthValue") 1 0 ∷
    listed 0x184 (codes "NV_Certify") 3 0 ∷
    listed 0x185 (codes "EventSequenceComplete") 2 0 ∷
    listed 0x186 (codes "HashSequenceStart") 0 1 ∷
    listed 0x187 (codes "PolicyPhysicalPresence") 1 0 ∷
    listed 0x188 (codes "PolicyDuplicationSelect") 1 0 ∷
    listed 0x189 (codes "PolicyGetDigest") 1 0 ∷
    listed 0x18a (codes "TestParms") 0 0 ∷
    listed 0x18b (codes "Commit") 1 0 ∷
    listed 0x18c (codes "PolicyPassword") 1 0 ∷
    listed 0x18d (codes "ZGen_2Phase") 1 0 ∷
    listed 0x18e (codes "EC_Ephemeral") 0 0 ∷
    listed 0x18f (codes "PolicyNvWritten") 1 0 ∷
    listed 0x190 (codes "PolicyTemplate") 1 0 ∷
    listed 0x191 (codes "CreateLoaded") 1 1 ∷
    listed 0x192 (codes "PolicyAuthorizeNV") 3 0 ∷
    listed 0x193 (codes "EncryptDecrypt2") 1 0 ∷
    listed 0x194 (codes "AC_GetCapability") 1 0 ∷
    listed 0x195 (codes "AC_Send") 3 0 ∷
    listed 0x196 (codes "Policy_AC_SendSelect") 1 0 ∷
    listed 0x197 (codes "CertifyX509") 2 0 ∷
    listed 0x198 (codes "ACT_SetTimeout") 1 0 ∷
    listed 0x199 (codes "ECC_Encrypt") 1 0 ∷
    listed 0x19a (codes "ECC_Decrypt") 1 0 ∷
    listed 0x20000000 (codes "Vendor_TCG_Test") 0 0 ∷
    []

unfoldable pub listed_in : List Listed → ℕ → Option Listed
listed_in table number = find (λ c. c.number == number) table

-- the command of the library with this code
abbrev pub command_of : ℕ → Option Listed
command_of code = listed_in commands code
