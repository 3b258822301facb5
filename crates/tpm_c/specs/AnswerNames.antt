-- The names of what the calls on logs answer, as the program tells them.
use Rattle.std.specs.Prelude.{List, [], ◌∷◌, codes}
use Rattle.tpm_output.specs.Named.{Named, named}
use Rattle.tpm_log.specs.declared.fault.LogFaultKind.TheVariants as kinds
use Rattle.tpm_secure_boot.specs.declared.verdict.SecureBootState.TheVariants as states
use Rattle.tpm_secure_boot.specs.declared.verdict.SecureBootFaultKind.TheVariants as reasons
use Rattle.tpm_c.specs.Logs.{kind_number}
use Rattle.tpm_c.specs.SecureBoots.{state_number, fault_number}

abbrev pub answer_names : List Named
answer_names =
    named (kind_number kinds.Truncated) (codes "Truncated") ∷
    named (kind_number kinds.TooLong) (codes "TooLong") ∷
    named (kind_number kinds.NotCryptoAgile) (codes "NotCryptoAgile") ∷
    named (kind_number kinds.BadHeader) (codes "BadHeader") ∷
    named (kind_number kinds.DuplicateAlgorithm) (codes "DuplicateAlgorithm") ∷
    named (kind_number kinds.WrongDigestSize) (codes "WrongDigestSize") ∷
    named (kind_number kinds.UnknownAlgorithm) (codes "UnknownAlgorithm") ∷
    named (kind_number kinds.RepeatedDigest) (codes "RepeatedDigest") ∷
    named (kind_number kinds.BadRegister) (codes "BadRegister") ∷
    named (kind_number kinds.BadLocality) (codes "BadLocality") ∷
    named (kind_number kinds.LateLocality) (codes "LateLocality") ∷
    named 16 (codes "digest differs") ∷
    named 17 (codes "quote refused") ∷
    named 18 (codes "no bank") ∷
    named 19 (codes "nonce differs") ∷
    named 20 (codes "selection lacks") ∷
    named 21 (codes "selects nothing") ∷
    named 22 (codes "requirement refused") ∷
    named (state_number states.On) (codes "on") ∷
    named (state_number states.Off) (codes "off") ∷
    named (state_number states.Unset) (codes "unset") ∷
    named (fault_number reasons.NotMeasured) (codes "NotMeasured") ∷
    named (fault_number reasons.OtherType) (codes "OtherType") ∷
    named (fault_number reasons.NoVariable) (codes "NoVariable") ∷
    named (fault_number reasons.Twice) (codes "Twice") ∷
    named (fault_number reasons.OtherValue) (codes "OtherValue") ∷
    named (fault_number reasons.Debugger) (codes "Debugger") ∷
    named (fault_number reasons.BadSeparator) (codes "BadSeparator") ∷
    named (fault_number reasons.NoSeparator) (codes "NoSeparator") ∷
    named (fault_number reasons.Late) (codes "Late") ∷
    named (fault_number reasons.NoKey) (codes "NoKey") ∷
    named (fault_number reasons.NoAuthority) (codes "NoAuthority") ∷
    named (fault_number reasons.NoSecureBoot) (codes "NoSecureBoot") ∷
    []
