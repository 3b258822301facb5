-- What was found of Secure Boot, as C holds it.
use Rattle.std.specs.Prelude.{option_map}
use Rattle.tpm_secure_boot.specs.declared.verdict.SecureBoot.{SecureBoot}
use Rattle.tpm_secure_boot.specs.BootPolicy.{value_at}
use Rattle.tpm_c.specs.declared.secure_boot.TpmSecureBoot.{TpmSecureBoot}
use Rattle.tpm_c.specs.SecureBoots.{boot_view}

-- of what is found, and of what was said
abbrev pub found_view : SecureBoot → TpmSecureBoot
found_view v = boot_view v.dma_protection_disabled (option_map value_at v.pk) (option_map value_at v.kek)
    (option_map value_at v.db) (option_map value_at v.dbx)
