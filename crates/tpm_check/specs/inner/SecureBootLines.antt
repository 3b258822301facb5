-- What the code found.
use Rattle.std.specs.Prelude.{option_map}
use Rattle.tpm_secure_boot.specs.declared.verdict.SecureBoot.{SecureBoot}
use Rattle.tpm_secure_boot.specs.BootPolicy.{value_at}
use Rattle.tpm_check.specs.SecureBootLines.{Found}

abbrev pub as_found : SecureBoot → Found
as_found v = record {
  state = v.state;
  disabled = v.dma_protection_disabled;
  pk = option_map value_at v.pk;
  kek = option_map value_at v.kek;
  db = option_map value_at v.db;
  dbx = option_map value_at v.dbx;
}
