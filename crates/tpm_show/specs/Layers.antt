-- The software layers of response codes, and their base codes (TCG TSS 2.0 Overview and Common
-- Structures, response codes), by their numbers and names in tss2_common.h.
use Rattle.std.specs.Prelude.{ℕ, ◌/◌, ◌^◌, ◌==◌, Option, if◌then◌else◌}
use Rattle.tpm_show.specs.declared.layers.Codes.TheVariants.{Base, BaseOrTpm, Tpm}
use Rattle.tpm_show.specs.declared.layers.Codes.{Codes}
use Rattle.tpm_show.specs.declared.layers.TheConstants.{BASE_CODES, LAYERS}
use Rattle.tpm_names.specs.Meanings.{Meaning, meaning_in, table_as}

-- Under the number of RESMGR the resource manager of Linux answers in the place of the TPM (drivers/char/tpm/tpm.h).
abbrev pub codes_of : ℕ → Codes
codes_of layer = if layer == 11 then BaseOrTpm else if layer == 12 then Tpm else Base

-- The number of the layer stands above the sixteen bits of its code.
abbrev pub layer_of : ℕ → Option Meaning
layer_of code = meaning_in (table_as LAYERS) (code / 2 ^ 16)

abbrev pub base_of : ℕ → Option Meaning
base_of code = meaning_in (table_as BASE_CODES) code
