-- What a device attests (Part 2, 10.11 and 10.12).
use Rattle.std.specs.Prelude.{ℕ, Bool, true, false, Option, Some, None, ◌==◌, if◌then◌else◌}
use Rattle.tpm_wire.specs.Buffers.{Layout, number_in, any_number}
use Rattle.tpm_wire.specs.Layout.Form.{number, field, done}
use Rattle.tpm_wire.specs.Structures.{sized_bytes}
use Rattle.tpm_wire.specs.ResponseCodes.{rc_value}
use Rattle.tpm_types.specs.Tpm2b.{digest}
use Rattle.tpm_types.specs.Tpml.{selections}
use Rattle.tpm_types.specs.declared.attest.QuoteInfo.{QuoteInfo}
use Rattle.tpm_types.specs.declared.attest.ClockInfo.{ClockInfo}
use Rattle.tpm_types.specs.declared.attest.Attest.{Attest}

-- TPMS_QUOTE_INFO (10.12.4)
unfoldable pub quote_info : Layout QuoteInfo
quote_info =
    field (λ q. q.selections) selections (λ selections.
    field (λ q. q.digest) digest (λ digest.
    done (record { selections = selections; digest = digest })))

-- TPMI_YES_NO (9.2)
abbrev pub yes_no_of : ℕ → Option Bool
yes_no_of n = if n == 0 then Some false else if n == 1 then Some true else None

abbrev pub yes_no_number : Bool → ℕ
yes_no_number false = 0
yes_no_number true = 1

unfoldable pub yes_no : Layout Bool
yes_no = number 1 (λ left. yes_no_of) yes_no_number rc_value

-- TPMS_CLOCK_INFO (10.11.1)
unfoldable pub clock_info : Layout ClockInfo
clock_info =
    field (λ c. c.clock) (any_number 8) (λ clock.
    field (λ c. c.reset_count) (any_number 4) (λ reset_count.
    field (λ c. c.restart_count) (any_number 4) (λ restart_count.
    field (λ c. c.safe) yes_no (λ safe.
    done (record { clock = clock; reset_count = reset_count; restart_count = restart_count; safe = safe })))))

-- TPM_GENERATED_VALUE (6.2)
abbrev pub generated_value : ℕ
generated_value = 0xFF544347

unfoldable pub generated : Layout ℕ
generated = number_in 4 (λ n. n == generated_value) rc_value

-- TPM_ST_ATTEST_QUOTE (6.9)
abbrev pub attest_quote : ℕ
attest_quote = 0x8018

unfoldable pub attest_type : Layout ℕ
attest_type = number_in 2 (λ n. n == attest_quote) rc_value

-- how many bytes a TPM2B_DATA (10.4.3) and the TPM2B_NAME (10.5.3) of a key have at most: the number of a hash, and
-- the longest digest of any, which is that of SHA-512
abbrev pub data_bytes : ℕ
data_bytes = 66

-- TPMS_ATTEST (10.12) of a quote: magic, type, qualifiedSigner, extraData, clockInfo, firmwareVersion, attested
unfoldable pub attest : Layout Attest
attest =
    field (λ _. generated_value) generated (λ _.
    field (λ _. attest_quote) attest_type (λ _.
    field (λ a. a.signer) (sized_bytes data_bytes) (λ signer.
    field (λ a. a.extra_data) (sized_bytes data_bytes) (λ extra_data.
    field (λ a. a.clock_info) clock_info (λ clock_info.
    field (λ a. a.firmware_version) (any_number 8) (λ firmware_version.
    field (λ a. a.quote) quote_info (λ quote.
    done (record {
      signer = signer;
      extra_data = extra_data;
      clock_info = clock_info;
      firmware_version = firmware_version;
      quote = quote;
    }))))))))
