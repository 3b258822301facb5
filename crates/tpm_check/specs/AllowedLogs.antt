-- What is known where `check --attest --allow` ends with status 0: of the log, and of every log that the quote vouches
-- for (this profile).
use Rattle.std.specs.Prelude.{◌≡◌, ℕ, true, List, [], Ok, Some, unwrap_or}
use Rattle.tpm_wire.specs.Path.{Spells}
use Rattle.tpm_types.specs.declared.alg.Alg.{Alg}
use Rattle.tpm_types.specs.declared.attest.Attest.{Attest}
use Rattle.tpm_types.specs.Attest.{attest}
use Rattle.tpm_quote.specs.Attests.{is_among, register_of}
use Rattle.tpm_vouched.specs.declared.allowed.AllowedDigest.{AllowedDigest}
use Rattle.tpm_vouched.specs.Allowed.{AreAllowed, names}
use Rattle.tpm_vouched.specs.Vouched.{AreApart, QuoteApart, QuotedLog}
use Rattle.tpm_options.specs.declared.CheckOptions.{CheckOptions}
use Rattle.tpm_lists.specs.AllowLines.{allowed_in}
use Rattle.tpm_check.specs.Check.{hash_of}
use Rattle.tpm_check.specs.CheckAttest.{given}

-- a list, and a log beside whose registers a quote is the one that was asked for
pub record ListedLog : Type 0 where
  pub list : List AllowedDigest
  pub signed : Attest
  pub hash : Alg
  pub log : QuotedLog hash signed

-- The quote is the one that the options ask for, by its signer, the hash of its digest, its nonce and its registers. A
-- signer or a nonce that they don't give is the quote's own; of registers that they don't give none is required.
pub record IsAskedFor (o : CheckOptions) (l : ListedLog) : Type 0 where
  pub signer : l.signed.signer ≡ unwrap_or (given o.signer) l.signed.signer
  pub hash : hash_of o.hash l.signed.quote.digest ≡ Some l.hash
  pub nonce : l.log.nonce ≡ unwrap_or (given o.nonce) l.signed.extra_data
  pub required : l.log.required ≡ unwrap_or o.required []

-- The quote selects the register of the bank. Each digest by which the log extends it is on the list. So is each of
-- every other log beside which the quote is accepted, with the premises of `tpm_vouched::laws::allowed_by_the_quote`.
pub record AllowedThere (l : ListedLog) (bank : Alg) (register : ℕ) : Type 0 where
  pub selected : is_among l.signed.quote.selections (register_of bank register) ≡ true
  pub here : AreAllowed l.list bank register l.log.read.records
  pub elsewhere : (other : QuotedLog l.hash l.signed)
      → QuoteApart l.hash l.signed.quote.selections l.log.registers other.registers
      → AreApart bank register l.log.read.records other.read.records
      → AreAllowed l.list bank register other.read.records

-- The bytes are those of a quote as it was signed, of a list and of a log, and the quote is the one asked for. The list
-- names a register, and that holds of each that it names.
pub record AllowedByQuote (o : CheckOptions) (quote allow bytes : List ℕ) : Type 0 where
  pub listed : ListedLog
  pub of_quote : Spells attest listed.signed quote
  pub of_list : allowed_in allow ≡ Ok listed.list
  pub of_log : listed.log.read.bytes ≡ bytes
  pub asked : IsAskedFor o listed
  pub some : (bank : Alg) × (register : ℕ) × (names listed.list bank register ≡ true)
  pub each : (bank : Alg) (register : ℕ) → names listed.list bank register ≡ true → AllowedThere listed bank register
