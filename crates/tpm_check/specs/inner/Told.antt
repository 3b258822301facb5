-- What the code holds of registers that a log gave, and of a quote.
use Rattle.tpm_pcr.specs.Registers.{value_in}
use Rattle.tpm_check.specs.declared.asked.AskedQuote.{AskedQuote as QuoteInCode}
use Rattle.tpm_check.specs.declared.beside.Beside.{Beside as InCode}
use Rattle.tpm_check.specs.Asked.{AskedQuote}
use Rattle.tpm_check.specs.Compare.{Beside, beside}

abbrev pub quote_by : QuoteInCode → AskedQuote
quote_by q = record { options = q.options.now; attest = q.attest.now }

abbrev pub told : InCode → Beside
told found = beside found.form (value_in found.registers.now.banks)
