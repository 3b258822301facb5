-- A log beside which a quote is the one that was asked for, as the code has it.
use Rattle.tpm_check.specs.declared.allowed_boot.VouchedLog.{VouchedLog as VouchedLogInCode}
use Rattle.tpm_check.specs.AllowedBoot.{VouchedLog}

abbrev pub vouched_log : VouchedLogInCode → VouchedLog
vouched_log q = record { options = q.options.now; selections = q.quoted.now; log = q.log.now }
