use Rattle.tpm_caller.proofs.Told.{what_opens, what_is_refused, what_is_a_code, what_is_not_expected}
use Rattle.tpm_caller.proofs.Told.{what_has_a_wrong_mac, what_is_given_up}
use Rattle.tpm_caller.proofs.laws.what_is_opened.Goals as goal

pub returns : goal.returns
returns c = record {
  opened = what_opens;
  refused = what_is_refused;
  code = what_is_a_code;
  not_expected = what_is_not_expected;
  wrong_mac = what_has_a_wrong_mac;
  given_up = what_is_given_up;
}
