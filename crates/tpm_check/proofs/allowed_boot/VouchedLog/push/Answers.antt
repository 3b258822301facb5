use Rattle.tpm_check.specs.AllowedBoot.{boot_if, on_boot, on_list}
use Rattle.tpm_check.specs.inner.AllowedBoot.{vouched_log}
use Rattle.tpm_check.proofs.AllowedBoots.{adds_behind}
use Rattle.tpm_check.proofs.allowed_boot.VouchedLog.push.Goals as goal

pub returns : goal.returns
returns c =
    let q = vouched_log c.args.self.now in
    rw c.in-Some.is (adds_behind (boot_if q.options.secure_boot (on_boot q)) (on_list q c.in-Some.allow.now) _ _ _ _ _ _
    c.in_ok-boot.ensures c.in_ok-list.ensures c.both.ensures)
