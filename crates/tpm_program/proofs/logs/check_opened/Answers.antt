use Rattle.tpm_program.proofs.Checks.{by_false, if_counted, replayed}
use Rattle.tpm_program.proofs.logs.check_opened.Goals as goal

pub returns-else-is_of_boot-clause-ok : goal.returns-else-is_of_boot-clause-ok
returns-else-is_of_boot-clause-ok g c =
    let coming = g.S.Source.coming in
    let failed = g.S.Source.failed in
    if_counted _ c.check_log.result c.check_log.ensures.failures c.check_log.ensures.ok (λ status same said. (
      said.1,
      by_false _ _ _ c.if-asked.false (by_false _ _ _ (rw c.is_of_boot.ensures at c.if-is_of_boot.false) (
        said.0,
        coming c.check_log.new.log,
        _,
        replayed (coming c.args.log.now) (failed c.args.log.now) (failed c.check_log.new.log) said.0 c.requires same said.2,
        said.3,
        said.4,
      )),
      said.5,
    ))
