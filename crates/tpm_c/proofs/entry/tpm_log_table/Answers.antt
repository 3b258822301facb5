use Rattle.std.proofs.Common.{refl, subst}
use Rattle.tpm_event_data.specs.HandoffTables.{as_table}
use Rattle.tpm_c.specs.Entries.{table_view, IsTableTold}
use Rattle.tpm_c.proofs.Entries.{table_views}
use Rattle.tpm_c.proofs.entry.tpm_log_table.Goals as goal

pub returns-in-Some : goal.returns-in-Some
returns-in-Some c =
    let bytes = c.args.bytes.now in
    let it = as_table c.in-Some.table in
    rw c.table_view.ensures
    (subst (λ o. IsTableTold o bytes (record { answer = 91; old = c.args.view.now; new = table_view it })) c.in-Some.ensures
    (refl, table_views bytes it c.in-Some.ensures, refl))
