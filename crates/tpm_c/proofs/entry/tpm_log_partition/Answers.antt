use Rattle.std.proofs.Common.{refl, subst}
use Rattle.tpm_event_data.specs.PartitionTables.{as_partition}
use Rattle.tpm_c.specs.Entries.{partition_view, IsPartitionTold}
use Rattle.tpm_c.proofs.Entries.{partition_views}
use Rattle.tpm_c.proofs.entry.tpm_log_partition.Goals as goal

pub returns-in-Some : goal.returns-in-Some
returns-in-Some c =
    let bytes = c.args.bytes.now in
    let it = as_partition c.in-Some.partition in
    rw c.partition_view.ensures
    (subst (λ o. IsPartitionTold o bytes (record { answer = 90; old = c.args.view.now; new = partition_view it })) c.in-Some.ensures
    (refl, partition_views bytes it c.in-Some.ensures, refl))
