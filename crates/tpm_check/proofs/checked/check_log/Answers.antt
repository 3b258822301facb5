use Rattle.std.proofs.Common.{◌≡◌, ◌++◌, inl, Ok, Err, refl, rules}
use Rattle.std.proofs.lemmas.Result.{IfOk-weaker}
use Rattle.tpm_log.specs.declared.fault.LogFaultKind.TheVariants as kinds
use Rattle.tpm_log.specs.Changes.{AreAfter}
use Rattle.tpm_log.specs.Takes.{IsOfBytes}
use Rattle.tpm_output.specs.declared.status.Status.TheVariants.{Refused}
use Rattle.tpm_check.specs.CheckJson.{ok_text}
use Rattle.tpm_check.specs.Check.{failures_of}
use Rattle.tpm_events.specs.LogFaults.{fault_text}
use Rattle.tpm_check.proofs.Checks.{counts_alone, counts_list, list_last, no_read_failed, not_read, not_too_long}
use Rattle.tpm_check.proofs.Checks.{of_bytes, read_failed, replayed}
use Rattle.tpm_check.proofs.checked.check_log.Goals as goal

pub returns-in-Err-clause-failures : goal.returns-in-Err-clause-failures
returns-in-Err-clause-failures g c =
    let failed = g.L.Source.failed in
    let is : c.in-Err.fault.kind ≡ kinds.Device = search rules in
    inl (
      read_failed AreAfter (g.L.Source.coming c.args.log.now) (failed c.args.log.now) (failed c.replay_from.new.source) c.in-Err.fault is
          c.in-Err.ensures.replays,
      refl,
    )

pub returns-in-Err-clause-stop : goal.returns-in-Err-clause-stop
returns-in-Err-clause-stop g c =
    let failed = g.L.Source.failed in
    let is : c.in-Err.fault.kind ≡ kinds.Device = search rules in
    let more = read_failed AreAfter (g.L.Source.coming c.args.log.now) (failed c.args.log.now) (failed c.replay_from.new.source) c.in-Err.fault is
    c.in-Err.ensures.replays in
    λ fails. inl (more, (c.in-Err.ensures.stop is, refl))

pub returns-in-Err-2-clause-failures : goal.returns-in-Err-2-clause-failures
returns-in-Err-2-clause-failures g c =
    let failed = g.L.Source.failed in
    let old = failed c.args.log.now in
    let new = failed c.replay_from.new.source in
    let other : IsOfBytes c.in-Err-2.fault.kind = of_bytes c.in-Err-2.fault.kind (search rules) in
    let same = no_read_failed AreAfter (g.L.Source.coming c.args.log.now) old new c.in-Err-2.fault other c.in-Err-2.ensures.replays in
    counts_alone old new (failures_of g.F.Source.failed c.args.list.now) c.tell_fault.result c.tell_fault.ensures.err same

pub returns-in-Err-2-clause-stop : goal.returns-in-Err-2-clause-stop
returns-in-Err-2-clause-stop g c = λ is. absurd (not_read c.tell_fault.result c.tell_fault.ensures.err is)

pub returns-in-Err-2-clause-ok : goal.returns-in-Err-2-clause-ok
returns-in-Err-2-clause-ok g c =
    let fault = c.in-Err.fault in
    let form = c.args.asked.now.options.now.form in
    let other : IsOfBytes fault.kind = of_bytes fault.kind (search rules) in
    IfOk-weaker c.tell_fault.result _ _ (λ status printed. (
      Err fault,
      fault_text form fault ++ ok_text form Refused,
      c.in-Err.ensures.replays,
      c.in-Err.ensures.reads,
      (refl, other, printed.0, refl),
      printed.1,
    )) c.tell_fault.ensures.ok

pub returns-in-Err-2-clause-too_long : goal.returns-in-Err-2-clause-too_long
returns-in-Err-2-clause-too_long g c = λ is. absurd (not_too_long c.tell_fault.result c.tell_fault.ensures.err is)

pub returns-clause-failures : goal.returns-clause-failures
returns-clause-failures g c =
    let failed = g.L.Source.failed in
    let old = failed c.args.log.now in
    let new = failed c.replay_from.new.source in
    let same = replayed AreAfter (g.L.Source.coming c.args.log.now) old new c.in-Ok.found c.in-Ok.ensures.replays in
    counts_list old new (failures_of g.F.Source.failed c.args.list.now) (failures_of g.F.Source.failed c.print_to_end.new.list) c.print_to_end.result
    c.print_to_end.ensures.failures same

pub returns-clause-stop : goal.returns-clause-stop
returns-clause-stop g c =
    let failed = g.L.Source.failed in
    let old = failed c.args.log.now in
    let new = failed c.replay_from.new.source in
    let same = replayed AreAfter (g.L.Source.coming c.args.log.now) old new c.in-Ok.found c.in-Ok.ensures.replays in
    λ is. list_last old new (failures_of g.F.Source.failed c.args.list.now) (failures_of g.F.Source.failed c.print_to_end.new.list) _ _ c.print_to_end.result
    c.print_to_end.ensures.failures c.print_to_end.ensures.stop same is

pub returns-clause-ok : goal.returns-clause-ok
returns-clause-ok g c =
    IfOk-weaker c.print_to_end.result _ _ (λ status checked. (
      Ok c.in-Ok.found,
      checked.1,
      c.in-Ok.ensures.replays,
      c.in-Ok.ensures.reads,
      (checked.0, checked.2, checked.3),
      checked.4,
    )) c.print_to_end.ensures.ok
