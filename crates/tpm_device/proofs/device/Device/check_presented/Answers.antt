use Rattle.std.proofs.Common.{rules, ◌≡◌, Err, sym}
use Rattle.tpm_device.specs.Stands.{holds}
use Rattle.tpm_device.proofs.Passing.{is_read, tag_refused, areas_refused, admitted}
use Rattle.tpm_device.proofs.device.Device.check_presented.Goals as goal

pub returns-in_err-check_tag-clause-refuses : goal.returns-in_err-check_tag-clause-refuses
returns-in_err-check_tag-clause-refuses c =
    let code = c.in_err-check_tag.field-0.0 in
    let is : c.from_residual-in_err-check_tag.result ≡ Err code = search rules in
    rw is (tag_refused (holds c.args.self.now) c.args.bytes.now c.in_ok-headed.headed c.in_ok-handled.handled code
    (search rules) (search rules) (search rules) (rw (← c.list.ensures) (sym c.in_ok-check_handles.ensures)) (search rules))

pub returns-in-Err-clause-refuses : goal.returns-in-Err-clause-refuses
returns-in-Err-clause-refuses c =
    areas_refused (holds c.args.self.now) c.args.bytes.now c.in_ok-headed.headed c.in_ok-handled.handled c.in-Err.refusal
    (search rules) (search rules) (search rules) (rw (← c.list.ensures) (sym c.in_ok-check_handles.ensures)) (search rules) c.in-Err.ensures.refuses

pub returns-in-Ok-clause-reads : goal.returns-in-Ok-clause-reads
returns-in-Ok-clause-reads c =
    is_read (holds c.args.self.now) c.args.bytes.now c.in_ok-headed.headed c.in_ok-handled.handled c.areas_into.new.areas
    (search rules) (search rules) (search rules) (rw (← c.list.ensures) (sym c.in_ok-check_handles.ensures)) (search rules) c.in-Ok.ensures.reads

pub returns-in-Ok-clause-admitted : goal.returns-in-Ok-clause-admitted
returns-in-Ok-clause-admitted c =
    admitted c.in_ok-headed.headed c.in_ok-handled.handled c.areas_into.new.areas (search rules) (search rules) c.in-Ok.ensures.reads
