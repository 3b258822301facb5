use Rattle.std.proofs.Common.{rules, ◌≡◌, refl, sym, ◌∙◌}
use Rattle.tpm_types.specs.declared.command_code.CommandCode.TheVariants as codes
use Rattle.tpm_commands.specs.declared.command.Params.TheVariants as params
use Rattle.tpm_buffer.specs.Commands.{body_from}
use Rattle.tpm_device.proofs.Acting.{acts_with}
use Rattle.tpm_device.proofs.Further.{unchanged}
use Rattle.tpm_device.proofs.device.Device.acted_on_few.Goals as goal

pub returns-then-matches-clause-some : goal.returns-then-matches-clause-some
returns-then-matches-clause-some c =
    let is : c.args.areas.now.header.code ≡ codes.PcrRead = search rules in
    let read = params.PcrRead c.in_ok-selections.selections in (
      read,
      rw (is, ← c.params.ensures.value) c.in_ok-selections.ensures,
      sym is,
      c.read_registers.ensures c.args.nonce.now,
      unchanged c.args.self.now (body_from c.args.areas.now.handles read) c.read_registers.new.body c.args.nonce.now refl refl (λ o h. refl) (λ nv. refl),
      λ needs. refl,
    )

pub returns-in-Some-clause-some : goal.returns-in-Some-clause-some
returns-in-Some-clause-some c =
    acts_with c.args.areas.now c.in-Some.params
    (record { old = c.args.self.now; nonce = c.args.nonce.now; reply = c.act.new.body; new = c.act.new.self }) c.act.result
    (rw (← c.code-2.ensures, ← c.params-2.ensures.value) c.in-Some.ensures.reads) (c.in-Some.ensures.code ∙ c.code-2.ensures)
    (rw c.handles.ensures at c.act.ensures.answer) (rw c.handles.ensures at c.act.ensures.stands) c.act.ensures.sessions c.act.ensures.refused
