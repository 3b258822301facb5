use Rattle.std.proofs.Common.{List, Option, sym, ap, ◌∙◌}
use Rattle.tpm_types.specs.declared.command_code.CommandCode.{CommandCode}
use Rattle.tpm_model.specs.Sessions.{Session}
use Rattle.tpm_commands.specs.Handles.{first}
use Rattle.tpm_model.specs.Entities.{auth_value, entity_of, is_owner_entity}
use Rattle.tpm_model.specs.Authorization.{reply_auths}
use Rattle.tpm_session.specs.Entities.{evidence_of}
use Rattle.tpm_device.specs.Stands.{holds}
use Rattle.tpm_device.specs.inner.Checks.{claim_of}
use Rattle.tpm_device.proofs.device.Device.reply_session.Goals as goal

pub returns : goal.returns
returns c = λ p e alike gives.
    let x = c.args.areas.now in
    let handle = c.first_handle.ensures ∙ ap first c.handles.ensures in
    let entity = sym (c.entity-entity.ensures ∙ ap (entity_of (holds c.args.self.now)) handle) in
    ap (λ (code : CommandCode). reply_auths e code c.args.params.now c.args.nonce.now) (sym c.code.ensures)
    ∙ c.reply_auth.ensures.answer (claim_of p x) x.auths e c.requires.own (sym c.code.ensures)
    (alike.value ∙ ap auth_value entity) (alike.owner ∙ ap is_owner_entity entity)
    (ap (λ (sessions : List (Option Session)). evidence_of sessions (claim_of p x) x.auths) (sym alike.sessions) ∙ gives)
