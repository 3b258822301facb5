use Rattle.std.proofs.Common.{◌∷◌, ◌++◌, [], ap, ◌∙◌}
use Rattle.tpm_wire.proofs.Loop.{written_last}
use Rattle.tpm_types.specs.declared.tpms.AuthReply.{AuthReply}
use Rattle.tpm_buffer.proofs.sessions.push_copy.Goals as goal

pub returns : goal.returns
returns c =
    let items = c.args.auths.now.items in
    written_last items c.push.new.self.items c.as_mut_slice.result.now c.default.result c.copy_to.new.other c.len-last.result
    c.push.ensures.items c.as_mut_slice.ensures.value c.len-last.ensures.value
    ∙ ap (λ (x : AuthReply). items ++ x ∷ []) c.copy_to.ensures
