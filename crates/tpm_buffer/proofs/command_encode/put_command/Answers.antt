use Rattle.std.proofs.Common.{arith, ◌≤◌, ℕ, List, All, subst, sym, ap, length, rules}
use Rattle.tpm_wire.specs.Spelling.{spelling, Fits, IsSpelled}
use Rattle.tpm_types.specs.declared.tpms.Auth.{Auth}
use Rattle.tpm_types.specs.Tpms.{auth_command}
use Rattle.tpm_buffer.specs.Commands.{rest_of, code_for, tag_of, command}
use Rattle.tpm_buffer.proofs.Spelled.{encoded, fits_command, fits_rest}
use Rattle.tpm_buffer.proofs.command_encode.put_command.Goals as goal

pub returns-clause-fits : goal.returns-clause-fits
returns-clause-fits c =
    let value = c.args.command.now in
    let each : All (IsSpelled auth_command) value.auths.items =
    subst (λ (auths : List Auth). All (IsSpelled auth_command) auths) c.as_slice.ensures.value
    c.known_list.ensures in
    let short : length (spelling (rest_of (code_for value.body) (tag_of value)) value) ≤ 4000 =
    subst (λ (t : ℕ). length (spelling (rest_of (code_for value.body) t) value) ≤ 4000) c.tag_of-tag.ensures
    (omega (arith, c.rest_len-len.ensures.value, c.rest_len-len.ensures.fits)) in
    let fits : Fits (length (spelling command value)) command value =
    fits_command value (search rules) short
    (fits_rest value c.rest_len-len.ensures.few each c.rest_len-len.ensures.handles c.rest_len-len.ensures.params
    c.rest_len-len.ensures.whole short) in
    subst (λ (n : ℕ). Fits n command value) (sym (ap length c.put_whole.ensures)) fits

pub returns-clause-spells : goal.returns-clause-spells
returns-clause-spells c = encoded command c.args.command.now c.put_whole.new.out.items c.put_whole.ensures (returns-clause-fits c)
