use Rattle.std.proofs.Common.{rules, ◌≡◌, length, take, [], ◌∷◌, Some, true, sym}
use Rattle.std.specs.Prelude.{nat_le}
use Rattle.tpm_wire.specs.Reading.{read_all}
use Rattle.tpm_commands.specs.Handles.{handle_kinds}
use Rattle.tpm_buffer.specs.Commands.{command as command_layout}
use Rattle.tpm_caller.specs.Plain.{body_in, parts_in}
use Rattle.tpm_c.specs.declared.caller.CallerState.TheVariants.{Free}
use Rattle.tpm_c.specs.Callers.{do_fit, SealedWith, is_set}
use Rattle.tpm_c.proofs.Sealing.{is_sealed}
use Rattle.tpm_c.proofs.caller.seal.Goals as goal

pub returns-in-Free : goal.returns-in-Free
returns-in-Free c =
    let room : nat_le 4096 (length c.args.out.now) ≡ true = search rules in
    let free : c.args.state.now ≡ Free c.in-Free.caller = search rules in
    let there : parts_in (body_in (read_all command_layout c.args.command.now)) ≡ Some c.in-Some.plain = search rules in
    let fits : do_fit (take (length (handle_kinds c.in-Some.plain.code)) (c.args.first.now ∷ c.args.second.now ∷ []))
    c.args.nonce.now ≡ true = search rules in
    let means : SealedWith = record {
      first = c.args.first.now;
      second = c.args.second.now;
      auth = c.args.auth.now;
      nonce = c.args.nonce.now;
      keep = is_set c.args.keep;
    } in
    rw (room, free) (is_sealed c.in-Free.caller (body_in (read_all command_layout c.args.command.now)) c.in-Some.plain means
    c.args.out.now c.sealed-waiting.new.out c.sealed-waiting.result.0 c.sealed-waiting.result.1 (sym there) fits
    c.sealed-waiting.ensures.sealed c.sealed-waiting.ensures.spelled c.in-Some.ensures.fit)
