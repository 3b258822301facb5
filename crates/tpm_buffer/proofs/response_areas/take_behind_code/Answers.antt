use Rattle.std.proofs.Common.{◌≡◌, ◌+◌, ◌*◌, length, arith, rules}
use Rattle.tpm_commands.specs.Replies.{reply_handles, handle_list}
use Rattle.tpm_buffer.specs.Responses.{raw_without_sessions}
use Rattle.tpm_buffer.specs.inner.ResponseAreas.{IsPlaceIn}
use Rattle.tpm_buffer.proofs.Places.{stands_behind}
use Rattle.tpm_buffer.proofs.response_areas.take_behind_code.Goals as goal

pub take_with_sessions-requires : goal.take_with_sessions-requires
take_with_sessions-requires g c =
    let stands : IsPlaceIn g.bytes c.take_reply_handle.new.cursor.here =
    stands_behind g.bytes 0 (reply_handles c.args.code) _ _ _ c.requires.0 c.in_ok-handle.ensures.reads in
    (stands, (omega (arith, c.requires.0.whole, stands.whole, c.requires.1.0, c.in_ok-handle.ensures.length), c.requires.1.1))

pub returns : goal.returns
unfolding raw_without_sessions
returns g c =
    let stands : IsPlaceIn g.bytes c.take_reply_handle.new.cursor.here =
    stands_behind g.bytes 0 (reply_handles c.args.code) _ _ _ c.requires.0 c.in_ok-handle.ensures.reads in
    let place : c.take_reply_handle.new.cursor.here.at ≡ 10 + 4 * length (handle_list c.in_ok-handle.handle) =
    omega (arith, c.requires.0.whole, stands.whole, c.requires.1.0, c.in_ok-handle.ensures.length) in
    record { reads = search rules; place = search rules }
