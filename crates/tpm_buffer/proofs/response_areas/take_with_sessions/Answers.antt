use Rattle.std.proofs.Common.{◌≡◌, ◌+◌, length, take, drop, ap, sym, ◌∙◌, refl, arith}
use Rattle.tpm_wire.specs.Buffers.{Place}
use Rattle.tpm_wire.specs.Layout.{raw}
use Rattle.tpm_wire.proofs.Loop.{at_place}
use Rattle.tpm_buffer.specs.Responses.{parameter_size, raw_with_sessions}
use Rattle.tpm_buffer.specs.inner.ResponseAreas.{IsPlaceIn}
use Rattle.tpm_buffer.proofs.Places.{any_mark, stands_behind, raw_is}
use Rattle.tpm_buffer.proofs.ReadSessions.{place_before_sessions}
use Rattle.tpm_commands.specs.Replies.{handle_list}
use Rattle.tpm_buffer.proofs.response_areas.take_with_sessions.Goals as goal

pub returns-clause-place : goal.returns-clause-place
returns-clause-place g c =
    let bytes = g.bytes in
    let before = c.take_parameter_size.new.cursor in
    let size_is = at_place parameter_size c.number.new.self c.args.cursor.now.here 0 0 _ c.number.ensures refl c.in_ok-params_size.ensures.reads.0 in
    let stands : IsPlaceIn bytes before.here =
    stands_behind bytes 0 parameter_size c.args.cursor.now.here before.here c.in_ok-params_size.field-0
    c.requires.0 size_is in
    let four : length c.args.cursor.now.here.rest ≡ 4 + length before.here.rest =
    ap (λ (p : Place). length p.here.rest) (sym c.number.ensures) ∙ c.in_ok-params_size.ensures.length in (
      omega (arith, c.at-params_at.ensures, stands.whole, c.in_ok-params_size.ensures.fits),
      omega (
        arith,
        c.at-params_at.ensures,
        stands.whole,
        c.requires.0.whole,
        four,
        c.requires.1.0,
        place_before_sessions (handle_list c.args.handle) c.take_sessions.new.auths.items c.in_ok-take_sessions.ensures.some,
      ),
    )

pub returns-clause-reads : goal.returns-clause-reads
unfolding raw_with_sessions
returns-clause-reads g c =
    let bytes = g.bytes in
    let before = c.take_parameter_size.new.cursor in
    let size = c.in_ok-params_size.field-0 in
    let size_is = at_place parameter_size c.number.new.self c.args.cursor.now.here 0 0 _ c.number.ensures refl c.in_ok-params_size.ensures.reads.0 in
    let stands : IsPlaceIn bytes before.here = stands_behind bytes 0 parameter_size c.args.cursor.now.here before.here size c.requires.0 size_is in
    let raw_bytes = any_mark before.number 0 (raw size) before.here (c.in_ok-bytes.field-0.now, c.bytes.new.self.here) c.in_ok-bytes.ensures.0 in
    let params : c.in_ok-bytes.field-0.now ≡ take size (drop c.at-params_at.result bytes) =
    raw_is before.number size before.here c.bytes.new.self.here c.in_ok-bytes.field-0.now c.in_ok-bytes.ensures.0
    ∙ ap (take size) (stands.rest ∙ ap (λ n. drop n bytes) (sym c.at-params_at.ensures)) in
    rw (size_is, raw_bytes, c.in_ok-take_sessions.ensures.reads, params) refl
