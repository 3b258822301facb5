use Rattle.std.proofs.Common.{length, ap, arith, sym, subst}
use Rattle.tpm_wire.specs.Token.{Here}
use Rattle.tpm_buffer.specs.Responses.{response_front, response_code}
use Rattle.tpm_buffer.specs.inner.ResponseAreas.{IsPlaceIn}
use Rattle.tpm_buffer.proofs.Places.{stands_first, stands_behind}
use Rattle.tpm_buffer.proofs.response_areas.take_areas.Goals as goal

pub take_behind_code-requires : goal.take_behind_code-requires
take_behind_code-requires g c =
    let first : IsPlaceIn g.bytes c.args.cursor.now.here = subst (IsPlaceIn g.bytes) (sym c.requires.1.0) (stands_first g.bytes) in
    let front : IsPlaceIn g.bytes c.take_front.new.cursor.here =
    stands_behind g.bytes 0 response_front c.args.cursor.now.here c.take_front.new.cursor.here
    (c.in_ok-tag.tag, c.in_ok-tag._size) first c.in_ok-tag.ensures.reads in
    let stands : IsPlaceIn g.bytes c.take_code.new.cursor.here =
    stands_behind g.bytes c.take_front.new.cursor.number (response_code c.in_ok-tag.tag) c.take_front.new.cursor.here
    c.take_code.new.cursor.here c.in_ok-number.number front c.in_ok-number.ensures.reads.0 in (
      stands,
      (
        omega (
          arith,
          stands.whole,
          c.in_ok-tag.ensures.length,
          c.in_ok-number.ensures.length,
          ap (λ (h : Here). h.at) c.requires.1.0,
          ap (λ (h : Here). length h.rest) c.requires.1.0,
        ),
        c.requires.1.1,
      ),
    )
