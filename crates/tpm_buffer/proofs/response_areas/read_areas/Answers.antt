use Rattle.std.proofs.Common.{◌≡◌, ap, subst, rules}
use Rattle.tpm_wire.specs.Buffers.{Place}
use Rattle.tpm_buffer.specs.inner.ResponseAreas.{LiesIn}
use Rattle.tpm_buffer.proofs.ReadSessions.{has_params}
use Rattle.tpm_buffer.proofs.response_areas.read_areas.Goals as goal

pub invariant_of-result : goal.invariant_of-result
invariant_of-result c =
    let begin : c.new-cursor.result.here.rest ≡ c.args.bytes.now = ap (λ (p : Place). p.here.rest) c.new-cursor.ensures in
    let lies = subst (λ bytes. LiesIn bytes c.in_ok-front.front c.take_areas.new.auths.items) begin c.in_ok-front.ensures.place in
    search rules

pub returns-clause-place : goal.returns-clause-place
returns-clause-place c =
    let bytes = c.args.bytes.now in
    let f = c.in_ok-front.front in
    let begin : c.new-cursor.result.here.rest ≡ bytes = ap (λ (p : Place). p.here.rest) c.new-cursor.ensures in
    let lies = subst (λ bytes. LiesIn bytes f c.take_areas.new.auths.items) begin c.in_ok-front.ensures.place in
    has_params bytes f.params_size f.params_at _ lies.1 lies.0
