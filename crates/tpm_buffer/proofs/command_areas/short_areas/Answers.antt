use Rattle.std.proofs.Common.{◌≡◌, ◌++◌, List, ℕ, length, sym, ap, ◌∙◌}
use Rattle.tpm_wire.specs.Spelling.{spelling}
use Rattle.tpm_wire.specs.Buffers.{Place}
use Rattle.tpm_commands.specs.Handles.{handles}
use Rattle.tpm_buffer.specs.Commands.{header, authorization}
use Rattle.tpm_buffer.proofs.Fits.{fits_first, fits_behind, remaining_is}
use Rattle.tpm_buffer.proofs.command_areas.short_areas.Goals as goal

pub invariant_of-result : goal.invariant_of-result
invariant_of-result c =
    let before = fits_behind 0 header _ _ _ (fits_first c.args.bytes.now _ c.new-cursor.ensures c.requires) c.in_ok-header.ensures.reads in
    let behind = fits_behind 0 (handles c.in_ok-header.header.code) _ _ _ before c.in_ok-handles.ensures.reads in
    rw (c.at-params_at.ensures, remaining_is _ _ _ _ c.remaining.ensures.reads)
    (fits_behind 0 (authorization c.in_ok-header.header.tag) _ _ _ behind c.in_ok-read_authorization.ensures.reads)

pub returns-clause-spelled : goal.returns-clause-spelled
returns-clause-spelled c =
    let bytes = c.args.bytes.now in
    let begin : c.new-cursor.result.here.rest ≡ bytes = ap (λ (p : Place). p.here.rest) c.new-cursor.ensures in
    let left = remaining_is _ c.read_authorization.new.cursor.here _ _ c.remaining.ensures.reads in
    record {
      tag = c.in_ok-header.ensures.tag;
      size = c.in_ok-header.ensures.size ∙ ap length begin;
      admitted = c.in_ok-handles.ensures.admitted;
      none = c.in_ok-read_authorization.ensures.none;
      some = c.in_ok-read_authorization.ensures.some;
      text = sym begin ∙ c.in_ok-header.ensures.spelled ∙ ap (λ (r : List ℕ). spelling header c.in_ok-header.header ++ r) (
          c.in_ok-handles.ensures.spelled ∙ ap (λ (r : List ℕ). spelling (handles c.in_ok-header.header.code) c.in_ok-handles.handles.items ++ r) (
          c.in_ok-read_authorization.ensures.spelled
          ∙ ap (λ (r : List ℕ). spelling (authorization c.in_ok-header.header.tag) c.read_authorization.new.auths.items ++ r) (sym left)));
    }
