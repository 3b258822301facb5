use Rattle.std.proofs.Common.{◌≡◌, ◌∙◌, ◌-◌, ◌+◌, ◌++◌, ℕ, List, drop, length, subst, take}
use Rattle.tpm_lists.specs.declared.allow_file.ListReader.{ListReader}
use Rattle.tpm_lists.specs.inner.ListReading.{IsRead, ReadsOn}
use Rattle.tpm_lists.proofs.ListReading.{cut_at_feed, read_ended, where_done}
use Rattle.tpm_lists.proofs.allow_file.ListReaderPieceSink.take.Goals as goal

pub returns : goal.returns
returns c =
    let r = c.args.self.now in
    let piece = c.args.piece.now in
    let last = c.in-Some.last in
    let first = take last piece in
    let behind = take (length piece - (last + 1)) (drop (last + 1) piece) in
    let s : ListReader = record { ended = c.read.new.self; held = c.extend_from_slice-3.new.self } in
    let on : ReadsOn r.ended s.ended (r.held.items ++ first) =
    subst (ReadsOn r.ended s.ended) (c.as_slice.ensures.value ∙ c.in_ok-extend_from_slice.ensures.items) c.in_ok-read.ensures in
    where_done c.extend_from_slice-3.result _ (λ done. λ bytes read.
    let held : s.held.items ≡ behind = rw (done, c.clear.ensures.items) at c.extend_from_slice-3.ensures.items in
    subst (λ (whole : List ℕ). IsRead (bytes ++ whole) s) (cut_at_feed piece last c.in-Some.ensures.0.high c.in-Some.ensures.1)
    (read_ended bytes r read s first behind on held))
