use Rattle.std.proofs.Common.{◌≡◌, ◌++◌, List, ℕ, length, ap, ◌∙◌, arith, length-append}
use Rattle.tpm_pcap.specs.Files.{FilePlace}
use Rattle.tpm_pcap.specs.inner.Files.{reader_as}
use Rattle.tpm_pcap.proofs.Pieces.{piece_ends}
use Rattle.tpm_pcap.proofs.file.PacketFile.take.Goals as goal

pub returns-in-None : goal.returns-in-None
returns-in-None c =
    let piece = c.args.piece.now in
    let held = c.self.inside.held.items in
    let old : FilePlace = record { format = c.self.inside.format; reader = reader_as c.self.inside.reader; held = held } in
    let bytes = c.as_slice-held.result.now in
    let are : bytes ≡ held ++ piece = c.as_slice-held.ensures.value ∙ c.in_ok-extend_from_slice.ensures.items in
    let t = rw c.in-None.is at c.in_ok-used.ensures in
    rw (← c.self.view_is) (
      t.0,
      t.1,
      (
        piece_ends old bytes piece c.is_empty.result t.0 are c.is_empty.ensures t.2.0,
        omega (arith, t.2.1, ap (λ (l : List ℕ). length l) are, length-append held piece),
      ),
    )
