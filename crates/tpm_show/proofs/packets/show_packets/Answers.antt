use Rattle.std.proofs.Common.{rules, ◌≡◌, ◌≤◌, ◌<◌, ◌==◌, ℕ, List, [], ◌++◌, length, refl, true, false}
use Rattle.std.proofs.lemmas.Result.{IfOk-weaker}
use Rattle.tpm_pcap.specs.Files.{Entries, NoCapture, OtherLink, left_told, traffic_in}
use Rattle.tpm_pcap.specs.Heads.{IsHead}
use Rattle.tpm_output.proofs.Joins.{joins_appends}
use Rattle.tpm_show.proofs.EntriesTold.{none_told, nothing_told, of_head, of_rest, told_all}
use Rattle.tpm_show.proofs.packets.show_packets.Goals.{then-len-lt-HEAD, else-len-lt-HEAD}
use Rattle.tpm_show.proofs.packets.show_packets.Goals as goal

pub returns-in-NoCapture-clause-ok : goal.returns-in-NoCapture-clause-ok
returns-in-NoCapture-clause-ok g c =
    let coming = g.R.Source.coming in
    let told = rw (c.in-NoCapture.is, c.as_slice.ensures.value) at c.in_ok-read_head.ensures.told in
    IfOk-weaker c.print_remark.result _ _ (λ status f. (
      f.1,
      of_head c.args.how c.args.port (coming c.args.input.now) (coming c.read_up_to.new.source) c.in_ok-head.head.items status f.1
          c.in_ok-head.ensures.ok (λ _. NoCapture) NoCapture told (λ _. refl) (f.0, f.2),
      f.3,
    )) c.print_remark.ensures.ok

pub returns-in-OtherLink-clause-ok : goal.returns-in-OtherLink-clause-ok
returns-in-OtherLink-clause-ok g c =
    let coming = g.R.Source.coming in
    let number = c.in-OtherLink.number in
    let told = rw (c.in-OtherLink.is, c.as_slice.ensures.value) at c.in_ok-read_head.ensures.told in
    IfOk-weaker c.print_remark-in-OtherLink.result _ _ (λ status f. (
      f.1,
      of_head c.args.how c.args.port (coming c.args.input.now) (coming c.read_up_to.new.source) c.in_ok-head.head.items status f.1
          c.in_ok-head.ensures.ok (λ _. OtherLink number) (OtherLink number) told (λ _. refl) (f.0, f.2),
      f.3,
    )) c.print_remark-in-OtherLink.ensures.ok

pub returns-then-silent-clause-ok : goal.returns-then-silent-clause-ok
returns-then-silent-clause-ok g c =
    let coming = g.R.Source.coming in
    let contents = g.W.Write.contents in
    let head = c.in_ok-head.head.items in
    let most = c.if-len-lt-HEAD.most in
    let told : (rest : List ℕ) → IsHead head rest → Entries (left_told c.in-Packets.file rest) ≡ traffic_in c.args.port (head ++ rest) =
    rw (c.in-Packets.is, c.as_slice.ensures.value) at c.in_ok-read_head.ensures.told in
    let short : length head < 24 → most ≡ 0 =
    elim c.if-len-lt-HEAD.branch [ then-len-lt-HEAD w ↦ search rules | else-len-lt-HEAD w ↦ search rules ] in
    let long : 24 ≤ length head → most ≡ 1073741800 =
    elim c.if-len-lt-HEAD.branch [ then-len-lt-HEAD w ↦ search rules | else-len-lt-HEAD w ↦ search rules ] in
    let f = c.in_ok-silent-in-Packets.ensures.ok in
    let nothing : (length f.0 == 0) ≡ true = search rules in
    IfOk-weaker c.print_remark-then-silent.result _ _ (λ status p. (
      p.1,
      of_rest c.args.how c.args.port (coming c.args.input.now) (coming c.read_up_to.new.source) head status p.1 c.in_ok-head.ensures.ok
          c.in-Packets.file most (coming c.print_traffic.new.input) told short long f.0 f.1
          (rw p.0 (none_told c.args.how c.args.port f.0 p.1 nothing p.2)),
      joins_appends (contents c.args.out.now) (contents c.print_traffic.new.out) (contents c.print_remark-then-silent.new.out) [] p.1
          (nothing_told f.0 c.new-capture.result c.print_traffic.new.capture _ nothing f.2) p.3,
    )) c.print_remark-then-silent.ensures.ok

pub returns-clause-ok : goal.returns-clause-ok
returns-clause-ok g c =
    let coming = g.R.Source.coming in
    let contents = g.W.Write.contents in
    let head = c.in_ok-head.head.items in
    let most = c.if-len-lt-HEAD.most in
    let told : (rest : List ℕ) → IsHead head rest → Entries (left_told c.in-Packets.file rest) ≡ traffic_in c.args.port (head ++ rest) =
    rw (c.in-Packets.is, c.as_slice.ensures.value) at c.in_ok-read_head.ensures.told in
    let short : length head < 24 → most ≡ 0 =
    elim c.if-len-lt-HEAD.branch [ then-len-lt-HEAD w ↦ search rules | else-len-lt-HEAD w ↦ search rules ] in
    let long : 24 ≤ length head → most ≡ 1073741800 =
    elim c.if-len-lt-HEAD.branch [ then-len-lt-HEAD w ↦ search rules | else-len-lt-HEAD w ↦ search rules ] in
    let f = c.in_ok-silent-in-Packets.ensures.ok in
    let some : (length f.0 == 0) ≡ false = search rules in (
      f.2.text,
      of_rest c.args.how c.args.port (coming c.args.input.now) (coming c.read_up_to.new.source) head c.print_traffic.new.capture.status f.2.text
          c.in_ok-head.ensures.ok c.in-Packets.file most (coming c.print_traffic.new.input) told short long f.0 f.1
          (told_all c.args.how c.args.port c.new-capture.result c.print_traffic.new.capture f.0 _ c.new-capture.ensures.place
          c.new-capture.ensures.status some f.2),
      f.2.added,
    )
