-- What a file is, by its first bytes, whatever comes behind them.
use Rattle.std.proofs.Common.{◌≡◌, ℕ, ◌≤◌, ◌%◌, List, [], ◌++◌, length, take, drop, Option, None, Result, Ok, Err, inl, inr, refl, sym, ap, ◌∙◌}
use Rattle.std.proofs.Common.{arith, length-drop}
use Rattle.std.proofs.lemmas.List.{append-nil}
use Rattle.std.specs.Int.{w32}
use Rattle.std.specs.Result.{result_unwrap_or}
use Rattle.tpm_pcap.specs.declared.entry.Reason.{Reason}
use Rattle.tpm_pcap.specs.declared.numbers.Order.TheVariants.{Big}
use Rattle.tpm_pcap.specs.declared.numbers.Order.{Order}
use Rattle.tpm_pcap.specs.declared.savefile.Header.{Header}
use Rattle.tpm_pcap.specs.Files.{savefile_by, savefile_traffic, traffic_by, traffic_in}
use Rattle.tpm_pcap.specs.Heads.{IsHead}
use Rattle.tpm_pcap.specs.Numbers.{◌>>=◌, Fields, cut, field, number}
use Rattle.tpm_pcap.specs.Pcapng.{order_of}
use Rattle.tpm_pcap.specs.Savefiles.{header_in, units_of}
use Rattle.tpm_pcap.proofs.Fronts.{cut_front, cut_is, field_front, field_is}

-- ---- pcapng

order_behind : (head rest : List ℕ) → IsHead head rest → order_of (head ++ rest) ≡ order_of head
unfolding order_of
order_behind head rest (inl many) =
    let second = drop 4 head in
    let third = drop 4 second in
    let le : 4 ≤ length head = omega (arith, many) in
    let le_second : 4 ≤ length second = omega (arith, many, length-drop 4 head) in
    let le_third : 4 ≤ length third = omega (arith, many, length-drop 4 head, length-drop 4 second) in
    rw (
      field_front Big w32 head rest le,
      field_front Big w32 second rest le_second,
      field_front Big w32 third rest le_third,
      field_is Big w32 head le,
      field_is Big w32 second le_second,
      field_is Big w32 third le_third,
    ) refl
order_behind head rest (inr none) = rw (none, append-nil head) refl

pub by_order : (port : ℕ) (head rest : List ℕ) (o : Option Order) → IsHead head rest → result_unwrap_or (order_of head) None ≡ o
    → traffic_in port (head ++ rest) ≡ traffic_by port o (head ++ rest)
by_order port head rest o h is =
    ap (λ (p : Result (Option Order) Reason). traffic_by port (result_unwrap_or p None) (head ++ rest)) (order_behind head rest h)
    ∙ ap (λ (p : Option Order). traffic_by port p (head ++ rest)) is

-- ---- libpcap

-- with these bytes behind the header, too
abbrev pub with_behind : List ℕ → Fields Header → Fields Header
with_behind rest (Ok header) = Ok (header.0, header.1 ++ rest)
with_behind rest (Err reason) = Err reason

with_none : (header : Fields Header) → with_behind [] header ≡ header
with_none (Ok header) = rw (append-nil header.1) refl
with_none (Err reason) = refl

abbrev header_by : Order × ℕ → List ℕ → Fields Header
header_by units bytes = do
  others ← cut 16 bytes
  link ← field units.0 w32 others.1
  Ok (record { order = units.0; per_second = units.1; link = link.0 % 65536 }, link.1)

by_behind : (units : Result (Order × ℕ) Reason) (xs ys : List ℕ) → 20 ≤ length xs
    → (units >>= λ u. header_by u (xs ++ ys)) ≡ with_behind ys (units >>= λ u. header_by u xs)
by_behind (Err reason) xs ys le = refl
by_behind (Ok units) xs ys le =
    let link = drop 16 xs in
    let le_others : 16 ≤ length xs = omega (arith, le) in
    let le_link : 4 ≤ length link = omega (arith, le, length-drop 16 xs) in
    rw (cut_front 16 xs ys le_others, field_front units.0 w32 link ys le_link, cut_is 16 xs le_others, field_is units.0 w32 link le_link) refl

header_behind : (head rest : List ℕ) → IsHead head rest → header_in (head ++ rest) ≡ with_behind rest (header_in head)
unfolding header_in
header_behind head rest (inl many) =
    let le : 4 ≤ length head = omega (arith, many) in
    rw (field_front Big w32 head rest le, field_is Big w32 head le)
    (by_behind (units_of (number Big w32 (take 4 head))) (drop 4 head) rest (omega (arith, many, length-drop 4 head)))
header_behind head rest (inr none) = rw (none, append-nil head) (sym (with_none (header_in head)))

pub savefile_behind : (port : ℕ) (head rest : List ℕ) (header : Fields Header) → IsHead head rest → header_in head ≡ header
    → savefile_traffic port (head ++ rest) ≡ savefile_by port (with_behind rest header)
savefile_behind port head rest header h is =
    ap (λ (f : Fields Header). savefile_by port f) (header_behind head rest h ∙ ap (with_behind rest) is)
