-- What went over a port, told one after the other.
use Rattle.std.proofs.Common.{◌≡◌, ◌⊎◌, ℕ, ◌+◌, ◌≤◌, ◌<◌, ◌==◌, Bool, true, false, List, [], ◌∷◌, ◌++◌, length, take, Option, Some, None, inl, inr}
use Rattle.std.proofs.Common.{refl, sym, ap, subst, ◌∙◌, arith, append_assoc, fold, length-append, length-take-le}
use Rattle.std.specs.Prelude.{zero, suc, ◌&&◌, OnSome}
use Rattle.std.specs.Io.KnownBytes.{Consumes, IsAtEnd}
use Rattle.tpm_stream.proofs.Filled.{consumes_both}
use Rattle.std.proofs.lemmas.Bool.{cases_lt, eqb-true, ne_eqb}
use Rattle.std.proofs.lemmas.List.Sums.{fold-append}
use Rattle.std.proofs.lemmas.List.{append-nil, nil_from_length}
use Rattle.tpm_pcap.specs.Entries.{Entry, Connection, Untold}
use Rattle.tpm_pcap.specs.Entries as went
use Rattle.tpm_output.specs.Reads.{ReadsUpTo}
use Rattle.tpm_pcap.specs.Files.{Entries, FilePlace, TakesPiece, Traffic, left_told, traffic_in}
use Rattle.tpm_pcap.specs.Heads.{IsHead}
use Rattle.tpm_output.specs.declared.status.Status.TheVariants.{Done, Refused}
use Rattle.tpm_output.specs.declared.status.Status.{Status}
use Rattle.tpm_output.specs.Status.{both}
use Rattle.tpm_output.proofs.Joins.{Joins}
use Rattle.tpm_show.specs.declared.capture.Capture.{Capture}
use Rattle.tpm_show.specs.declared.telling.Telling.{Telling}
use Rattle.tpm_show.specs.Capture.{CapturePlace, start}
use Rattle.tpm_show.specs.inner.Capturing.{place}
use Rattle.tpm_show.specs.Packets.{behind_entry, OfReadUpTo, TellsEntry, TellsEntries, TellsPackets, TellsTraffic}
use Rattle.tpm_show.specs.Packets.{most_packets}
use Rattle.tpm_show.specs.Reports.{IsReport, fault_told, no_packet}
use Rattle.tpm_show.specs.inner.PacketsTold.{TellsMany, TellsOne, TellsSoFar}
use Rattle.tpm_show.proofs.Captures.{both_assoc, both_done, tells_both, tells_one}

-- A frame alone has a number.
at_most : (p : CapturePlace) (e : Entry) → (behind_entry p e).number ≤ p.number + 1
at_most p Connection = omega arith
at_most p (went.Command stamp bytes) = omega arith
at_most p (went.Reply stamp bytes) = omega arith
at_most p (Untold packet reason) = omega arith

-- Nothing begins more than one connection.
connections_at_most : (p : CapturePlace) (e : Entry) → (behind_entry p e).passage.connection ≤ p.passage.connection + 1
connections_at_most p Connection = omega arith
connections_at_most p (went.Command stamp bytes) = omega arith
connections_at_most p (went.Reply stamp bytes) = omega arith
connections_at_most p (Untold packet reason) = omega arith

pub many_none : (c : Capture) (A : List ℕ → Type 0) → A [] → TellsMany [] c c A
many_none c A none = record {
  status = Done;
  text = [];
  tells = (refl, refl);
  added = none;
  place = refl;
  all = sym (both_done c.status);
  number = omega arith;
  connection = omega arith;
}

pub many_one : (e : Entry) (d n : Capture) (B : List ℕ → Type 0) → TellsOne e d n B → TellsMany (e ∷ []) d n B
many_one e d n B g = record {
  status = g.status;
  text = g.text;
  tells = tells_one behind_entry TellsEntry (place d) e g.status g.text g.tells;
  added = g.added;
  place = g.place;
  all = g.all;
  number = omega (arith, ap (λ (p : CapturePlace). p.number) g.place, at_most (place d) e);
  connection = omega (arith, ap (λ (p : CapturePlace). p.passage.connection) g.place, connections_at_most (place d) e);
}

pub many_both : (xs ys : List Entry) (c d n : Capture) (A B C : List ℕ → Type 0) → Joins A B C → TellsMany xs c d A → TellsMany ys d n B
    → TellsMany (xs ++ ys) c n C
many_both xs ys c d n A B C joins f g = record {
  status = both f.status g.status;
  text = f.text ++ g.text;
  tells = tells_both behind_entry TellsEntry (place c) xs ys f.status g.status f.text g.text f.tells (rw (← f.place) g.tells);
  added = joins f.text g.text f.added g.added;
  place = g.place ∙ ap (λ (p : CapturePlace). fold behind_entry p ys) f.place ∙ sym (fold-append behind_entry (place c) xs ys);
  all = g.all ∙ ap (λ (s : Status). both s g.status) f.all ∙ both_assoc c.status f.status g.status;
  number = omega (arith, f.number, g.number, length-append xs ys);
  connection = omega (arith, f.connection, g.connection, length-append xs ys);
}

-- ---- a file that comes in pieces

pub so_far_none : (p : FilePlace) (c : Capture) (A : List ℕ → Type 0) → A []
    → TellsSoFar (record { first = p; bytes = []; last = p; told = [] }) c c A
so_far_none p c A none = record {
  left = λ rest. refl;
  few = omega arith;
  number = omega arith;
  tells = many_none c A none;
}

pub so_far_more : (p q r : FilePlace) (bytes piece : List ℕ) (before told : List Entry) (b d n : Capture) (A B C : List ℕ → Type 0)
    → Joins A B C → TellsSoFar (record { first = p; bytes = bytes; last = q; told = before }) b d A
    → TakesPiece (record { old = q; piece = piece; new = r; told = told }) true → TellsMany told d n B
    → TellsSoFar (record { first = p; bytes = bytes ++ piece; last = r; told = before ++ told }) b n C
so_far_more p q r bytes piece before told b d n A B C joins f takes g = record {
  left = λ rest. ap (λ (l : List ℕ). left_told p l) (append_assoc bytes piece rest) ∙ f.left (piece ++ rest)
      ∙ ap (λ (others : List Entry). before ++ others) (takes.left rest)
      ∙ sym (append_assoc before told (left_told r rest));
  few = omega (arith, f.few, takes.few, length-append before told, length-append bytes piece);
  number = omega (arith, f.number, takes.number, length-append bytes piece);
  tells = many_both before told b d n A B C joins f.tells g;
}

-- Nothing is told by both where nothing is by each.
pub silent_both : (a : Bool) (xs ys : List Entry) → a ≡ (length xs == 0) → (a && (length ys == 0)) ≡ (length (xs ++ ys) == 0)
silent_both a [] ys is = rw is refl
silent_both a (x ∷ xs) ys is =
    let some : (length (x ∷ xs) == 0) ≡ false = ne_eqb (length (x ∷ xs)) 0 (λ e. omega (arith, e)) in
    let any : (length (x ∷ (xs ++ ys)) == 0) ≡ false = ne_eqb (length (x ∷ (xs ++ ys))) 0 (λ e. omega (arith, e)) in
    rw (is, some, any) refl

-- The last piece: what is told with it is told whatever comes behind it, or nothing comes.
pub last_told : (p q r : FilePlace) (bytes piece : List ℕ) (before told : List Entry) (b d : Capture) (A : List ℕ → Type 0)
    → TellsSoFar (record { first = p; bytes = bytes; last = q; told = before }) b d A
    → TakesPiece (record { old = q; piece = piece; new = r; told = told }) false
    → (rest : List ℕ) → (piece ≡ [] → rest ≡ []) → left_told p ((bytes ++ piece) ++ rest) ≡ before ++ told
last_told p q r bytes piece before told b d A f takes rest end =
    ap (λ (l : List ℕ). left_told p l) (append_assoc bytes piece rest) ∙ f.left (piece ++ rest)
    ∙ ap (λ (others : List Entry). before ++ others) (takes.0 rest end)

-- ---- what was read

nothing_or_some : (piece : List ℕ) → (piece ≡ []) ⊎ (piece ≡ [] → ⊥)
nothing_or_some [] = inl refl
nothing_or_some (x ∷ xs) = inr (λ e. absurd (omega (arith, ap (λ (l : List ℕ). length l) e)))

on_some : (a : Option (List ℕ)) (P : Type 0) → P → OnSome a P
on_some None P p = tt
on_some (Some l) P p = p

-- These bytes are all, or so many, or it holds whatever comes behind them.
abbrev pub IsWhole : (Holds : List ℕ → Type 0) (old new : Option (List ℕ)) (most : ℕ) (bytes : List ℕ) → Type 0
IsWhole Holds old new most bytes = OnSome old (IsAtEnd new) ⊎ ((length bytes ≡ most) ⊎ ((more : List ℕ) → Holds (bytes ++ more)))

-- So it holds of the bytes that were read.
pub of_read : (Holds : List ℕ → Type 0) (old mid new : Option (List ℕ)) (most : ℕ) (bytes piece : List ℕ)
    → ((rest : List ℕ) → (piece ≡ [] → rest ≡ []) → Holds ((bytes ++ piece) ++ rest))
    → Consumes old mid bytes → Consumes mid new piece → length bytes + length piece ≤ most
    → (piece ≡ [] → IsAtEnd new ⊎ (length bytes ≡ most)) → OfReadUpTo most old new Holds
of_read Holds old mid new most bytes piece holds first second few end = record {
  bytes = bytes ++ piece;
  read = consumes_both old mid new bytes piece first second;
  most = omega (arith, few, length-append bytes piece);
  holds = subst Holds (append-nil (bytes ++ piece)) (holds [] (λ _. refl));
  whole = whole (nothing_or_some piece);
}
  where
    at_end : piece ≡ [] → IsAtEnd new ⊎ (length bytes ≡ most) → IsWhole Holds old new most (bytes ++ piece)
    at_end none (inl e) = inl (on_some old (IsAtEnd new) e)
    at_end none (inr e) = inr (inl (omega (arith, e, ap (λ (l : List ℕ). length l) none, length-append bytes piece)))

    whole : (piece ≡ []) ⊎ (piece ≡ [] → ⊥) → IsWhole Holds old new most (bytes ++ piece)
    whole (inl none) = at_end none (end none)
    whole (inr some) = inr (inr (λ more. holds more (λ none. absurd (some none))))

-- A read that gave nothing met the end, or there was no room.
pub ends_at : (new : Option (List ℕ)) (room : List ℕ) (count left before most : ℕ) → count ≤ length room
    → (count ≡ 0 → 0 < length room → IsAtEnd new) → (0 < left → 0 < length room) → before + left ≡ most
    → take count room ≡ [] → IsAtEnd new ⊎ (before ≡ most)
ends_at new room count zero before most within met room_left all none = inr (omega (arith, all))
ends_at new room count (suc left) before most within met room_left all none =
    inl (met (omega (arith, ap (λ (l : List ℕ). length l) none, length-take-le count room within)) (room_left (omega arith)))

-- Where nothing went over the port that is told, and else all of it.
pub none_told : (how : Telling) (port : ℕ) (entries : List Entry) (text : List ℕ) → (length entries == 0) ≡ true
    → IsReport how.form false (fault_told (no_packet port)) text → TellsTraffic how port (Entries entries) Refused text
none_told how port [] text none f = (refl, f)
none_told how port (x ∷ xs) text none f = absurd (omega (arith, eqb-true (length (x ∷ xs)) 0 none))

pub some_told : (how : Telling) (port : ℕ) (entries : List Entry) (status : Status) (text : List ℕ) → (length entries == 0) ≡ false
    → TellsEntries (start how) entries status text → TellsTraffic how port (Entries entries) status text
some_told how port [] status text some f = let none : ⊥ = cc (some) in absurd none
some_told how port (x ∷ xs) status text some f = f

pub told_all : (how : Telling) (port : ℕ) (c d : Capture) (xs : List Entry) (A : List ℕ → Type 0) → place c ≡ start how → c.status ≡ Done
    → (length xs == 0) ≡ false → (f : TellsMany xs c d A) → TellsTraffic how port (Entries xs) d.status f.text
told_all how port c d xs A first done some f =
    let status : d.status ≡ f.status = f.all ∙ ap (λ (s : Status). both s f.status) done in
    let tells : TellsEntries (start how) xs f.status f.text =
    subst (λ (p : CapturePlace). TellsEntries p xs f.status f.text) first f.tells in
    subst (λ (s : Status). TellsTraffic how port (Entries xs) s f.text) (sym status) (some_told how port xs f.status f.text some tells)

pub nothing_told : (xs : List Entry) (c d : Capture) (A : List ℕ → Type 0) → (length xs == 0) ≡ true → TellsMany xs c d A → A []
nothing_told [] c d A none f = subst A f.tells.1 f.added
nothing_told (x ∷ xs) c d A none f = absurd (omega (arith, eqb-true (length (x ∷ xs)) 0 none))

-- ---- the head of a file

module _ (how : Telling) (port : ℕ) (old mid : Option (List ℕ)) (head : List ℕ) (status : Status) (text : List ℕ) (read : ReadsUpTo 24 old mid head) where
  abbrev pub Told : List ℕ → Type 0
  Told bytes = TellsPackets how port bytes status text

  end_of_head : IsAtEnd mid ⊎ (length head ≡ 24) → OnSome old (IsAtEnd mid) ⊎ (24 ≤ length head)
  end_of_head (inl e) = inl (on_some old (IsAtEnd mid) e)
  end_of_head (inr e) = inr (omega (arith, e))

  -- The file is no capture, or of a link that is not known.
  pub of_head : (found : List ℕ → Traffic) (t : Traffic) → ((rest : List ℕ) → IsHead head rest → found rest ≡ traffic_in port (head ++ rest))
      → ((rest : List ℕ) → found rest ≡ t) → TellsTraffic how port t status text
      → OfReadUpTo most_packets old mid Told
  of_head found t told same tells = record {
    bytes = head;
    read = read.read;
    most = omega (arith, read.most);
    holds = subst Told (append-nil head) (holds [] (inr refl));
    whole = whole (end_of_head read.whole);
  }
    where
      holds : (rest : List ℕ) → IsHead head rest → Told (head ++ rest)
      holds rest h = subst (λ (u : Traffic). TellsTraffic how port u status text) (sym (same rest) ∙ told rest h) tells

      whole : OnSome old (IsAtEnd mid) ⊎ (24 ≤ length head) → IsWhole Told old mid most_packets head
      whole (inl e) = inl e
      whole (inr full) = inr (inr (λ more. holds more (inl full)))

  at_last : (new old mid : Option (List ℕ)) (xs : List ℕ) → Consumes old mid xs → IsAtEnd mid → Consumes mid new [] → OnSome old (IsAtEnd new)
  at_last new None mid xs first end second = tt
  at_last new (Some l) None xs first end second = absurd first
  at_last None (Some l) (Some m) xs first end second = absurd second
  at_last (Some n) (Some l) (Some m) xs first end second = sym second ∙ end

  -- the rest of a file that is a capture
  pub of_rest : (file : FilePlace) (most : ℕ) (new : Option (List ℕ))
      → ((rest : List ℕ) → IsHead head rest → Entries (left_told file rest) ≡ traffic_in port (head ++ rest))
      → (length head < 24 → most ≡ 0) → (24 ≤ length head → most ≡ 1073741800) → (entries : List Entry)
      → OfReadUpTo most mid new (λ (bytes : List ℕ). left_told file bytes ≡ entries)
      → TellsTraffic how port (Entries entries) status text → OfReadUpTo most_packets old new Told
  of_rest file most new told short long entries s tells = go (cases_lt (length head) 24) read.whole
    where
      holds : (rest : List ℕ) → IsHead head rest → left_told file rest ≡ entries → Told (head ++ rest)
      holds rest h same =
          subst (λ (u : Traffic). TellsTraffic how port u status text) (sym (ap (λ (l : List Entry). Entries l) same) ∙ told rest h) tells

      from_mid : (a b : Option (List ℕ)) → Consumes a b head → OnSome b (IsAtEnd new) → OnSome a (IsAtEnd new)
      from_mid None b first e = tt
      from_mid (Some l) None first e = absurd first
      from_mid (Some l) (Some m) first e = e

      whole : 24 ≤ length head → IsWhole (λ (bytes : List ℕ). left_told file bytes ≡ entries) mid new most s.bytes
          → IsWhole Told old new most_packets (head ++ s.bytes)
      whole many (inl e) = inl (from_mid old mid read.read e)
      whole many (inr (inl e)) = inr (inl (omega (arith, e, many, read.most, long many, length-append head s.bytes)))
      whole many (inr (inr f)) = inr (inr (λ more. subst Told
          (sym (append_assoc head s.bytes more)) (holds (s.bytes ++ more) (inl many) (f more))))

      nothing : length head < 24 → s.bytes ≡ []
      nothing few = nil_from_length s.bytes (omega (arith, s.most, short few))

      go : (length head < 24) ⊎ (24 ≤ length head) → IsAtEnd mid ⊎ (length head ≡ 24) → OfReadUpTo most_packets old new Told
      go (inl few) (inr full) = absurd (omega (arith, few, full))
      go (inl few) (inl end) = record {
        bytes = head ++ s.bytes;
        read = consumes_both old mid new head s.bytes read.read s.read;
        most = omega (arith, few, s.most, short few, length-append head s.bytes);
        holds = holds s.bytes (inr (nothing few)) s.holds;
        whole = inl (at_last new old mid head read.read end (subst (λ (l : List ℕ). Consumes mid new l) (nothing few) s.read));
      }
      go (inr many) w = record {
        bytes = head ++ s.bytes;
        read = consumes_both old mid new head s.bytes read.read s.read;
        most = omega (arith, read.most, s.most, long many, length-append head s.bytes);
        holds = holds s.bytes (inl many) s.holds;
        whole = whole many s.whole;
      }
