-- Streams of frames that are told one frame after the other.
use Rattle.std.proofs.Common.{◌≡◌, ℕ, ◌+◌, ◌≤◌, List, [], ◌∷◌, ◌++◌, fold, length, map, Option, Some, None, refl, sym, ap, subst}
use Rattle.std.proofs.Common.{◌∙◌, inl, inr, arith, append_assoc, length-append}
use Rattle.std.proofs.lemmas.List.Elements.{All-nil, All-push}
use Rattle.std.proofs.lemmas.List.Folds.{concat-append}
use Rattle.std.proofs.lemmas.List.Sums.{fold-append}
use Rattle.std.proofs.lemmas.List.{append-nil, map-append}
use Rattle.std.specs.List.{concat}
use Rattle.std.specs.Io.KnownBytes.{Appends, Consumes, IsAtEnd}
use Rattle.tpm_stream.specs.Frames.{IsFrame, IsBroken, BeginsNoFrame}
use Rattle.tpm_stream.proofs.Filled.{consumes_both}
use Rattle.tpm_stream.proofs.Framed.{stated_more}
use Rattle.tpm_stream.proofs.Streamed.{broken_begins}
use Rattle.tpm_output.specs.declared.status.Status.TheVariants.{Done, Refused}
use Rattle.tpm_output.specs.declared.status.Status.{Status}
use Rattle.tpm_output.specs.Status.{both}
use Rattle.tpm_output.proofs.Joins.{Joins}
use Rattle.tpm_show.specs.declared.telling.Telling.{Telling}
use Rattle.tpm_show.specs.declared.capture.Capture.{Capture}
use Rattle.tpm_show.specs.Capture.{Frame, CapturePlace, start, behind, most_bytes, TellsLine}
use Rattle.tpm_show.specs.inner.Capturing.{place, TellsNext, Streams}
use Rattle.tpm_show.specs.Reports.{IsReportOrNothing}
use Rattle.tpm_show.specs.Stream.{Ending, AtEnd, Inside, BadSize, IsEnding, unmarked_frame, ending_told, ending_status}
use Rattle.tpm_show.specs.Stream.{OfRead, TellsStream}
use Rattle.tpm_show.proofs.Captures.{both_done, tells_both, tells_one}

-- What came so far is told, and is not too much, and no read of it failed.
abbrev pub StreamGoesOn : (Told : Type 0) → (read failed failed_before : ℕ) → Type 0
StreamGoesOn Told read failed failed_before = record { told : Told; bound : read ≤ most_bytes; failures : failed ≡ failed_before }

pub appends_nothing : (a : Option (List ℕ)) → Appends a a []
appends_nothing None = tt
appends_nothing (Some l) = sym (append-nil l)

-- ---- frames

pub streams_none : (how : Telling) (a : Option (List ℕ)) (c : Capture) (A : List ℕ → Type 0) → Consumes a a [] → A [] → place c ≡ start how
    → c.status ≡ Done
    → Streams how (record { old = a; new = a; count = 0 }) c A
streams_none how a c A none added first done = record {
  frames = [];
  text = [];
  consumed = none;
  each = All-nil IsFrame;
  count = refl;
  tells = (done, refl);
  place = first;
  number = ap (λ (p : CapturePlace). p.number) first;
  fewer = omega arith;
  added = added;
}

joined : (frames : List (List ℕ)) (frame : List ℕ) → concat (frames ++ frame ∷ []) ≡ concat frames ++ frame
joined frames frame = concat-append frames (frame ∷ []) ∙ ap (λ (r : List ℕ). concat frames ++ r) (append-nil frame)

pub streams_more : (how : Telling) (old mid new : Option (List ℕ)) (read : ℕ) (frame : List ℕ) (c d : Capture) (A B C : List ℕ → Type 0) → Joins A B C
    → Streams how (record { old = old; new = mid; count = read }) c A → Consumes mid new frame → IsFrame frame → TellsNext (Frame None frame) c d B
    → Streams how (record { old = old; new = new; count = read + length frame }) d C
streams_more how old mid new read frame c d A B C joins f consumed is g =
    let lines = map unmarked_frame f.frames in
    let mapped : map unmarked_frame (f.frames ++ frame ∷ []) ≡ lines ++ Frame None frame ∷ [] = map-append unmarked_frame f.frames (frame ∷ []) in
    record {
      frames = f.frames ++ frame ∷ [];
      text = f.text ++ g.text;
      consumed = subst (Consumes old new) (sym (joined f.frames frame)) (consumes_both old mid new (concat f.frames) frame f.consumed consumed);
      each = All-push IsFrame f.frames frame f.each is;
      count = omega (arith, f.count, ap length (joined f.frames frame), length-append (concat f.frames) frame);
      tells = rw (g.all, mapped)
          (tells_both behind TellsLine (start how) lines (Frame None frame ∷ []) c.status g.status f.text g.text f.tells
          (tells_one behind TellsLine (fold behind (start how) lines) (Frame None frame) g.status g.text (rw (← f.place) g.tells)));
      place =
          g.place ∙ ap (λ (p : CapturePlace). behind p (Frame None frame)) f.place ∙ sym (fold-append behind (start how) lines (Frame None frame ∷ []))
          ∙ ap (fold behind (start how)) (sym mapped);
      number = omega (arith, ap (λ (p : CapturePlace). p.number) g.place, f.number, length-append f.frames (frame ∷ []));
      fewer = omega (arith, f.fewer, is.least, length-append f.frames (frame ∷ []));
      added = joins f.text g.text f.added g.added;
    }

-- ---- the end

both_refused : (a : Status) → both a Refused ≡ Refused
both_refused Done = refl
both_refused Refused = refl

broken_more : (rest more : List ℕ) → IsBroken rest → IsBroken (rest ++ more)
broken_more rest more b = record {
  has_size = omega (arith, b.has_size, length-append rest more);
  outside = rw (stated_more rest more b.has_size) b.outside;
}

-- of a stream whose frames were told
tells_stream : (how : Telling) (old mid : Option (List ℕ)) (read : ℕ) (c : Capture) (A : List ℕ → Type 0)
    → (f : Streams how (record { old = old; new = mid; count = read }) c A)
    → (rest : List ℕ) (ending : Ending) (last : List ℕ) → BeginsNoFrame rest → IsEnding rest ending
    → IsReportOrNothing how.form (ending_told ending c.number read) last
    → TellsStream how (concat f.frames ++ rest) (both c.status (ending_status ending)) (f.text ++ last)
tells_stream how old mid read c A f rest ending last over ends report = record {
  frames = f.frames;
  rest = rest;
  cut = record { whole = refl; each = f.each; over = over };
  ending = ending;
  ends = ends;
  one = c.status;
  told = f.text;
  tells = f.tells;
  all = refl;
  last = last;
  report = subst (λ (n : ℕ). IsReportOrNothing how.form (ending_told ending n (length (concat f.frames))) last) f.number
      (subst (λ (at_byte : ℕ). IsReportOrNothing how.form (ending_told ending c.number at_byte) last) f.count report);
  are = refl;
}

abbrev pub StreamAnswers : (how : Telling) → (old new : Option (List ℕ)) → (C : List ℕ → Type 0) → Status → Type 0
StreamAnswers how old new C status = (text : List ℕ) × OfRead old new (λ bytes. TellsStream how bytes status text) × C text

none_begins : BeginsNoFrame []
none_begins frame more is e = absurd (omega (arith, is.least, ap length e, length-append frame more))

-- behind a frame
pub stream_ends : (how : Telling) (old mid new : Option (List ℕ)) (read : ℕ) (c : Capture) (A : List ℕ → Type 0)
    → Streams how (record { old = old; new = mid; count = read }) c A → Consumes mid new [] → IsAtEnd new → StreamAnswers how old new A c.status
stream_ends how old mid new read c A f consumed end = (
  f.text,
  record {
    bytes = concat f.frames ++ [];
    read = consumes_both old mid new (concat f.frames) [] f.consumed consumed;
    holds = rw (both_done c.status, append-nil f.text) at (tells_stream how old mid read c A f [] AtEnd [] none_begins refl refl);
    whole = inl end;
  },
  f.added,
)

-- inside a frame
pub stream_cut : (how : Telling) (old mid new : Option (List ℕ)) (read : ℕ) (rest last : List ℕ) (c : Capture) (A B C : List ℕ → Type 0) → Joins A B C
    → Streams how (record { old = old; new = mid; count = read }) c A → Consumes mid new rest
    → IsEnding rest Inside → IsAtEnd new → IsReportOrNothing how.form (ending_told Inside c.number read) last → B last → StreamAnswers how old new C Refused
stream_cut how old mid new read rest last c A B C joins f consumed ends end report added = (
  f.text ++ last,
  record {
    bytes = concat f.frames ++ rest;
    read = consumes_both old mid new (concat f.frames) rest f.consumed consumed;
    holds = subst (λ (s : Status). TellsStream how (concat f.frames ++ rest) s (f.text ++ last)) (both_refused c.status)
        (tells_stream how old mid read c A f rest Inside last ends.0.no_frame ends report);
    whole = inl end;
  },
  joins f.text last f.added added,
)

-- at a size that no frame has
pub stream_breaks : (how : Telling) (old mid new : Option (List ℕ)) (read : ℕ) (rest last : List ℕ) (c : Capture) (A B C : List ℕ → Type 0) → Joins A B C
    → Streams how (record { old = old; new = mid; count = read }) c A → Consumes mid new rest
    → IsBroken rest → IsReportOrNothing how.form (ending_told BadSize c.number read) last → B last → StreamAnswers how old new C Refused
stream_breaks how old mid new read rest last c A B C joins f consumed broken report added =
    let whole : (more : List ℕ) → TellsStream how (concat f.frames ++ (rest ++ more)) Refused (f.text ++ last) =
    λ more. subst (λ (s : Status). TellsStream how (concat f.frames ++ (rest ++ more)) s (f.text ++ last)) (both_refused c.status)
    (tells_stream how old mid read c A f (rest ++ more) BadSize last (broken_begins rest more broken) (broken_more rest more broken) report) in (
      f.text ++ last,
      record {
        bytes = concat f.frames ++ rest;
        read = consumes_both old mid new (concat f.frames) rest f.consumed consumed;
        holds = subst (λ (r : List ℕ). TellsStream how (concat f.frames ++ r) Refused (f.text ++ last)) (append-nil rest) (whole []);
        whole = inr (λ more. rw (append_assoc (concat f.frames) rest more) (whole more));
      },
      joins f.text last f.added added,
    )
