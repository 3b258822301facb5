-- What is printed of a log, a list of registers and a quote.
use Rattle.std.proofs.Common.{◌≡◌, ℕ, List, Option, Some, None, Result, Ok, Err, refl, sym, subst, inr}
use Rattle.std.specs.Prelude.{IsErrOf, MatchOption}
use Rattle.tpm_wire.specs.Sources.{one_more}
use Rattle.tpm_log.specs.declared.fault.LogFault.{LogFault}
use Rattle.tpm_log.specs.declared.fault.LogFaultKind.{LogFaultKind}
use Rattle.tpm_log.specs.Records.{LogRecord}
use Rattle.tpm_log.specs.Replays.{ReplaysFrom, OnDevice}
use Rattle.tpm_log.specs.Takes.{IsOfBytes}
use Rattle.tpm_log.specs.declared.fault.LogFaultKind.TheVariants as kinds
use Rattle.tpm_output.specs.declared.fault.ToolFault.TheVariants.{Read, InputTooLong}
use Rattle.tpm_output.specs.declared.fault.ToolFault.{ToolFault}
use Rattle.tpm_output.specs.Faults.{FailsByMemoryOrWrite}
use Rattle.tpm_output.specs.InputLines.{CountsRead}
use Rattle.tpm_check.specs.Check.{CountsReads, FailsLast}

-- ---- what may be there

pub by_none : {X : Type 0} (o : Option X) (P : Type 0) (Q : X → Type 0) → o ≡ None → P → MatchOption o P Q
by_none o P Q is p = subst (λ x. MatchOption x P Q) (sym is) p

pub by_some : {X : Type 0} (o : Option X) (x : X) (P : Type 0) (Q : X → Type 0) → o ≡ Some x → Q x → MatchOption o P Q
by_some o x P Q is q = subst (λ p. MatchOption p P Q) (sym is) q

-- ---- reads that fail

-- What fails by memory or by a write fails neither by its length
pub not_too_long : {X : Type 0} (r : Result X ToolFault) → FailsByMemoryOrWrite r → IsErrOf r InputTooLong → ⊥
not_too_long r f is = rw is at f

-- nor by a read.
pub not_read : {X : Type 0} (r : Result X ToolFault) → FailsByMemoryOrWrite r → IsErrOf r Read → ⊥
not_read r f is = rw is at f

module _ {X : Type 0} (log log-2 list : ℕ) where
  -- nothing of a list was read
  pub counts_alone : (r : Result X ToolFault) → FailsByMemoryOrWrite r → log-2 ≡ log
      → CountsReads (record { log = log; log-behind = log-2; list = list; list-behind = list }) r
  counts_alone (Err Read) f same = absurd f
  counts_alone (Err InputTooLong) f same = absurd f
  counts_alone _ f same = (same, refl)

  -- a list was read, if there is one
  pub counts_list : (list-2 : ℕ) (r : Result X ToolFault) → CountsRead list list-2 r → log-2 ≡ log
      → CountsReads (record { log = log; log-behind = log-2; list = list; list-behind = list-2 }) r
  counts_list list-2 (Err Read) f same = inr (same, f, tt)
  counts_list list-2 _ f same = (same, f)

  -- The read of a list that failed is the last.
  pub list_last : (list-2 : ℕ) (OfLog OfList : Type 0) (r : Result X ToolFault) → CountsRead list list-2 r → (IsErrOf r Read → OfList)
      → log-2 ≡ log → IsErrOf r Read
      → FailsLast (record { log = log; log-behind = log-2; list = list; list-behind = list-2 }) OfLog OfList
  list_last list-2 OfLog OfList (Err Read) f ends same is = inr (same, f, ends is)
  list_last list-2 OfLog OfList _ f ends same is = absurd cc

-- ---- the log

module _ {X : Type 0} (P : List LogRecord → X → Type 0) (coming : Option (List ℕ)) (old new : ℕ) where
  pub replayed : (x : X) → ReplaysFrom P (record { coming = coming; failed = old; failed-behind = new }) (Ok x) → new ≡ old
  replayed x f = f.0

pub of_bytes : (kind : LogFaultKind) → (kind ≡ kinds.Device → ⊥) → IsOfBytes kind
of_bytes kinds.Device f = f refl
of_bytes _ f = tt

other_kind : (kind : LogFaultKind) (P Q : Type 0) → IsOfBytes kind → OnDevice kind P Q → Q
other_kind kinds.Device P Q f h = absurd f
other_kind _ P Q f h = h

module _ {X : Type 0} (P : List LogRecord → X → Type 0) where
  pub read_failed : (coming : Option (List ℕ)) (old new : ℕ) (e : LogFault) → e.kind ≡ kinds.Device
      → ReplaysFrom P (record { coming = coming; failed = old; failed-behind = new }) (Err e) → new ≡ one_more old
  read_failed coming old new e is f = rw is at f

  pub no_read_failed : (coming : Option (List ℕ)) (old new : ℕ) (e : LogFault) → IsOfBytes e.kind
      → ReplaysFrom P (record { coming = coming; failed = old; failed-behind = new }) (Err e) → new ≡ old
  no_read_failed coming old new e of f = (other_kind e.kind _ _ of f).0
