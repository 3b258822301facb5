-- What a check prints, and what keeps it from that.
use Rattle.std.proofs.Common.{◌≡◌, inl, inr, Bool, true, false, ℕ, zero, suc, List, Option, Some, None, Result, Ok, Err, subst, sym, refl}
use Rattle.std.specs.Prelude.{IfOk}
use Rattle.std.specs.Borrow.{Bor}
use Rattle.tpm_pcr.specs.Registers.{Registers}
use Rattle.tpm_log.specs.declared.fault.LogFault.{LogFault}
use Rattle.tpm_log.specs.Changes.{AreAfter}
use Rattle.tpm_log.specs.Replays.{LogSource, ReplaysFrom}
use Rattle.tpm_options.specs.declared.CheckOptions.{CheckOptions}
use Rattle.tpm_options.specs.declared.EventsTask.{EventsTask}
use Rattle.tpm_output.specs.declared.fault.ToolFault.TheVariants.{Memory, Read, Write, InputTooLong}
use Rattle.tpm_output.specs.declared.fault.ToolFault.{ToolFault}
use Rattle.tpm_args.specs.declared.task.Task.TheVariants.{Check, Events}
use Rattle.tpm_args.specs.declared.task.Task.{Task}
use Rattle.tpm_check.specs.Check.{CountsReads, Failures}
use Rattle.tpm_program.specs.declared.cause.Cause.{Cause}
use Rattle.tpm_program.specs.declared.fault.Fault.TheVariants.{File, Tool}
use Rattle.tpm_program.specs.declared.fault.Fault.{Fault}
use Rattle.tpm_program.specs.Offered.{Offered, OfFileIf}
use Rattle.tpm_program.specs.Performs.{ByFlag, OfFirstIf, unfailing}
use Rattle.tpm_program.specs.Fails.{Fails, IsOpened, IsTooLong, IsUnreadOf, path_if}
use Rattle.tpm_program.specs.inner.Fails.{FailsAt, FailsAtIf, IsNotOpened, IsNotOpenedIf, IsOfReading, read_last}

-- ---- what is printed

abbrev source : Option (List ℕ) → (failed failed-behind : ℕ) → LogSource
source coming failed failed-behind = record { coming = coming; failed = failed; failed-behind = failed-behind }

pub replayed : (coming : Option (List ℕ)) (old new : ℕ) (found : Result Registers LogFault) → old ≡ 0 → new ≡ old
    → ReplaysFrom AreAfter (source coming old new) found → ReplaysFrom AreAfter (unfailing coming) found
replayed coming old new found f g h =
    subst (λ (n : ℕ). ReplaysFrom AreAfter (source coming n n) found) f
    (subst (λ (n : ℕ). ReplaysFrom AreAfter (source coming old n) found) g h)

-- A log of which no read failed where there is an answer.
pub if_counted : {X : Type 0} {P Q : X → Type 0} (f : Failures) (r : Result X ToolFault) → CountsReads f r → IfOk r P
    → ((x : X) → f.log-behind ≡ f.log → P x → Q x) → IfOk r Q
if_counted f (Ok x) counts p g = g x counts.0 p
if_counted f (Err e) counts p g = tt

pub by_true : (flag : Bool) (P Q : Type 0) → flag ≡ true → P → ByFlag flag P Q
by_true flag P Q is p = subst (λ (b : Bool). ByFlag b P Q) (sym is) p

pub by_false : (flag : Bool) (P Q : Type 0) → flag ≡ false → Q → ByFlag flag P Q
by_false flag P Q is q = subst (λ (b : Bool). ByFlag b P Q) (sym is) q

-- ---- a list that may be there

pub of_if : (offered : Offered) (path : Option (Bor (List ℕ))) (x : Option (Option (List ℕ)))
    (Q : Option (Option (List ℕ)) → Type 0) → OfFileIf offered path (λ coming. coming ≡ x) → Q x → OfFileIf offered path Q
of_if offered None x Q h q = subst Q (sym h) q
of_if offered (Some path) x Q h q = (h.0, h.1, subst Q (sym h.2) q)

pub of_first_if : (offered : Offered) (most : ℕ) (path : Option (Bor (List ℕ))) (P Q : Option (List ℕ) → Type 0)
    → ((read : Option (List ℕ)) → P read → Q read) → OfFirstIf offered most path P → OfFirstIf offered most path Q
of_first_if offered most None P Q f h = f None h
of_first_if offered most (Some path) P Q f h = (h.0, h.1, (h.2.0, h.2.1, h.2.2, f (Some h.2.0) h.2.3))

-- ---- what keeps it from that

pub at_reading : (offered : Offered) (path : List ℕ) (tool : ToolFault) (fault : Fault) → IsOpened offered path
    → (tool ≡ InputTooLong → ⊥) → IsOfReading offered path tool fault → FailsAt offered path fault
at_reading offered path Read (File at cause) opened k h = (h.0, inr (opened, h.1))
at_reading offered path Read (Tool tool) opened k h = absurd h
at_reading offered path Memory fault opened k h = subst (FailsAt offered path) (sym h) tt
at_reading offered path (Write failed) fault opened k h = subst (FailsAt offered path) (sym h) tt
at_reading offered path InputTooLong fault opened k h = absurd (k refl)

-- the task of these files
abbrev task : CheckOptions → (log : Bor (List ℕ)) → (registers attest allow : Option (Bor (List ℕ))) → Task
task o log registers attest allow =
    Check (record { files = record { log = log; registers = registers; attest = attest; allow = allow }; options = o })

opened_if : (offered : Offered) (path : Bor (List ℕ)) (P : Option (Option (List ℕ)) → Type 0) → OfFileIf offered (Some path) P → IsOpened offered path.now
opened_if offered path P h = (h.0, h.1)

module _ (offered : Offered) (log : Bor (List ℕ)) (allow : Option (Bor (List ℕ))) (o : CheckOptions) where
  pub log_not_opened : (registers attest : Option (Bor (List ℕ))) (fault : Fault)
      → IsNotOpened offered log.now fault → Fails offered (task o log registers attest allow) fault
  log_not_opened registers attest (File at cause) h = inl (h.0, inl h.1)
  log_not_opened registers attest (Tool tool) h = absurd h

  pub list_not_opened : (registers attest : Option (Bor (List ℕ))) (fault : Fault) → IsOpened offered log.now
      → IsNotOpenedIf offered registers fault → Fails offered (task o log registers attest allow) fault
  list_not_opened None attest fault opened h = absurd h
  list_not_opened (Some list) attest (File at cause) opened h = inr (opened, inl (h.0, inl h.1))
  list_not_opened (Some list) attest (Tool tool) opened h = absurd h

  quote_not_read : (registers : Option (Bor (List ℕ))) (attest : Bor (List ℕ)) (fault : Fault) (P : Option (Option (List ℕ)) → Type 0)
      → IsOpened offered log.now → OfFileIf offered registers P → FailsAt offered attest.now fault
      → Fails offered (task o log registers (Some attest) allow) fault
  quote_not_read None attest (File at cause) P opened list h = inr (opened, inl h)
  quote_not_read (Some path) attest (File at cause) P opened list h = inr (opened, inr (opened_if offered path P list, inl h))
  quote_not_read registers attest (Tool Memory) P opened list h = tt
  quote_not_read registers attest (Tool (Write failed)) P opened list h = tt
  quote_not_read registers attest (Tool Read) P opened list h = absurd h
  quote_not_read registers attest (Tool InputTooLong) P opened list h = absurd h

  pub quote_not_read_if : (registers attest : Option (Bor (List ℕ))) (fault : Fault) (P : Option (Option (List ℕ)) → Type 0)
      → IsOpened offered log.now → OfFileIf offered registers P → FailsAtIf offered attest fault
      → Fails offered (task o log registers attest allow) fault
  quote_not_read_if registers None fault P opened list h = absurd h
  quote_not_read_if registers (Some attest) fault P opened list h = quote_not_read registers attest fault P opened list h

  -- The file that was read last is one of them.
  last_not_read : (failures : ℕ) (registers attest : Option (Bor (List ℕ))) (fault : Fault) (P : Option (Option (List ℕ)) → Type 0)
      → IsOpened offered log.now → OfFileIf offered registers P
      → IsOfReading offered (read_last failures log.now registers) Read fault → Fails offered (task o log registers attest allow) fault
  last_not_read zero None attest (File at cause) P opened list h = inl (h.0, inr (opened, h.1))
  last_not_read zero (Some path) attest (File at cause) P opened list h =
      inr (opened, inl (h.0, inr (opened_if offered path P list, h.1)))
  last_not_read (suc n) registers attest (File at cause) P opened list h = inl (h.0, inr (opened, h.1))
  last_not_read failures registers attest (Tool tool) P opened list h = absurd h

  -- The task has no answer for this fault of its subcommand.
  pub not_checked : (failures : ℕ) (registers attest : Option (Bor (List ℕ))) (tool : ToolFault) (fault : Fault)
      (P : Option (Option (List ℕ)) → Type 0) → IsOpened offered log.now → OfFileIf offered registers P
      → (tool ≡ InputTooLong → IsTooLong offered (task o log registers attest allow))
      → IsOfReading offered (read_last failures log.now registers) tool fault → Fails offered (task o log registers attest allow) fault
  not_checked failures registers attest Read fault P opened list k h = last_not_read failures registers attest fault P opened list h
  not_checked failures registers attest Memory fault P opened list k h =
      subst (Fails offered (task o log registers attest allow)) (sym h) tt
  not_checked failures registers attest (Write failed) fault P opened list k h =
      subst (Fails offered (task o log registers attest allow)) (sym h) tt
  not_checked failures registers attest InputTooLong fault P opened list k h =
      subst (Fails offered (task o log registers attest allow)) (sym h) (k refl)

-- ---- the file that is opened last

of_opened : (offered : Offered) (most : ℕ) (path : Bor (List ℕ)) (P : Option (List ℕ) → Type 0) → OfFirstIf offered most (Some path) P
    → IsOpened offered path.now
of_opened offered most path P h = (h.0, h.1)

module _ (offered : Offered) (most : ℕ) (log : Bor (List ℕ)) (o : CheckOptions) (P : Option (Option (List ℕ)) → Type 0) (Q : Option (List ℕ) → Type 0) where
  list_not_read : (registers attest : Option (Bor (List ℕ))) (allow : Bor (List ℕ)) (fault : Fault) → IsOpened offered log.now
      → OfFileIf offered registers P → OfFirstIf offered most attest Q → FailsAt offered allow.now fault
      → Fails offered (task o log registers attest (Some allow)) fault
  list_not_read None None allow (File at cause) opened list quote h = inr (opened, inl h)
  list_not_read None (Some attest) allow (File at cause) opened list quote h = inr (opened, inr (of_opened offered most attest Q quote, inl h))
  list_not_read (Some path) None allow (File at cause) opened list quote h = inr (opened, inr (opened_if offered path P list, inl h))
  list_not_read (Some path) (Some attest) allow (File at cause) opened list quote h =
      inr (opened, inr (opened_if offered path P list, inr (of_opened offered most attest Q quote, inl h)))
  list_not_read registers attest allow (Tool Memory) opened list quote h = tt
  list_not_read registers attest allow (Tool (Write failed)) opened list quote h = tt
  list_not_read registers attest allow (Tool Read) opened list quote h = absurd h
  list_not_read registers attest allow (Tool InputTooLong) opened list quote h = absurd h

  pub list_not_read_if : (registers attest allow : Option (Bor (List ℕ))) (fault : Fault) → IsOpened offered log.now
      → OfFileIf offered registers P → OfFirstIf offered most attest Q → FailsAtIf offered allow fault
      → Fails offered (task o log registers attest allow) fault
  list_not_read_if registers attest None fault opened list quote h = absurd h
  list_not_read_if registers attest (Some allow) fault opened list quote h = list_not_read registers attest allow fault opened list quote h

-- ---- what keeps records from being listed

quote_unread : (offered : Offered) (at : Bor (List ℕ)) (cause : Cause) (path : Option (Bor (List ℕ))) → FailsAtIf offered path (File at cause)
    → IsUnreadOf offered (path_if path) at.now cause
quote_unread offered at cause None h = absurd h
quote_unread offered at cause (Some path) h = inl h

module _ (offered : Offered) (e : EventsTask) where
  pub log_of_events_not_opened : (fault : Fault) → IsNotOpened offered e.log.now fault → Fails offered (Events e) fault
  log_of_events_not_opened (File at cause) h = inl (h.0, inl h.1)
  log_of_events_not_opened (Tool tool) h = absurd h

  no_other : (tool : ToolFault) (path : Option (Bor (List ℕ))) → FailsAtIf offered path (Tool tool)
      → Fails offered (Events e) (Tool tool)
  no_other tool None h = absurd h
  no_other Memory (Some path) h = tt
  no_other (Write failed) (Some path) h = tt
  no_other Read (Some path) h = absurd h
  no_other InputTooLong (Some path) h = absurd h

  pub quote_of_events_not_read : (fault : Fault) → IsOpened offered e.log.now → FailsAtIf offered e.attest fault
      → Fails offered (Events e) fault
  quote_of_events_not_read (File at cause) opened h = inr (opened, quote_unread offered at cause e.attest h)
  quote_of_events_not_read (Tool tool) opened h = no_other tool e.attest h

  -- The task has no answer for this fault of its subcommand.
  pub not_listed : (tool : ToolFault) (fault : Fault) → IsOpened offered e.log.now → (tool ≡ InputTooLong → ⊥)
      → IsOfReading offered e.log.now tool fault → Fails offered (Events e) fault
  not_listed Read (File at cause) opened k h = inl (h.0, inr (opened, h.1))
  not_listed Read (Tool tool) opened k h = absurd h
  not_listed Memory fault opened k h = subst (Fails offered (Events e)) (sym h) tt
  not_listed (Write failed) fault opened k h = subst (Fails offered (Events e)) (sym h) tt
  not_listed InputTooLong fault opened k h = absurd (k refl)
