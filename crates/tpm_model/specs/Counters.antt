-- NV counters at a history (Part 1, "NV Memory"; Part 3, 31.3, 31.4 and 31.8).
use Rattle.std.specs.Prelude.{ℕ, ◌+◌, max, Bool, not, ◌==◌, List, [], ◌∷◌, ◌++◌, filter, Option, Some, None}
use Rattle.std.specs.Prelude.{if◌then◌else◌}
use Rattle.tpm_types.specs.declared.tpms.NvPublic.{NvPublic}
use Rattle.tpm_types.specs.Tpma.{with_written}
use Rattle.tpm_commands.specs.declared.command.CommandBody.{CommandBody}
use Rattle.tpm_commands.specs.declared.command.CommandBody.TheVariants as bodies
use Rattle.tpm_hmac.specs.Sessions.{trim}
pub use Rattle.tpm_model.specs.NvMemory.{Counter, NvMemory}
use Rattle.tpm_model.specs.Steps.{History, PowerCycle, Accepted, Origin}

-- ---- counters

abbrev pub has_index : ℕ → Counter → Bool
has_index i c = c.public.index == i

-- the counter of an index
abbrev pub counter_in : List Counter → ℕ → Option Counter
counter_in [] i = None
counter_in (c ∷ counters) i = if has_index i c then Some c else counter_in counters i

-- the counters without that of an index
abbrev pub without : ℕ → List Counter → List Counter
without i counters = filter (λ c. not (has_index i c)) counters

-- ---- values

-- What an increment makes of a value: the first since the definition gives one more than the greatest that any
-- counter of the device has had, and each later one gives one more (Part 1, "NV Counters").
abbrev pub next_value : (greatest : ℕ) → Option ℕ → ℕ
next_value greatest None = greatest + 1
next_value greatest (Some v) = v + 1

-- An increment sets TPMA_NV_WRITTEN (Part 2, 13.4).
abbrev pub written : NvPublic → NvPublic
written p = record p { attrs = with_written p.attrs }

abbrev pub incremented : (greatest : ℕ) → Counter → Counter
incremented greatest c = record { public = written c.public; auth = c.auth; value = Some (next_value greatest c.value) }

-- the counters with that of an index incremented
abbrev pub with_increment : ℕ → (greatest : ℕ) → List Counter → List Counter
with_increment i greatest [] = []
with_increment i greatest (c ∷ counters) =
    if has_index i c then incremented greatest c ∷ counters else c ∷ with_increment i greatest counters

abbrev pub value_of : Option Counter → Option ℕ
value_of None = None
value_of (Some c) = c.value

-- ---- NV memory

-- a counter with this definition, not incremented yet
abbrev pub defined : (auth : List ℕ) → NvPublic → Counter
defined auth public = record { public = public; auth = trim auth; value = None }

-- what an accepted command makes of it
abbrev pub nv_by : CommandBody → NvMemory → NvMemory
nv_by (bodies.NvDefineSpace asked) nv =
    record nv { counters = nv.counters ++ defined asked.auth asked.public ∷ [] }
nv_by (bodies.NvUndefineSpace index) nv = record nv { counters = without index nv.counters }
nv_by (bodies.NvIncrement by index) nv = record {
  counters = with_increment index nv.greatest nv.counters;
  greatest = max nv.greatest (next_value nv.greatest (value_of (counter_in nv.counters index)));
}
nv_by _ nv = nv

-- the NV memory after the commands of a history, from that of the origin on: power cycles leave it. Two queries, of the
-- counters and of the greatest value, would call one another, and double at each step.
abbrev pub nv_memory : Origin → History → NvMemory
nv_memory o [] = o.nv
nv_memory o (PowerCycle ∷ h) = nv_memory o h
nv_memory o (Accepted c r n ∷ h) = nv_by c.body (nv_memory o h)

-- the value of an index, where it was incremented since its definition
abbrev pub value_at : Origin → History → ℕ → Option ℕ
value_at o h i = value_of (counter_in (nv_memory o h).counters i)
