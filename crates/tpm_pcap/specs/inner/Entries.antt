-- What the code adds.
use Rattle.std.specs.Prelude.{◌≡◌, List, ◌++◌}
use Rattle.tpm_pcap.specs.declared.entry.Entry.{Entry as RustEntry}
use Rattle.tpm_pcap.specs.Entries.{Entry, entries_as}

-- It is so now, and so much was told.
abbrev pub Tells : {S : Type 0} → S × List Entry → (now : S) → (before after : List RustEntry) → Type 0
Tells told now before after = (now ≡ told.0) × (entries_as after ≡ entries_as before ++ told.1)
