use Rattle.std.proofs.Common.{◌≡◌, ◌++◌, flat_map, string_bytes, take}
use Rattle.tpm_check.specs.AllowTold.{unknown_if}
use Rattle.tpm_check.proofs.allow_told.AllowTold.push_unknown_of.Given as goal

-- the digests so far
abbrev pub invariant-loop-extension : goal.invariant-loop-extension
invariant-loop-extension l =
    string_bytes l.text
    ≡ string_bytes l.initial.text
    ++ flat_map (unknown_if l.self.form l.bank l.register) (take l.extension-index l.self.found.now)
