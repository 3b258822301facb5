use Rattle.std.proofs.Common.{◌≡◌, ◌++◌, ℕ, List, [], drop, string_bytes, take}
use Rattle.std.specs.List.{list_any}
use Rattle.std.specs.Str.{bytes_eq}
use Rattle.tpm_check.specs.ExtendsTold.{has_digest, once_from}
use Rattle.tpm_check.proofs.extends.push_register.Given as goal

-- The digests so far are known, and what was added, with the lines that are left, is all.
abbrev pub invariant-loop-extension : goal.invariant-loop-extension
invariant-loop-extension l = record {
  known : (digest : List ℕ) → list_any (bytes_eq digest) l.told
      ≡ list_any (has_digest l.bank l.register digest) (take l.extension-index l.found);
  text : string_bytes l.text ++ once_from l.bank l.register (take l.extension-index l.found) (drop l.extension-index l.found)
      ≡ string_bytes l.initial.text ++ once_from l.bank l.register [] l.found;
}
