use Rattle.std.proofs.Common.{◌≡◌, ◌+◌, ◌++◌, ◌∙◌, Bool, List, ℕ, [], ◌∷◌, ap, append_assoc, drop, string_bytes, sym, take}
use Rattle.std.proofs.lemmas.List.{drop_more}
use Rattle.std.specs.List.{list_any}
use Rattle.std.specs.Str.{bytes_eq}
use Rattle.tpm_lists.specs.Extensions.{Extension}
use Rattle.tpm_check.specs.ExtendsTold.{has_digest, line_if_new, once_from}
use Rattle.tpm_check.proofs.Digests.{known_more}
use Rattle.tpm_check.proofs.FirstOf.{taken_more}
use Rattle.tpm_check.proofs.extends.push_register.Goals as goal

pub loop-extension-preserved : goal.loop-extension-preserved
loop-extension-preserved c =
    let bank = c.args.bank in
    let register = c.args.register in
    let xs = c.args.found.now in
    let i = c.loop-extension.extension-index in
    let x = c.extension-item.result in
    let invariant = c.loop-extension.invariant in
    let told = c.loop-extension.told in
    let before = string_bytes c.loop-extension.text in
    let rest = drop (i + 1) xs in
    let taken = taken_more xs i x c.loop-extension-test.true c.extension-item.is in
    let dropped : drop i xs ≡ x ∷ rest =
    drop_more xs i x c.loop-extension-test.true ∙ ap (λ (y : Extension). y ∷ rest) (sym c.extension-item.is) in
    let line = line_if_new bank register (list_any (bytes_eq x.digest) told) x in
    let same : once_from bank register (take i xs) (drop i xs) ≡ line ++ once_from bank register (take (i + 1) xs) rest =
    ap (once_from bank register (take i xs)) dropped
    ∙ ap (λ (is_told : Bool). line_if_new bank register is_told x ++ once_from bank register (take i xs ++ x ∷ []) rest) (sym (invariant.known x.digest))
    ∙ ap (λ (so-far : List Extension). line ++ once_from bank register so-far rest) (sym taken) in
    record {
      known = λ digest.
          known_more bank register (take i xs) x digest told c.push_if_new.new.told (invariant.known digest) (c.in_ok-push_if_new.ensures.told digest)
          ∙ ap (list_any (has_digest bank register digest)) (sym taken);
      text = ap (λ (t : List ℕ). t ++ once_from bank register (take (i + 1) xs) rest) c.in_ok-push_if_new.ensures.text
          ∙ append_assoc before line (once_from bank register (take (i + 1) xs) rest)
          ∙ ap (λ (t : List ℕ). before ++ t) (sym same) ∙ invariant.text;
    }
