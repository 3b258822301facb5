-- Digests in the order in which they are looked up, and in that in which they were told.
use Rattle.std.proofs.Common.{◌≡◌, ℕ, Bool, true, false, List, [], ◌∷◌, ◌++◌, map, refl, sym, ap, ◌∙◌, subst}
use Rattle.std.proofs.lemmas.Map.Text.{is_eq-slice_cmp}
use Rattle.std.proofs.lemmas.Slice.Eq.{bytes_eq-Decides}
use Rattle.std.specs.Prelude.{◌||◌}
use Rattle.std.specs.Borrow.{Bor}
use Rattle.std.specs.BTreeSet.{insert_key}
use Rattle.std.specs.BTreeMap.{is_at}
use Rattle.std.specs.Cmp.Lexicographic.{slice_cmp}
use Rattle.std.specs.List.{list_any}
use Rattle.std.specs.Ordering.{is_eq, match_ordering, nat_cmp}
use Rattle.std.specs.Str.{bytes_eq}
use Rattle.std.specs.declared.cmp.Ordering.TheVariants.{Less, Equal, Greater}
use Rattle.std.specs.declared.cmp.Ordering.{Ordering}
use Rattle.tpm_types.specs.declared.alg.Alg.{Alg}
use Rattle.tpm_lists.specs.Extensions.{Extension}
use Rattle.tpm_lists.proofs.AllowFinding.{any_behind, swap}
use Rattle.tpm_check.specs.ExtendsTold.{has_digest}

abbrev now : Bor (List ℕ) → List ℕ
now k = k.now

abbrev cmp : Bor (List ℕ) → Bor (List ℕ) → Ordering
cmp x y = slice_cmp nat_cmp x.now y.now

pub is_there : (q : Bor (List ℕ)) (ks : List (Bor (List ℕ))) → list_any (is_at (cmp q)) ks ≡ list_any (bytes_eq q.now) (map now ks)
is_there q [] = refl
is_there q (k ∷ ks) =
    ap (λ (b : Bool). b || list_any (is_at (cmp q)) ks) (is_eq-slice_cmp q.now k.now)
    ∙ ap (λ (b : Bool). bytes_eq q.now k.now || b) (is_there q ks)

again : (b rest : Bool) → (b || rest) ≡ (b || (b || rest))
again true rest = refl
again false rest = refl

pub added : (q : List ℕ) (k : Bor (List ℕ)) (ks : List (Bor (List ℕ)))
    → list_any (bytes_eq q) (map now (insert_key cmp ks k)) ≡ (bytes_eq q k.now || list_any (bytes_eq q) (map now ks))
added q k [] = refl
added q k (x ∷ ks) = go (cmp k x) (is_eq-slice_cmp k.now x.now) (added q k ks)
  where
    go : (o : Ordering) → is_eq o ≡ bytes_eq k.now x.now
        → list_any (bytes_eq q) (map now (insert_key cmp ks k)) ≡ (bytes_eq q k.now || list_any (bytes_eq q) (map now ks))
        → list_any (bytes_eq q) (map now (match_ordering o (k ∷ x ∷ ks) (x ∷ ks) (x ∷ insert_key cmp ks k)))
        ≡ (bytes_eq q k.now || (bytes_eq q x.now || list_any (bytes_eq q) (map now ks)))
    go Less e more = refl
    go Equal e more =
        let same : k.now ≡ x.now = (bytes_eq-Decides k.now x.now).0 (sym e) in
        let rest : Bool = list_any (bytes_eq q) (map now ks) in
        subst (λ (d : List ℕ). (bytes_eq q x.now || rest) ≡ (bytes_eq q d || (bytes_eq q x.now || rest))) (sym same) (again (bytes_eq q x.now) rest)
    go Greater e more =
        ap (λ (b : Bool). bytes_eq q x.now || b) more ∙ swap (bytes_eq q x.now) (bytes_eq q k.now) (list_any (bytes_eq q) (map now ks))

-- ---- digests that were told

-- One more is known.
pub known_more : (bank : Alg) (register : ℕ) (before : List Extension) (x : Extension) (digest : List ℕ) (told behind : List (List ℕ))
    → list_any (bytes_eq digest) told ≡ list_any (has_digest bank register digest) before
    → list_any (bytes_eq digest) behind ≡ (has_digest bank register digest x || list_any (bytes_eq digest) told)
    → list_any (bytes_eq digest) behind ≡ list_any (has_digest bank register digest) (before ++ x ∷ [])
known_more bank register before x digest told behind known more =
    more ∙ ap (λ (b : Bool). has_digest bank register digest x || b) known ∙ sym (any_behind (has_digest bank register digest) before x)
