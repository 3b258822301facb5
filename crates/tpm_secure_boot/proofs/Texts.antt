-- Texts by their hashes, where no two of those that were hashed have the same one.
use Rattle.std.proofs.Common.{◌≡◌, ℕ, List, [], ◌∷◌, map, refl, ap, ◌∙◌, inl, inr}
use Rattle.tpm_types.specs.declared.alg.Alg.{Alg}
use Rattle.tpm_hmac.specs.Hashes.{digest}
use Rattle.tpm_hmac.specs.Among.{IsAmong}

module _ (bank : Alg) (P : List ℕ → Type 0) (apart : (x y : List ℕ) → P x → P y → digest bank x ≡ digest bank y → x ≡ y) where
  -- texts with the same hashes, one by one
  pub same_texts : (ts us : List (List ℕ)) → ((x : List ℕ) → IsAmong x ts → P x) → ((x : List ℕ) → IsAmong x us → P x)
      → map (digest bank) ts ≡ map (digest bank) us → ts ≡ us
  same_texts [] [] in_t in_u e = refl
  same_texts [] (u ∷ us) in_t in_u e = absurd (let z : ⊥ = cc in z)
  same_texts (t ∷ ts) [] in_t in_u e = absurd (let z : ⊥ = cc in z)
  same_texts (t ∷ ts) (u ∷ us) in_t in_u e =
      let one = heads (digest bank t) (digest bank u) (map (digest bank) ts) (map (digest bank) us) e in
      let same = apart t u (in_t t (inl refl)) (in_u u (inl refl)) one.0 in
      ap (λ z. z ∷ ts) same ∙ ap (λ z. u ∷ z) (same_texts ts us (λ x a. in_t x (inr a)) (λ x a. in_u x (inr a)) one.1)
    where
      heads : (x y : List ℕ) (xs ys : List (List ℕ)) → x ∷ xs ≡ y ∷ ys → (x ≡ y) × (xs ≡ ys)
      heads x y xs ys e = (cc, cc)
