-- A list of C's, beside the digests that it has.
use Rattle.std.proofs.Common.{◌≡◌, ℕ, Bool, true, false, eqb, List, [], ◌∷◌, Option, Some, None, take, refl, ap, ◌∙◌}
use Rattle.std.proofs.lemmas.Bool.{eqb-true}
use Rattle.std.specs.Prelude.{◌==◌, ◌&&◌, ◌||◌, nat_eq, option_map, if◌then◌else◌}
use Rattle.std.specs.List.{list_any}
use Rattle.std.specs.Cmp.Lexicographic.{pointwise}
use Rattle.tpm_types.specs.declared.alg.Alg.{Alg}
use Rattle.tpm_types.specs.declared.alg.Alg.TheVariants.{Sha1, Sha256, Sha384}
use Rattle.tpm_types.specs.Alg.{alg_number, alg_of, digest_len}
use Rattle.tpm_vouched.specs.Allowed.{allows, is_for, names}
use Rattle.tpm_c.specs.declared.allowed.TpmAllowed.{TpmAllowed}
use Rattle.tpm_c.specs.Allowed.{before, digest_of, list_of}
use Rattle.tpm_c.specs.inner.Allowed.{entry_allows, entry_names}

-- a bank, if there is one, is this one
abbrev is_bank : Option Alg → Alg → Bool
is_bank None bank = false
is_bank (Some found) bank = alg_number found == alg_number bank

is_same : (n : ℕ) (bank : Alg) → (n == alg_number bank) ≡ is_bank (alg_of n) bank
is_same n bank = go (eqb n 4) refl (eqb n 11) refl (eqb n 12) refl bank
  where
    go : (a : Bool) → eqb n 4 ≡ a → (b : Bool) → eqb n 11 ≡ b → (c : Bool) → eqb n 12 ≡ c → (bank : Alg)
        → (n == alg_number bank) ≡ is_bank (if a then Some Sha1 else if b then Some Sha256 else if c then Some Sha384 else None) bank
    go true is b ib c ic bank = rw (eqb-true n 4 is) refl
    go false ia true is c ic bank = rw (eqb-true n 11 is) refl
    go false ia false ib true is bank = rw (eqb-true n 12 is) refl
    go false ia false ib false ic Sha1 = ia
    go false ia false ib false ic Sha256 = ib
    go false ia false ib false ic Sha384 = ic

module _ (bank : Alg) (register : ℕ) where
  pub names_of : (list : List TpmAllowed) → list_any (entry_names bank register) list ≡ names (list_of list) bank register
  names_of [] = refl
  names_of (e ∷ es) = rw (is_same e.hash bank) (go (alg_of e.hash) (names_of es))
    where
      go : (found : Option Alg) → list_any (entry_names bank register) es ≡ names (list_of es) bank register
          → ((is_bank found bank && (e.pcr == register)) || list_any (entry_names bank register) es)
          ≡ list_any (is_for bank register) (before (option_map (digest_of e) found) (list_of es))
      go (Some b) behind = ap (λ (x : Bool). ((alg_number b == alg_number bank) && (e.pcr == register)) || x) behind
      go None behind = behind

module _ (bank : Alg) (register : ℕ) (of_bank : List ℕ) where
  same_digest : (b : Alg) (e : TpmAllowed)
      → ((alg_number b == alg_number bank) && (e.pcr == register)) && pointwise nat_eq (take (digest_len bank) e.digest) of_bank
      ≡ ((alg_number b == alg_number bank) && (e.pcr == register)) && pointwise nat_eq (take (digest_len b) e.digest) of_bank
  same_digest Sha1 e = go bank
    where
      go : (bank : Alg) → ((4 == alg_number bank) && (e.pcr == register)) && pointwise nat_eq (take (digest_len bank) e.digest) of_bank
          ≡ ((4 == alg_number bank) && (e.pcr == register)) && pointwise nat_eq (take 20 e.digest) of_bank
      go Sha1 = refl
      go Sha256 = refl
      go Sha384 = refl
  same_digest Sha256 e = go bank
    where
      go : (bank : Alg) → ((11 == alg_number bank) && (e.pcr == register)) && pointwise nat_eq (take (digest_len bank) e.digest) of_bank
          ≡ ((11 == alg_number bank) && (e.pcr == register)) && pointwise nat_eq (take 32 e.digest) of_bank
      go Sha1 = refl
      go Sha256 = refl
      go Sha384 = refl
  same_digest Sha384 e = go bank
    where
      go : (bank : Alg) → ((12 == alg_number bank) && (e.pcr == register)) && pointwise nat_eq (take (digest_len bank) e.digest) of_bank
          ≡ ((12 == alg_number bank) && (e.pcr == register)) && pointwise nat_eq (take 48 e.digest) of_bank
      go Sha1 = refl
      go Sha256 = refl
      go Sha384 = refl

  pub allows_of : (list : List TpmAllowed) → list_any (entry_allows bank register of_bank) list ≡ allows (list_of list) bank register of_bank
  allows_of [] = refl
  allows_of (e ∷ es) = rw (is_same e.hash bank) (go (alg_of e.hash) (allows_of es))
    where
      go : (found : Option Alg) → list_any (entry_allows bank register of_bank) es ≡ allows (list_of es) bank register of_bank
          → (((is_bank found bank && (e.pcr == register)) && pointwise nat_eq (take (digest_len bank) e.digest) of_bank)
          || list_any (entry_allows bank register of_bank) es)
          ≡ allows (before (option_map (digest_of e) found) (list_of es)) bank register of_bank
      go (Some b) behind =
          ap (λ (x : Bool). x || list_any (entry_allows bank register of_bank) es) (same_digest b e)
          ∙ ap (λ (x : Bool). (((alg_number b == alg_number bank) && (e.pcr == register)) && pointwise nat_eq (take (digest_len b) e.digest) of_bank) || x)
          behind
      go None behind = behind
