-- The parts of a signature's view are those bytes of the signature.
use Rattle.std.proofs.Common.{◌≡◌, ℕ, ◌+◌, List, [], ◌++◌, length, refl, ◌∙◌, arith, append_assoc, append-nil}
use Rattle.std.proofs.Common.{length-append}
use Rattle.std.specs.Int.{bytes_high_first}
use Rattle.tpm_wire.specs.Spelling.{spelling}
use Rattle.tpm_wire.specs.Structures.{sized_bytes}
use Rattle.tpm_types.specs.Alg.{alg_number, hash}
use Rattle.tpm_quote.specs.declared.signature.Signature.{Signature}
use Rattle.tpm_quote.specs.declared.signature.Signature.TheVariants.{RsaSsa, RsaPss, Ecdsa}
use Rattle.tpm_quote.specs.Signatures.{alg_rsassa, alg_rsapss, alg_ecdsa, scheme, rsa_signature, ecc_signature, signature}
use Rattle.tpm_c.specs.Parts.{bytes_in, part}
use Rattle.tpm_c.specs.Signatures.{HoldsSignature}
use Rattle.tpm_c.proofs.Parts.{part_is}

-- of an RSA key: the scheme, the hash, the size and the signature
holds_rsa : (bytes n a u sig : List ℕ) → bytes ≡ n ++ ((a ++ ((u ++ sig) ++ [])) ++ [])
    → length n ≡ 2 → length a ≡ 2 → length u ≡ 2 → bytes_in bytes (part 6 (length sig)) ≡ sig
holds_rsa bytes n a u sig is one two three =
    let front : List ℕ = n ++ (a ++ u) in
    let long : length front ≡ 6 = simp length-append (omega (arith, one, two, three)) in
    let joined : n ++ ((a ++ ((u ++ sig) ++ [])) ++ []) ≡ front ++ (sig ++ []) = simp (append_assoc, append-nil) in
    part_is front sig [] bytes 6 (is ∙ joined) long

-- of a key on a curve: the scheme, the hash, and each number behind its size
holds_r : (bytes n a u r v s : List ℕ) → bytes ≡ n ++ ((a ++ ((u ++ r) ++ ((v ++ s) ++ []))) ++ [])
    → length n ≡ 2 → length a ≡ 2 → length u ≡ 2 → bytes_in bytes (part 6 (length r)) ≡ r
holds_r bytes n a u r v s is one two three =
    let front : List ℕ = n ++ (a ++ u) in
    let long : length front ≡ 6 = simp length-append (omega (arith, one, two, three)) in
    let joined : n ++ ((a ++ ((u ++ r) ++ ((v ++ s) ++ []))) ++ []) ≡ front ++ (r ++ (v ++ s)) = simp (append_assoc, append-nil) in
    part_is front r (v ++ s) bytes 6 (is ∙ joined) long

holds_s : (bytes n a u r v s : List ℕ) → bytes ≡ n ++ ((a ++ ((u ++ r) ++ ((v ++ s) ++ []))) ++ [])
    → length n ≡ 2 → length a ≡ 2 → length u ≡ 2 → length v ≡ 2 → bytes_in bytes (part (6 + length r + 2) (length s)) ≡ s
holds_s bytes n a u r v s is one two three four =
    let front : List ℕ = n ++ (a ++ (u ++ (r ++ v))) in
    let long : length front ≡ 6 + length r + 2 = simp length-append (omega (arith, one, two, three, four)) in
    let joined : n ++ ((a ++ ((u ++ r) ++ ((v ++ s) ++ []))) ++ []) ≡ front ++ (s ++ []) = simp (append_assoc, append-nil) in
    part_is front s [] bytes (6 + length r + 2) (is ∙ joined) long

pub holds_signature : (bytes : List ℕ) (s : Signature) → bytes ≡ spelling signature s → HoldsSignature bytes s
unfolding signature scheme rsa_signature ecc_signature hash sized_bytes
holds_signature bytes (RsaSsa s) is =
    holds_rsa bytes (bytes_high_first 2 alg_rsassa) (bytes_high_first 2 (alg_number s.hash)) (bytes_high_first 2 (length s.sig)) s.sig is refl refl refl
holds_signature bytes (RsaPss s) is =
    holds_rsa bytes (bytes_high_first 2 alg_rsapss) (bytes_high_first 2 (alg_number s.hash)) (bytes_high_first 2 (length s.sig)) s.sig is refl refl refl
holds_signature bytes (Ecdsa s) is =
    let n = bytes_high_first 2 alg_ecdsa in
    let a = bytes_high_first 2 (alg_number s.hash) in
    let u = bytes_high_first 2 (length s.r) in
    let v = bytes_high_first 2 (length s.s) in
    (holds_r bytes n a u s.r v s.s is refl refl refl, holds_s bytes n a u s.r v s.s is refl refl refl refl)
