-- A signature takes few bytes.
use Rattle.std.proofs.Common.{Bool, true, false, eqb, arith}
use Rattle.tpm_wire.specs.Layout.{Form, either}
use Rattle.tpm_wire.proofs.Longer.{TakesAtMost, at_most_more, at_most_number_in, at_most_sized_bytes}
use Rattle.tpm_types.proofs.Short.{and, last, of_hash}
use Rattle.tpm_quote.specs.Signatures.{alg_rsassa, alg_rsapss, rsa_bytes, ecc_bytes, rsa_signature, ecc_signature}
use Rattle.tpm_quote.specs.Signatures.{scheme, signature, rsa_of, ecc_of}
use Rattle.tpm_quote.specs.declared.signature.Signature.TheVariants.{RsaSsa, RsaPss, Ecdsa}

of_rsa_signature : TakesAtMost 516 rsa_signature
unfolding rsa_signature
of_rsa_signature = and 2 514 _ _ _ of_hash (λ alg. last 514 _ _ _ (at_most_sized_bytes rsa_bytes))

of_ecc_signature : TakesAtMost 138 ecc_signature
unfolding ecc_signature
of_ecc_signature =
    and 2 136 _ _ _ of_hash (λ alg.
    and 68 68 _ _ _ (at_most_sized_bytes ecc_bytes) (λ r.
    last 68 _ _ _ (at_most_sized_bytes ecc_bytes)))

pub of_signature : TakesAtMost 518 signature
unfolding signature scheme
of_signature = and 2 516 _ _ _ (at_most_number_in 2 _ _) (λ n. go (eqb n alg_rsassa) (eqb n alg_rsapss))
  where
    go : (a b : Bool)
        → TakesAtMost 516
        (either a (Form.field rsa_of rsa_signature (λ s. Form.done (RsaSsa s)))
        (either b (Form.field rsa_of rsa_signature (λ s. Form.done (RsaPss s)))
        (Form.field ecc_of ecc_signature (λ s. Form.done (Ecdsa s)))))
    go true b = last 516 _ _ _ of_rsa_signature
    go false true = last 516 _ _ _ of_rsa_signature
    go false false = at_most_more 138 516 _ (omega arith) (last 138 _ _ _ of_ecc_signature)
