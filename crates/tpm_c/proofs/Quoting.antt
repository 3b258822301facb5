-- The parts of a quote's view are those bytes of the quote.
use Rattle.std.proofs.Common.{◌≡◌, ℕ, ◌+◌, List, [], ◌++◌, length, ◌∙◌, arith, append_assoc, append-nil, length-append}
use Rattle.std.specs.Int.{bytes_high_first}
use Rattle.tpm_wire.specs.Spelling.{spelling}
use Rattle.tpm_wire.specs.Structures.{sized_bytes}
use Rattle.tpm_types.specs.declared.attest.Attest.{Attest}
use Rattle.tpm_types.specs.Tpml.{selections}
use Rattle.tpm_types.specs.Attest.{generated_value, generated, attest_quote, attest_type, yes_no, clock_info}
use Rattle.tpm_types.specs.Attest.{quote_info, attest}
use Rattle.tpm_c.specs.Attests.{HoldsAttest}
use Rattle.tpm_c.proofs.Parts.{part_is}

clock_long : (a : Attest) → length (spelling clock_info a.clock_info) ≡ 17
unfolding clock_info yes_no
clock_long a = simp length-append (omega arith)

module _ (m t s signer u nonce clock firmware sels v digest : List ℕ) where
  -- all of it, as it is spelled
  abbrev pub whole : List ℕ
  whole = m ++ (t ++ ((s ++ signer) ++ ((u ++ nonce) ++ (clock ++ (firmware ++ ((sels ++ ((v ++ digest) ++ [])) ++ []))))))

  to_signer : whole ≡ (m ++ (t ++ s)) ++ (signer ++ (u ++ (nonce ++ (clock ++ (firmware ++ (sels ++ (v ++ digest)))))))
  to_signer = simp (append_assoc, append-nil)

  to_nonce : whole ≡ (m ++ (t ++ (s ++ (signer ++ u)))) ++ (nonce ++ (clock ++ (firmware ++ (sels ++ (v ++ digest)))))
  to_nonce = simp (append_assoc, append-nil)

  to_selected : whole ≡ (m ++ (t ++ (s ++ (signer ++ (u ++ (nonce ++ (clock ++ firmware))))))) ++ (sels ++ (v ++ digest))
  to_selected = simp (append_assoc, append-nil)

  to_digest : whole ≡ (m ++ (t ++ (s ++ (signer ++ (u ++ (nonce ++ (clock ++ (firmware ++ (sels ++ v))))))))) ++ (digest ++ [])
  to_digest = simp (append_assoc, append-nil)

pub holds_attest : (bytes : List ℕ) (a : Attest) → bytes ≡ spelling attest a → HoldsAttest bytes a
unfolding attest generated attest_type quote_info sized_bytes
holds_attest bytes a is =
    let m = bytes_high_first 4 generated_value in
    let t = bytes_high_first 2 attest_quote in
    let s = bytes_high_first 2 (length a.signer) in
    let u = bytes_high_first 2 (length a.extra_data) in
    let clock = spelling clock_info a.clock_info in
    let firmware = bytes_high_first 8 a.firmware_version in
    let sels = spelling selections a.quote.selections in
    let v = bytes_high_first 2 (length a.quote.digest) in
    let one : List ℕ = m ++ (t ++ s) in
    let two : List ℕ = m ++ (t ++ (s ++ (a.signer ++ u))) in
    let three : List ℕ = m ++ (t ++ (s ++ (a.signer ++ (u ++ (a.extra_data ++ (clock ++ firmware)))))) in
    let four : List ℕ = m ++ (t ++ (s ++ (a.signer ++ (u ++ (a.extra_data ++ (clock ++ (firmware ++ (sels ++ v)))))))) in
    let c : length clock ≡ 17 = clock_long a in
    let one_long : length one ≡ 8 = simp length-append (omega arith) in
    let two_long : length two ≡ 8 + length a.signer + 2 = simp length-append (omega arith) in
    let three_long : length three ≡ 8 + length a.signer + 2 + length a.extra_data + 25 = simp length-append (omega (arith, c)) in
    let four_long : length four ≡ 8 + length a.signer + 2 + length a.extra_data + 25 + length sels + 2 = simp length-append (omega (arith, c)) in
    record {
      signer = part_is one a.signer _ bytes 8 (is ∙ to_signer m t s a.signer u a.extra_data clock firmware sels v a.quote.digest) one_long;
      nonce = part_is two a.extra_data _ bytes (8 + length a.signer + 2)
          (is ∙ to_nonce m t s a.signer u a.extra_data clock firmware sels v a.quote.digest) two_long;
      selected = part_is three sels _ bytes (8 + length a.signer + 2 + length a.extra_data + 25)
          (is ∙ to_selected m t s a.signer u a.extra_data clock firmware sels v a.quote.digest) three_long;
      digest = part_is four a.quote.digest _ bytes (8 + length a.signer + 2 + length a.extra_data + 25 + length sels + 2)
          (is ∙ to_digest m t s a.signer u a.extra_data clock firmware sels v a.quote.digest) four_long;
    }
