-- The nonces of a script's commands.
use Rattle.std.proofs.Common.{◌≡◌, ◌≢◌, ℕ, suc, ◌+◌, ◌<◌, ◌≤◌, List, [], ◌∷◌, ◌++◌, length, Bool, true, false, refl}
use Rattle.std.proofs.Common.{sym, ap, ◌∙◌, subst, arith}
use Rattle.std.proofs.lemmas.List.{length-map}
use Rattle.std.specs.Prelude.{◌^◌, ◌==◌, map, take, if◌then◌else◌}
use Rattle.std.specs.Int.{to_be_bytes, w128}
use Rattle.tpm_wire.specs.Token.{number_of}
use Rattle.tpm_wire.proofs.Numbers.{number_of-bytes}
use Rattle.tpm_model.specs.Steps.{Origin}
use Rattle.tpm_model.specs.Answers.{answer}
use Rattle.tpm_model.specs.Runs.{Stimulus, Given, after}
use Rattle.tpm_model.specs.Premises.{code_in, HasSessionMac, least_nonce, nonces, IsApart, AreApart, NoncesDiffer}
use Rattle.tpm_model.specs.Premises.{NoCollision}
use Rattle.tpm_model.proofs.Replay.{twice}
use Rattle.tpm_device.proofs.Ran.{accepted}
use Rattle.tpm_output.specs.InputLines.{onto_first, lines_of, most_bytes}
use Rattle.tpm_script.specs.Script.{ScriptLine, Command, NotHexadecimal, line_of, nonce_of, stimuli_from, script}

-- A nonce begins with its number.
begins : (k : ℕ) → take least_nonce (nonce_of k) ≡ to_be_bytes w128 k
begins k = refl

is_number : (k : ℕ) → k < 256 ^ 16 → number_of (take least_nonce (nonce_of k)) ≡ k
is_number k few = ap number_of (begins k) ∙ number_of-bytes 16 k few

differs : (k m : ℕ) → k < m → m < 256 ^ 16 → take least_nonce (nonce_of k) ≢ take least_nonce (nonce_of m)
differs k m less few = λ same.
    let equal : k ≡ m = sym (is_number k (omega (arith, less, few))) ∙ ap number_of same ∙ is_number m few in
    absurd (omega (arith, less, equal))

-- no command from the m-th on has the nonce of an earlier one
is_apart : (k m : ℕ) (lines : List ScriptLine) → k < m → m + length lines ≤ 256 ^ 16 → IsApart (nonce_of k) (nonces (stimuli_from m lines))
is_apart k m [] less few = tt
is_apart k m (Command bytes ∷ lines) less few = (differs k m less (omega (arith, few)), is_apart k (m + 1) lines (omega (arith, less)) (omega (arith, few)))
is_apart k m (NotHexadecimal ∷ lines) less few = tt
is_apart k m (_ ∷ lines) less few = is_apart k m lines less (omega (arith, few))

are_apart : (k : ℕ) (lines : List ScriptLine) → k + length lines ≤ 256 ^ 16 → AreApart (nonces (stimuli_from k lines))
are_apart k [] few = tt
are_apart k (Command bytes ∷ lines) few = (is_apart k (k + 1) lines (omega arith) (omega (arith, few)), are_apart (k + 1) lines (omega (arith, few)))
are_apart k (NotHexadecimal ∷ lines) few = tt
are_apart k (_ ∷ lines) few = are_apart k lines (omega (arith, few))

-- ---- no more lines than bytes

one_byte : (feed : Bool) (byte n : ℕ) (lines : List (List ℕ)) → length lines ≤ n → length (if feed then [] ∷ lines else onto_first byte lines) ≤ suc n
one_byte true byte n lines few = omega (arith, few)
one_byte false byte n [] few = omega arith
one_byte false byte n (first ∷ others) few = omega (arith, few)

few_lines : (bytes : List ℕ) → length (lines_of bytes) ≤ length bytes
few_lines [] = omega arith
few_lines (byte ∷ bytes) = one_byte (byte == 10) byte (length bytes) (lines_of bytes) (few_lines bytes)

-- ---- the law

pub differ : (text : List ℕ) → length text ≤ most_bytes → NoncesDiffer (script text).stimuli
differ text most = are_apart 1 (map line_of (lines_of text)) (omega (arith, length-map (lines_of text) line_of, few_lines text, most))

pub not_twice : (o : Origin) (text : List ℕ) (es fs gs : List Stimulus) (bytes n m : List ℕ) → length text ≤ most_bytes
    → (script text).stimuli ≡ es ++ Given bytes n ∷ fs ++ Given bytes m ∷ gs → NoCollision o (script text).stimuli → HasSessionMac bytes
    → code_in (answer o (after o [] es) bytes n) ≡ 0 → code_in (answer o (after o [] (es ++ Given bytes n ∷ fs)) bytes m) ≡ 0 → ⊥
not_twice o text es fs gs bytes n m most is free mac zero zero_again =
    let here = after o [] es in
    let there = after o [] (es ++ Given bytes n ∷ fs) in
    twice o es fs gs bytes n m (subst (λ (xs : List Stimulus). NoncesDiffer xs) is (differ text most))
    (subst (λ (xs : List Stimulus). NoCollision o xs) is free) mac
    (accepted o here bytes n (answer o here bytes n) refl zero) (accepted o there bytes m (answer o there bytes m) refl zero_again)
