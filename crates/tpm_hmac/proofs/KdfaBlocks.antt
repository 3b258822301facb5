-- The blocks of KDFa.
use Rattle.std.proofs.Common.{◌≡◌, ℕ, zero, suc, ◌+◌, ◌*◌, ◌<◌, ◌≤◌, List, [], ◌++◌, length, take, drop, refl, sym, ap}
use Rattle.std.proofs.Common.{◌∙◌, arith, add-one, length-append, length-take-le, append_assoc}
use Rattle.std.proofs.lemmas.List.{take_all, take_at, take-append-drop}
use Rattle.std.specs.Int.{w32, to_be_bytes}
use Rattle.tpm_types.specs.declared.alg.Alg.{Alg}
use Rattle.tpm_types.specs.Alg.{digest_len}
use Rattle.tpm_hmac.specs.Hmac.{kdfa, kdfa_block, kdfa_blocks, kdfa_text, block_count}
use Rattle.tpm_hmac.proofs.DigestLengths.{length-hmac}

-- where the next block ends
pub next_end : (alg : Alg) (k : ℕ) → (k + 1) * digest_len alg ≡ k * digest_len alg + digest_len alg
next_end alg k = omega arith

-- so many blocks as reach n bytes and no more
pub block_count-reached : (alg : Alg) (k n : ℕ) → n ≤ k * digest_len alg → k * digest_len alg < n + digest_len alg → block_count alg n ≡ k
block_count-reached alg k n reached before = grind arith

pub length-kdfa_blocks : (alg : Alg) (key text : List ℕ) (k : ℕ) → length (kdfa_blocks alg key text k) ≡ k * digest_len alg
unfolding kdfa_blocks
length-kdfa_blocks alg key text zero = omega arith
length-kdfa_blocks alg key text (suc k) =
    length-append (kdfa_blocks alg key text k) (kdfa_block alg key text (suc k))
    ∙ rw (length-kdfa_blocks alg key text k, length-hmac alg key (to_be_bytes w32 (suc k) ++ text))
    (sym (ap (λ (m : ℕ). m * digest_len alg) (sym (add-one k)) ∙ next_end alg k))

pub kdfa_blocks-more : (alg : Alg) (key text : List ℕ) (k : ℕ) →
    kdfa_blocks alg key text (k + 1) ≡ kdfa_blocks alg key text k ++ kdfa_block alg key text (k + 1)
unfolding kdfa_blocks
kdfa_blocks-more alg key text k = rw add-one refl

-- what is written behind k blocks: the beginning of the next
pub written_more : (alg : Alg) (key text : List ℕ) (k done n : ℕ) (old new block part : List ℕ) → done ≡ k * digest_len alg → length part ≡ n
    → take done old ≡ take done (kdfa_blocks alg key text k) → block ≡ kdfa_block alg key text (k + 1) → part ≡ take n block
    → new ≡ take done old ++ (part ++ drop (done + length part) old) → take (done + n) new ≡ take (done + n) (kdfa_blocks alg key text (k + 1))
written_more alg key text k done n old new block part place long before is cut written =
    let blocks = kdfa_blocks alg key text k in
    let length_blocks : length blocks ≡ done = length-kdfa_blocks alg key text k ∙ sym place in
    let front : take done old ≡ blocks = before ∙ take_all done blocks (omega arith) in
    let end : length (blocks ++ part) ≡ done + n = length-append blocks part ∙ omega arith in
    let here : take (done + n) new ≡ blocks ++ part =
    rw (written, front)
    (ap (take (done + n)) (sym (append_assoc blocks part (drop (done + length part) old)))
    ∙ take_at (blocks ++ part) (drop (done + length part) old) (done + n) end) in
    let there : take (done + n) (blocks ++ block) ≡ blocks ++ part =
    ap (λ (whole : List ℕ). take (done + n) (blocks ++ whole)) (sym (take-append-drop n block) ∙ ap (λ (first : List ℕ). first ++ drop n block) (sym cut))
    ∙ ap (take (done + n)) (sym (append_assoc blocks part (drop n block))) ∙ take_at (blocks ++ part) (drop n block) (done + n) end in
    here ∙ sym there ∙ ap (take (done + n)) (ap (λ (last : List ℕ). blocks ++ last) is ∙ sym (kdfa_blocks-more alg key text k))

-- all of them
pub kdfa-whole : (alg : Alg) (key label context_u context_v : List ℕ) (k n : ℕ) (out : List ℕ) → length out ≡ n → n ≤ k * digest_len alg →
    k * digest_len alg < n + digest_len alg
    → take n out ≡ take n (kdfa_blocks alg key (kdfa_text label context_u context_v (8 * n)) k) → out ≡ kdfa alg key label context_u context_v n
unfolding kdfa
kdfa-whole alg key label context_u context_v k n out long reached before written =
    sym (take_all n out (omega arith)) ∙ written ∙ rw (block_count-reached alg k n reached before) refl

enough : (alg : Alg) (n : ℕ) → n ≤ block_count alg n * digest_len alg
enough alg n = grind arith

pub length-kdfa : (alg : Alg) (key label context_u context_v : List ℕ) (n : ℕ) → length (kdfa alg key label context_u context_v n) ≡ n
unfolding kdfa
length-kdfa alg key label context_u context_v n =
    length-take-le n _ (omega (arith, length-kdfa_blocks alg key (kdfa_text label context_u context_v (8 * n)) (block_count alg n), enough alg n))

-- the text of a block in six pieces
pub in_six : (a b c d e f : List ℕ) → ((((([] ++ a) ++ b) ++ c) ++ d) ++ e) ++ f ≡ a ++ (b ++ (c ++ (d ++ (e ++ f))))
in_six a b c d e f = simp append_assoc
