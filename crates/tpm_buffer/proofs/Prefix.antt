-- A command and a response state how many bytes they have, so none begins another.
use Rattle.std.proofs.Common.{◌≡◌, ℕ, ◌+◌, ◌-◌, ◌≤◌, Bool, true, false, cond, eqb, leb, List, [], ◌++◌, length, take}
use Rattle.std.proofs.Common.{drop, Some, None, Ok, refl, sym, ap, ◌∙◌, arith}
use Rattle.std.proofs.lemmas.Bool.{eqb-true}
use Rattle.std.proofs.lemmas.List.{length-append, length-drop, nil_from_length, take-append-le, drop-append-le}
use Rattle.std.specs.Prelude.{◌&&◌}
use Rattle.tpm_wire.specs.Token.{number_of, Here, past, at_start, or_fault}
use Rattle.tpm_wire.specs.Reading.{read, ◌>>=◌}
use Rattle.tpm_wire.specs.Buffers.{buffer, number_in}
use Rattle.tpm_wire.specs.Path.{Spells}
use Rattle.tpm_wire.proofs.Buffers.{buffer_sound}
use Rattle.tpm_wire.proofs.Agreement.{bind_ok, number_ok}
use Rattle.tpm_wire.proofs.Whole.{spells_read}
use Rattle.tpm_types.specs.declared.command_code.CommandCode.{CommandCode}
use Rattle.tpm_commands.specs.declared.command.Command.{Command}
use Rattle.tpm_commands.specs.declared.command.Header.{Header}
use Rattle.tpm_commands.specs.declared.response.Response.{Response}
use Rattle.tpm_types.specs.CommandCodes.{command_code}
use Rattle.tpm_buffer.specs.Commands.{is_tag, tag, command_size, header, rest_of, command}
use Rattle.tpm_buffer.specs.Responses.{is_response_tag, response_tag, response_front, response_code, behind_code}
use Rattle.tpm_buffer.specs.Responses.{response}
use Rattle.tpm_buffer.proofs.Places.{all_read}

was_equal : (n m : ℕ) (a b : Bool) (x : ℕ) → or_fault {F = ℕ} (cond (eqb n m && a && b) (Some n) None) 0x142 ≡ Ok x → n ≡ m
was_equal n m a b x e = eqb-true n m (go (eqb n m) e)
  where
    go : (t : Bool) → or_fault {F = ℕ} (cond (t && a && b) (Some n) None) 0x142 ≡ Ok x → t ≡ true
    go true e = refl
    go false e = absurd cc

-- a tag takes two bytes
tag_is : (set : ℕ → Bool) (h : Here) (x : ℕ × Here) → read 0 (number_in 2 set 0x01E) h ≡ Ok x → (2 ≤ length h.rest) × (past 2 h ≡ x.1)
tag_is set h x e =
    let n = number_ok buffer buffer_sound 0 2 (λ left n. cond (set n) (Some n) None) (λ n. n) 0x01E h x e in
    (n.0, n.2)

size_is : (h : Here) (x : ℕ × Here) → read 0 command_size h ≡ Ok x → (4 ≤ length h.rest) × (number_of (take 4 h.rest) ≡ (length h.rest - 4) + 6)
unfolding command_size
size_is h x e =
    let n = number_ok buffer buffer_sound 0 4 (λ left n. cond ((eqb n (left + 6)) && leb 10 n && leb n 4096) (Some n) None) (λ n. n) 0x142 h x e in
    (n.0, was_equal (number_of (take 4 h.rest)) ((length h.rest - 4) + 6) (leb 10 (number_of (take 4 h.rest))) (leb (number_of (take 4 h.rest)) 4096) x.0 n.1)

-- The stated size is that of the bytes.
abbrev IsStated : List ℕ → Type 0
IsStated bytes = (6 ≤ length bytes) × (number_of (take 4 (drop 2 bytes)) ≡ length bytes)

stated : (bytes : List ℕ) (g : Here) (s : ℕ × Here) → (2 ≤ length bytes) × (past 2 (at_start bytes) ≡ g) → read 0 command_size g ≡ Ok s → IsStated bytes
stated bytes g s two is =
    let four = size_is g s is in
    let rest : g.rest ≡ drop 2 bytes = ap (λ (h : Here). h.rest) (sym two.1) in
    let len : length g.rest ≡ length bytes - 2 = omega (arith, ap length rest, length-drop 2 bytes) in
    let text : number_of (take 4 g.rest) ≡ number_of (take 4 (drop 2 bytes)) = ap (λ (r : List ℕ). number_of (take 4 r)) rest in
    (omega (arith, len, four.0), omega (arith, four.1, len, two.0, four.0, text))

no_more : (bytes more : List ℕ) → IsStated bytes → IsStated (bytes ++ more) → more ≡ []
no_more bytes more one two =
    let same : take 4 (drop 2 (bytes ++ more)) ≡ take 4 (drop 2 bytes) =
    ap (take 4) (drop-append-le 2 bytes more (omega (arith, one.0))) ∙ take-append-le 4 (drop 2 bytes) more (omega (arith, one.0, length-drop 2 bytes)) in
    nil_from_length more (omega (arith, one.1, two.1, ap number_of same, length-append bytes more))

-- ---- commands

stated_by_header : (bytes : List ℕ) (x : Header × Here) → read 0 header (at_start bytes) ≡ Ok x → IsStated bytes
unfolding header tag
stated_by_header bytes x e =
    let t =
    bind_ok (read 0 tag (at_start bytes))
    (λ t.
    read 0 command_size t.1
    >>= λ s.
    read 0 command_code s.1 >>= λ code. Ok (record { tag = t.0; size = s.0; code = code.0 }, code.1))
    x e in
    let s =
    bind_ok (read 0 command_size t.0.1)
    (λ s. read 0 command_code s.1 >>= λ code. Ok (record { tag = t.0.0; size = s.0; code = code.0 }, code.1))
    x t.2 in
    stated bytes t.0.1 s.0 (tag_is is_tag (at_start bytes) t.0 t.1) s.1

stated_command : (bytes : List ℕ) (c : Command) → Spells command c bytes → IsStated bytes
unfolding command
stated_command bytes c s =
    let all = all_read command bytes c (spells_read buffer buffer_sound command bytes c s) in
    let head = bind_ok (read 0 header (at_start bytes)) (λ x. read 0 (rest_of x.0.code x.0.tag) x.1) (c, all.0) all.1 in
    stated_by_header bytes head.0 head.1

pub no_prefix : (bytes more : List ℕ) (c d : Command) → Spells command c bytes → Spells command d (bytes ++ more) → more ≡ []
no_prefix bytes more c d s t = no_more bytes more (stated_command bytes c s) (stated_command (bytes ++ more) d t)

-- ---- responses

stated_by_front : (bytes : List ℕ) (x : (ℕ × ℕ) × Here) → read 0 response_front (at_start bytes) ≡ Ok x → IsStated bytes
unfolding response_front response_tag
stated_by_front bytes x e =
    let t = bind_ok (read 0 response_tag (at_start bytes)) (λ t. read 0 command_size t.1 >>= λ s. Ok ((t.0, s.0), s.1)) x e in
    let s = bind_ok (read 0 command_size t.0.1) (λ s. Ok ((t.0.0, s.0), s.1)) x t.2 in
    stated bytes t.0.1 s.0 (tag_is is_response_tag (at_start bytes) t.0 t.1) s.1

stated_response : (code : CommandCode) (bytes : List ℕ) (r : Response) → Spells (response code) r bytes → IsStated bytes
unfolding response
stated_response code bytes r s =
    let all = all_read (response code) bytes r (spells_read buffer buffer_sound (response code) bytes r s) in
    let front =
    bind_ok (read 0 response_front (at_start bytes))
    (λ f. read 0 (response_code f.0.0) f.1 >>= λ n. read 0 (behind_code code f.0.0 n.0) n.1) (r, all.0) all.1 in
    stated_by_front bytes front.0 front.1

pub no_response_prefix : (code : CommandCode) (bytes more : List ℕ) (r q : Response) → Spells (response code) r bytes
    → Spells (response code) q (bytes ++ more) → more ≡ []
no_response_prefix code bytes more r q s t = no_more bytes more (stated_response code bytes r s) (stated_response code (bytes ++ more) q t)
