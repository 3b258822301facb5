-- A command that was read is spelled by the bytes that it was read from.
use Rattle.std.proofs.Common.{◌≡◌, ◌≢◌, ℕ, ◌<◌, true, false, cond, eqb, List, ◌++◌, length, refl, sym, subst, ap, ◌∙◌}
use Rattle.std.proofs.Common.{arith, inl, inr}
use Rattle.std.proofs.lemmas.Bool.{or_cases, eqb-true, ne_eqb}
use Rattle.std.proofs.lemmas.List.{length-append, append-nil}
use Rattle.tpm_wire.specs.Spelling.{spelling}
use Rattle.tpm_types.specs.declared.tpms.Auth.{Auth}
use Rattle.tpm_types.specs.declared.command_code.CommandCode.{CommandCode}
use Rattle.tpm_commands.specs.declared.command.Header.{Header}
use Rattle.tpm_commands.specs.declared.command.Params.{Params}
use Rattle.tpm_types.specs.CommandCodes.{command_code}
use Rattle.tpm_commands.specs.Handles.{AreAdmitted, handle_kinds, handles}
use Rattle.tpm_commands.specs.Parameters.{params_code, parameters}
use Rattle.tpm_commands.proofs.EachCommand.{handles_again, params_again}
use Rattle.tpm_buffer.specs.Commands.{is_tag, tag, command_size, header, authorization, body_from, code_for, handles_of}
use Rattle.tpm_buffer.specs.Commands.{with_auths, tag_of, size_of, header_of, rest_of, command}

tag_again : (t : ℕ) (auths : List Auth) → is_tag t ≡ true → (t ≢ 0x8002 → length auths ≡ 0)
    → (t ≡ 0x8002 → 0 < length auths) → cond (eqb (length auths) 0) 0x8001 0x8002 ≡ t
tag_again t auths is none some =
    elim (or_cases (eqb t 0x8001) (eqb t 0x8002) is) [
      | inl one ↦ let e = eqb-true t 0x8001 one in let n : length auths ≡ 0 = none (λ f. omega (arith, e, f)) in rw n (sym e)
      | inr two ↦
          let e = eqb-true t 0x8002 two in
          let n : eqb (length auths) 0 ≡ false = ne_eqb (length auths) 0 (λ z. omega (arith, some e, z)) in rw n (sym e)
    ]

header_is : (t u n m : ℕ) (c d : CommandCode) → t ≡ u → n ≡ m → c ≡ d
    → (let h : Header = record { tag = t; size = n; code = c } in h) ≡ record { tag = u; size = m; code = d }
header_is t u n m c d e f g = rw (e, f, g) refl

-- the bytes of a command, by its parts
pub canonical : (h : Header) (hs : List ℕ) (auths : List Auth) (p : Params) (bytes : List ℕ) → is_tag h.tag ≡ true → h.size ≡ length bytes
    → AreAdmitted (handle_kinds h.code) hs → params_code p ≡ h.code → (h.tag ≢ 0x8002 → length auths ≡ 0) → (h.tag ≡ 0x8002 → 0 < length auths)
    → bytes ≡ spelling header h ++ (spelling (handles h.code) hs ++ (spelling (authorization h.tag) auths ++ spelling (parameters h.code) p))
    → bytes ≡ spelling command (with_auths (body_from hs p) auths)
unfolding command header tag command_size command_code
canonical h hs auths p bytes is size admitted code none some text =
    let c = with_auths (body_from hs p) auths in
    let same_code : code_for c.body ≡ h.code = ap params_code (params_again p hs) ∙ code in
    let same_handles : handles_of c.body ≡ hs = handles_again p hs (subst (λ (k : CommandCode). AreAdmitted (handle_kinds k) hs) (sym code) admitted) in
    let same_tag : tag_of c ≡ h.tag = tag_again h.tag auths is none some in
    let behind : spelling (rest_of h.code h.tag) c
    ≡ spelling (handles h.code) hs ++ (spelling (authorization h.tag) auths ++ spelling (parameters h.code) p) =
    rw (same_handles, params_again p hs, append-nil (spelling (parameters h.code) p)) refl in
    let short : spelling (rest_of (code_for c.body) (tag_of c)) c ≡ spelling (rest_of h.code h.tag) c = rw (same_code, same_tag) refl in
    let same_size : size_of c ≡ h.size =
    omega (
      arith,
      size,
      ap length text,
      length-append (spelling header h)
          (spelling (handles h.code) hs
          ++ (spelling (authorization h.tag) auths ++ spelling (parameters h.code) p)),
      ap length behind,
      ap length short,
    ) in
    let same_header : header_of c ≡ h = header_is (tag_of c) h.tag (size_of c) h.size (code_for c.body) h.code same_tag same_size same_code in
    text
    ∙ ap (λ (t : List ℕ). spelling header h ++ t) (sym behind)
    ∙ ap (λ (k : Header). spelling header k ++ spelling (rest_of k.code k.tag) c) (sym same_header)
