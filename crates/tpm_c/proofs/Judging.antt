-- A command that is judged in two steps: what stands before its parameters, and them.
use Rattle.std.proofs.Common.{◌≡◌, ◌≤◌, ◌<◌, ℕ, ◌+◌, ◌-◌, false, eqb, leb, List, [], ◌∷◌, ◌++◌, length}
use Rattle.std.proofs.Common.{take, drop, Result, Ok, Err, refl, sym, ap, subst, ◌∙◌, arith, inl, inr}
use Rattle.std.proofs.lemmas.Bool.{cases_Bool, leb-true, leb-false, ne_eqb}
use Rattle.std.proofs.lemmas.List.{append_assoc, length-append, length-take-le, take_all, take-append-drop, drop_at}
use Rattle.std.specs.Prelude.{IfOk, IfErr}
use Rattle.tpm_wire.specs.declared.refusal.Refusal.{Refusal}
use Rattle.tpm_wire.specs.ResponseCodes.{rc_size}
use Rattle.tpm_wire.specs.Spelling.{spelling}
use Rattle.tpm_wire.specs.Token.{Token, Here, past, at_start, spelled, spelled_all}
use Rattle.tpm_wire.specs.Reading.{read, read_all, finish, ◌>>=◌}
use Rattle.tpm_wire.specs.Buffers.{buffer, Layout}
use Rattle.tpm_wire.specs.Longer.{with_more}
use Rattle.tpm_wire.specs.Path.{Next, IsPath, after, start, Spells, Fault, Decodes}
use Rattle.tpm_wire.proofs.Buffers.{buffer_sound}
use Rattle.tpm_wire.proofs.Longer.{TakesAtMost}
use Rattle.tpm_wire.proofs.Whole.{spells_read, read_spells, fault_read, read_fault}
use Rattle.tpm_types.specs.declared.command_code.CommandCode.{CommandCode}
use Rattle.tpm_commands.specs.declared.command.Command.{Command}
use Rattle.tpm_commands.specs.declared.command.Params.{Params}
use Rattle.tpm_commands.specs.Handles.{handles}
use Rattle.tpm_commands.specs.Parameters.{parameters, placed}
use Rattle.tpm_commands.proofs.EachCommand.{of_parameters}
use Rattle.tpm_types.proofs.Short.{ok, err}
use Rattle.tpm_buffer.specs.Commands.{header, authorization, body_from, with_auths, command}
use Rattle.tpm_buffer.specs.CommandAreas.{Cut, HasCut, checked, IsSpelledBy}
use Rattle.tpm_buffer.proofs.Staged.{of_parts, of_params}
use Rattle.tpm_c.specs.inner.Builds.{HasFront}

-- ---- a fault lies in the bytes, or right behind them

within : {A : Type 0} (next : Next buffer A) (h : Here) (ts : List Token) → IsPath next h ts → length (spelled_all ts) ≤ length h.rest
within next h [] p = omega arith
within next h (t ∷ ts) p =
    let n = length (spelled t) in
    let more = within (after next t) (past n h) ts p.1 in
    omega (arith, more, ap length p.0.2, length-append (spelled t) (drop n h.rest), length-append (spelled t) (spelled_all ts))

fault_within : {A : Type 0} (l : Layout A) (bytes : List ℕ) (e : Refusal) → Fault l bytes e → e.at ≤ length bytes
fault_within l bytes e f = omega (arith, ap (λ (r : Refusal). r.at) f.2.2, within (start l (length bytes)) (at_start bytes) f.0 f.1)

-- ---- parameters alone

pub are_judged : (code : CommandCode) (bytes : List ℕ) (p : Params) (r : Result (Unit {0}) Refusal)
    → Decodes (parameters code) (λ (q : Params). q) bytes (placed p r)
    → IfOk r (λ _. (q : Params) × Spells (parameters code) q bytes)
    × IfErr r (λ e. Fault (parameters code) bytes e × (e.at ≤ length bytes))
are_judged code bytes p (Ok u) d = ((p, d), tt)
are_judged code bytes p (Err e) d = (tt, (d, fault_within (parameters code) bytes e d))

-- ---- and in the command

-- what holds of these parameters holds of the cut's
of_cut : (P : CommandCode → List ℕ → Type 0) (code : CommandCode) (params : List ℕ) (x : Cut) → code ≡ x.header.code → params ≡ x.params
    → P code params → P x.header.code x.params
of_cut P code params x same_code same_params p =
    subst (λ (k : CommandCode). P k x.params) same_code (subst (λ (l : List ℕ). P code l) same_params p)

pub is_command : (bytes : List ℕ) (x : Cut) (code : CommandCode) (params : List ℕ) → HasCut bytes x → code ≡ x.header.code
    → params ≡ x.params → ((p : Params) × Spells (parameters code) p params) → (c : Command) × Spells command c bytes
is_command bytes x code params has same_code same_params s =
    let its = of_cut (λ (k : CommandCode) (l : List ℕ). Spells (parameters k) s.0 l) code params x same_code same_params s.1 in
    (with_auths (body_from x.handles s.0) x.auths, of_parts bytes x.params (checked x) s.0 has.0 its)

pub is_refused : (bytes : List ℕ) (x : Cut) (code : CommandCode) (params : List ℕ) (at : ℕ) (e : Refusal) → HasCut bytes x
    → code ≡ x.header.code → params ≡ x.params → at ≡ x.params_at → Fault (parameters code) params e
    → Fault command bytes (record { code = e.code; at = at + e.at })
is_refused bytes x code params at e has same_code same_params there f =
    let its = of_cut (λ (k : CommandCode) (l : List ℕ). Fault (parameters k) l e) code params x same_code same_params f in
    let further : e.at + (length bytes - length x.params) ≡ at + e.at = omega (arith, has.1, there) in
    subst (λ (n : ℕ). Fault command bytes (record { code = e.code; at = n })) further (of_params bytes x.params (checked x) e has.0 its)

-- ---- the first bytes of parameters

abbrev whole : {A : Type 0} → Result (A × Here) Refusal → Result A Refusal
whole o = (o >>= finish buffer) >>= λ x. ok x.0

-- behind what was read there are bytes left
left_over : {A : Type 0} (x : A × Here) → 0 < length x.1.rest → whole (ok x) ≡ err (record { code = rc_size; at = x.1.at })
left_over x some =
    let n : eqb (length x.1.rest) 0 ≡ false = ne_eqb (length x.1.rest) 0 (λ e. omega (arith, some, e)) in
    rw n refl

-- More bytes than a layout takes have a fault, which more bytes behind don't change.
longer_same : {A : Type 0} (k : ℕ) (l : Layout A) (bytes more : List ℕ) → TakesAtMost k l → k < length bytes
    → read_all l bytes ≡ read_all l (bytes ++ more)
longer_same {A = A} k l bytes more takes room = go (read 0 l (at_start bytes)) refl
  where
    go : (o : Result (A × Here) Refusal) → read 0 l (at_start bytes) ≡ o
        → whole (read 0 l (at_start bytes)) ≡ whole (read 0 l (at_start (bytes ++ more)))
    go (Ok x) is =
        let some : 0 < length x.1.rest = omega (arith, room, takes.most 0 (at_start bytes) x is) in
        let longer : 0 < length (x.1.rest ++ more) = omega (arith, some, length-append x.1.rest more) in
        ap whole is
        ∙ left_over x some
        ∙ sym (ap whole (takes.same 0 (at_start bytes) more x is) ∙ left_over (x.0, with_more more x.1) longer)
    go (Err e) is = ap whole is ∙ sym (ap whole (takes.fault 0 (at_start bytes) more e (omega (arith, room)) is))

first_same : (code : CommandCode) (bytes : List ℕ) → read_all (parameters code) (take 1101 bytes) ≡ read_all (parameters code) bytes
first_same code bytes =
    elim (cases_Bool (leb (length bytes) 1101)) [
      | inl all ↦ ap (read_all (parameters code)) (take_all 1101 bytes (leb-true (length bytes) 1101 all))
      | inr more ↦
          let long : 1101 < length bytes = leb-false (length bytes) 1101 more in
          let room : 1100 < length (take 1101 bytes) = omega (arith, length-take-le 1101 bytes (omega (arith, long))) in
          longer_same 1100 (parameters code) (take 1101 bytes) (drop 1101 bytes) (of_parameters code) room
          ∙ ap (read_all (parameters code)) (take-append-drop 1101 bytes)
    ]

pub first_spell : (code : CommandCode) (bytes : List ℕ) → ((p : Params) × Spells (parameters code) p (take 1101 bytes))
    → (p : Params) × Spells (parameters code) p bytes
first_spell code bytes s = (
  s.0,
  read_spells buffer buffer_sound (parameters code) bytes s.0
      (sym (first_same code bytes) ∙ spells_read buffer buffer_sound (parameters code) (take 1101 bytes) s.0 s.1),
)

pub first_fault : (code : CommandCode) (bytes : List ℕ) (e : Refusal) → Fault (parameters code) (take 1101 bytes) e → Fault (parameters code) bytes e
first_fault code bytes e f =
    read_fault buffer buffer_sound (parameters code) bytes e
    (sym (first_same code bytes) ∙ fault_read buffer buffer_sound (parameters code) (take 1101 bytes) e f)

-- ---- where the parameters begin

pub params_lie : (bytes : List ℕ) (x : Cut) → HasCut bytes x → IsSpelledBy bytes x → x.params ≡ drop x.params_at bytes
params_lie bytes x has s =
    let h = spelling header x.header in
    let hs = spelling (handles x.header.code) x.handles in
    let auths = spelling (authorization x.header.tag) x.auths in
    let text : bytes ≡ (h ++ (hs ++ auths)) ++ x.params =
    s.text ∙ sym (append_assoc h (hs ++ auths) x.params ∙ ap (λ (l : List ℕ). h ++ l) (append_assoc hs auths x.params)) in
    let long : length (h ++ (hs ++ auths)) ≡ x.params_at =
    omega (arith, has.1, ap length text, length-append (h ++ (hs ++ auths)) x.params) in
    sym (ap (drop x.params_at) text ∙ drop_at (h ++ (hs ++ auths)) x.params x.params_at long)

pub front_of : (bytes : List ℕ) (x : Cut) (code : CommandCode) (at : ℕ) → HasCut bytes x → IsSpelledBy bytes x
    → code ≡ x.header.code → at ≡ x.params_at → HasFront bytes code at
front_of bytes x code at has s same_code there = (
  x,
  has,
  sym same_code,
  sym there,
  params_lie bytes x has s ∙ ap (λ (n : ℕ). drop n bytes) (sym there),
)

pub begins_within : (bytes : List ℕ) (code : CommandCode) (at : ℕ) → HasFront bytes code at → at ≤ length bytes
begins_within bytes code at f = omega (arith, f.1.1, f.3)

pub spells_behind : (bytes : List ℕ) (code : CommandCode) (at : ℕ) (params : List ℕ) → HasFront bytes code at → params ≡ take 1101 (drop at bytes)
    → ((p : Params) × Spells (parameters code) p params) → (c : Command) × Spells command c bytes
spells_behind bytes code at params f are s =
    is_command bytes f.0 code (drop at bytes) f.1 (sym f.2) (sym f.4)
    (first_spell code (drop at bytes) (s.0, subst (Spells (parameters code) s.0) are s.1))

pub fault_behind : (bytes : List ℕ) (code : CommandCode) (at : ℕ) (params : List ℕ) (e : Refusal) → HasFront bytes code at
    → params ≡ take 1101 (drop at bytes) → Fault (parameters code) params e → Fault command bytes (record { code = e.code; at = at + e.at })
fault_behind bytes code at params e f are bad =
    is_refused bytes f.0 code (drop at bytes) at e f.1 (sym f.2) (sym f.4) (sym f.3)
    (first_fault code (drop at bytes) e (subst (λ (l : List ℕ). Fault (parameters code) l e) are bad))
