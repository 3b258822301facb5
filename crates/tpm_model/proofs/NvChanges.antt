-- A command and its answer tell whether NV memory was changed.
use Rattle.std.proofs.Common.{◌≡◌, ℕ, ◌+◌, ◌<◌, ◌≤◌, List, [], ◌∷◌, ◌++◌, length, Ok, Err, Option, Some, None, Bool}
use Rattle.std.proofs.Common.{true, false, refl, sym, ap, ◌∙◌, arith, length-append}
use Rattle.std.proofs.lemmas.Bool.{and_from, le-leb}
use Rattle.std.proofs.lemmas.Bool.Decides.{nat_tests}
use Rattle.std.specs.Prelude.{◌==◌, ◌↔◌, ◌&&◌, nat_le, if◌then◌else◌}
use Rattle.tpm_wire.specs.Token.{at_start}
use Rattle.tpm_wire.proofs.Agreement.{bind_ok}
use Rattle.tpm_types.specs.declared.handle_sets.NvAuthHandle.{NvAuthHandle}
use Rattle.tpm_types.specs.declared.tpms.NvPublic.{NvPublic}
use Rattle.tpm_commands.specs.declared.command.CommandBody.{CommandBody}
use Rattle.tpm_commands.specs.declared.command.ReplyBody.{ReplyBody}
use Rattle.tpm_commands.specs.declared.command.CommandBody.TheVariants as bodies
use Rattle.tpm_commands.specs.declared.command.ReplyBody.TheVariants as replies
use Rattle.tpm_buffer.specs.Commands.{header, authorization, code_for, command_size}
use Rattle.tpm_commands.specs.Handles.{handles}
use Rattle.tpm_buffer.specs.Responses.{response_tag, response_front, response_code, response}
use Rattle.tpm_model.specs.Steps.{History, Origin}
use Rattle.tpm_model.specs.Counters.{Counter, has_index, counter_in, without, next_value}
use Rattle.tpm_model.specs.Counters.{NvMemory, defined, nv_by, nv_memory}
use Rattle.tpm_model.specs.Present.{Present, present}
use Rattle.tpm_model.specs.Answers.{Done, Presented, presented, outcome, answered, answer, next, with_outcome, by_grammar}
use Rattle.tpm_model.specs.Answers.{check_started, check_handles, check_tag, evidence_in}
use Rattle.tpm_model.specs.Actions.{defined_counter, then_reply, action}
use Rattle.tpm_model.specs.Premises.{code_in}
use Rattle.tpm_model.specs.NvChanges.{writes_nv, names_writer, is_success, changes_nv}
use Rattle.tpm_model.proofs.Accepted.{passed, ok_is, was_some}
use Rattle.tpm_model.proofs.Refused.{refused_with}
use Rattle.tpm_model.proofs.OwnCode.{own_code}
use Rattle.tpm_model.proofs.Told.{zero_told, told_refused}
use Rattle.tpm_model.proofs.Rising.{value_in, value_given, was_there}

-- ---- what the buffers tell

-- the code of the header that was read
header_read : (p : Present) (bytes : List ℕ) (x : Presented) → presented p bytes ≡ Ok x
    → names_writer (by_grammar header (at_start bytes)) ≡ writes_nv x.code
header_read p bytes x e =
    let a = bind_ok (by_grammar header (at_start bytes)) _ x e in
    let head = a.0 in
    let b = bind_ok (check_started p.started head.0.code) _ x a.2 in
    let c = bind_ok (by_grammar (handles head.0.code) head.1) _ x b.2 in
    let list = c.0 in
    let d = bind_ok (check_handles p 1 list.0) _ x c.2 in
    let f = bind_ok (check_tag head.0.code head.0.tag) _ x d.2 in
    let g = bind_ok (by_grammar (authorization head.0.tag) list.1) _ x f.2 in
    let i = bind_ok (evidence_in p head.0.code list.0 g.0.1.rest g.0.0) _ x g.2 in
    ap names_writer a.1 ∙ ap (λ (y : Presented). writes_nv y.code) (ok_is _ x i.2)

ten_told : (d : Done) → 10 ≤ length (answered (Ok d))
unfolding response response_front response_tag response_code command_size
ten_told d = omega arith

success_told : (d : Done) → is_success (answered (Ok d)) ≡ true
success_told d = and_from _ _ (le-leb 10 (length (answered (Ok d))) (ten_told d)) (ap (λ n. n == 0) (zero_told d))

-- What was done tells it by its command alone.
pub told_by : (o : Origin) (h : History) (bytes n : List ℕ) (d : Done) → outcome (present o h) bytes n ≡ Ok d
    → changes_nv bytes (answer o h bytes n) ≡ writes_nv (code_for d.command.body)
told_by o h bytes n d e =
    let s = passed (present o h) bytes n d e in
    let named = names_writer (by_grammar header (at_start bytes)) in
    ap (λ x. is_success (answered x) && named) e
    ∙ ap (λ b. b && named) (success_told d)
    ∙ header_read (present o h) bytes s.x s.asked
    ∙ ap writes_nv (sym (own_code (present o h) bytes n d s))

refused_told : (command response : List ℕ) (code : ℕ) → code_in response ≡ code → 0 < code → changes_nv command response ≡ false
refused_told command response code is some =
    let not : (code_in response == 0) ≡ false = grind (arith, nat_tests, is, some) in
    elim (nat_le 10 (length response)) as (λ b. (b && (code_in response == 0) && names_writer (by_grammar header (at_start command))) ≡ false)
    [ true ↦ rw not refl | false ↦ refl ]

-- ---- what commands do

left_alone : (body : CommandBody) (nv : NvMemory) → writes_nv (code_for body) ≡ false → nv_by body nv ≡ nv
left_alone (bodies.NvDefineSpace asked) nv e = absurd (let z : ⊥ = cc in z)
left_alone (bodies.NvUndefineSpace index) nv e = absurd (let z : ⊥ = cc in z)
left_alone (bodies.NvIncrement by index) nv e = absurd (let z : ⊥ = cc in z)
left_alone _ nv e = refl

-- a value that increments raise
not_next : (most : ℕ) (value : Option ℕ) → Some (next_value most value) ≡ value → ⊥
not_next most None e = cc
not_next most (Some v) e = let k : v + 1 ≡ v = cc in omega (arith, k)

-- One counter more.
not_defined : (auth : List ℕ) (public : NvPublic) (nv : NvMemory) → nv_by (bodies.NvDefineSpace (record { auth = auth; public = public })) nv ≡ nv → ⊥
not_defined auth public nv e =
    let k : length (nv.counters ++ defined auth public ∷ []) ≡ length nv.counters = ap (λ (m : NvMemory). length m.counters) e in
    omega (arith, k, length-append nv.counters (defined auth public ∷ []))

none_more : (index : ℕ) (counters : List Counter) → length (without index counters) ≤ length counters
none_more index [] = omega arith
none_more index (c ∷ counters) = go (has_index index c) refl (none_more index counters)
  where
    go : (b : Bool) → has_index index c ≡ b → length (without index counters) ≤ length counters
        → length (without index (c ∷ counters)) ≤ length (c ∷ counters)
    go true t few = rw t (omega (arith, few))
    go false t few = rw t (omega (arith, few))

one_less : (index : ℕ) (counters : List Counter) (c : Counter) → counter_in counters index ≡ Some c
    → length (without index counters) < length counters
one_less index [] c e = absurd (let z : ⊥ = cc in z)
one_less index (d ∷ counters) c e = go (has_index index d) refl (none_more index counters) (one_less index counters c)
  where
    go : (b : Bool) → has_index index d ≡ b → length (without index counters) ≤ length counters
        → (counter_in counters index ≡ Some c → length (without index counters) < length counters)
        → length (without index (d ∷ counters)) < length (d ∷ counters)
    go true t few later = rw t (omega (arith, few))
    go false t few later =
        let there : counter_in counters index ≡ Some c = sym (ap (λ b. if b then Some d else counter_in counters index) t) ∙ e in
        let less = later there in
        rw t (omega (arith, less))

-- One counter less.
not_undefined : (index : ℕ) (nv : NvMemory) (c : Counter) → counter_in nv.counters index ≡ Some c
    → nv_by (bodies.NvUndefineSpace index) nv ≡ nv → ⊥
not_undefined index nv c there e =
    let k : length (without index nv.counters) ≡ length nv.counters = ap (λ (m : NvMemory). length m.counters) e in
    omega (arith, k, one_less index nv.counters c there)

-- A counter's value is another.
not_incremented : (by : NvAuthHandle) (index : ℕ) (nv : NvMemory) (c : Counter) → counter_in nv.counters index ≡ Some c
    → nv_by (bodies.NvIncrement by index) nv ≡ nv → ⊥
not_incremented by index nv c there e = not_next nv.greatest (value_in nv.counters index)
    (sym (value_given index nv.greatest nv.counters c there) ∙ ap (λ (m : NvMemory). value_in m.counters index) e)

was_defined : (there : Option Counter) (reply : ReplyBody) → then_reply (defined_counter there) replies.NvUndefineSpace ≡ Ok reply
    → (c : Counter) × (there ≡ Some c)
was_defined there reply e =
    let a = bind_ok (defined_counter there) _ reply e in
    (a.0, was_some there _ a.0 a.1)

changed : (p : Present) (body : CommandBody) (n : List ℕ) (reply : ReplyBody) → action p body n ≡ Ok reply → writes_nv (code_for body) ≡ true
    → nv_by body p.nv ≡ p.nv → ⊥
changed p (bodies.NvDefineSpace asked) n reply act w = not_defined asked.auth asked.public p.nv
changed p (bodies.NvUndefineSpace index) n reply act w =
    let c = was_defined (counter_in p.nv.counters index) reply act in
    not_undefined index p.nv c.0 c.1
changed p (bodies.NvIncrement by index) n reply act w =
    let c = was_there p.nv.greatest (counter_in p.nv.counters index) by index reply act in
    not_incremented by index p.nv c.0 c.1
changed p _ n reply act w = absurd (let z : ⊥ = cc in z)

-- ---- the law

pub changes_told : (o : Origin) (h : History) (bytes n : List ℕ)
    → (changes_nv bytes (answer o h bytes n) ≡ false) ↔ (nv_memory o (next o h bytes n) ≡ nv_memory o h)
changes_told o h bytes n =
    elim (outcome (present o h) bytes n) as (λ r. outcome (present o h) bytes n ≡ r
    → (changes_nv bytes (answer o h bytes n) ≡ false) ↔ (nv_memory o (with_outcome h n r) ≡ nv_memory o h)) [
      | Ok d ↦ λ e. done o h bytes n d e
      | Err code ↦ λ e. (
        λ _. refl,
        λ _. refused_told bytes (answer o h bytes n) code (told_refused o h bytes n code e) (refused_with (present o h) bytes n code e).0,
      )
    ] refl
  where
    done : (o : Origin) (h : History) (bytes n : List ℕ) (d : Done) → outcome (present o h) bytes n ≡ Ok d
        → (changes_nv bytes (answer o h bytes n) ≡ false) ↔ (nv_by d.command.body (nv_memory o h) ≡ nv_memory o h)
    done o h bytes n d e =
        let told = told_by o h bytes n d e in
        let act = (passed (present o h) bytes n d e).act in (
          λ not. left_alone d.command.body (nv_memory o h) (sym told ∙ not),
          λ same.
              elim (writes_nv (code_for d.command.body)) as (λ b. writes_nv (code_for d.command.body) ≡ b → changes_nv bytes (answer o h bytes n) ≡ false) [
                | true ↦ λ w. absurd (changed (present o h) d.command.body n d.reply.body act w same)
                | false ↦ λ w. told ∙ w
              ] refl,
        )

-- of an answer that is given
pub told_exactly : (o : Origin) (h : History) (bytes n response : List ℕ) (said : Bool) → said ≡ changes_nv bytes response
    → response ≡ answer o h bytes n → (said ≡ false) ↔ (nv_memory o (next o h bytes n) ≡ nv_memory o h)
told_exactly o h bytes n response said is e = rw (is, e) (changes_told o h bytes n)
