-- What an accepted buffer spells, and how its sessions were read.
use Rattle.std.proofs.Common.{◌≡◌, ℕ, List, Result, Ok, Err, refl, sym, ap, ◌∙◌, subst}
use Rattle.tpm_wire.specs.declared.refusal.Refusal.{Refusal}
use Rattle.tpm_wire.specs.Buffers.{buffer}
use Rattle.tpm_wire.specs.Layout.{cut}
use Rattle.tpm_wire.specs.Token.{Here, at_start}
use Rattle.tpm_wire.specs.Reading.{read, read_all, ◌>>=◌}
use Rattle.tpm_wire.specs.Path.{Spells}
use Rattle.tpm_wire.proofs.Agreement.{bind_ok}
use Rattle.tpm_wire.proofs.Buffers.{buffer_sound}
use Rattle.tpm_wire.proofs.Whole.{read_spells}
use Rattle.tpm_wire.proofs.Cuts.{cut_read, parted}
use Rattle.tpm_types.specs.declared.tpms.Auth.{Auth}
use Rattle.tpm_commands.specs.declared.command.Header.{Header}
use Rattle.tpm_commands.specs.Handles.{handles}
use Rattle.tpm_commands.specs.Parameters.{parameters}
use Rattle.tpm_buffer.specs.Commands.{header, authorization, body_from, with_auths, Checked, before_params, command}
use Rattle.tpm_buffer.proofs.Staged.{of_parts}
use Rattle.tpm_model.specs.Present.{Present}
use Rattle.tpm_model.specs.Answers.{Presented, evidence_in, presented, Done, code_only, by_grammar, check_started}
use Rattle.tpm_model.specs.Answers.{check_handles, check_tag}
use Rattle.tpm_model.proofs.Accepted.{Passed, ok_is}

-- how the areas before the parameters were read, and the evidence of authorization found
pub record Read (p : Present) (bytes : List ℕ) (x : Presented) : Type 0 where
  pub before : Checked
  pub place : Here
  pub is : read 0 before_params (at_start bytes) ≡ Ok (before, place)
  pub code : x.code ≡ before.header.code
  pub handles : x.handles ≡ before.handles
  pub auths : x.auths ≡ before.auths
  pub params : x.params ≡ place.rest
  pub tag : check_tag before.header.code before.header.tag ≡ Ok tt
  pub area : Here
  pub listed : read 0 (authorization before.header.tag) area ≡ Ok (before.auths, place)
  pub evidence : evidence_in p x.code x.handles x.params x.auths ≡ Ok x.evidence

pub code_ok : {A : Type 0} (r : Result A Refusal) (x : A) → code_only r ≡ Ok x → r ≡ Ok x
code_ok (Ok y) x e = let same : y ≡ x = ok_is y x e in ap (λ (z : _). let k : Result _ Refusal = Ok z in k) same
code_ok (Err e) x c = absurd (let k : ⊥ = cc in k)

-- the three cuts in turn
pub read_in_turn : (bytes : List ℕ) (a : Header × Here) (b : List ℕ × Here) (c : List Auth × Here)
    → read 0 header (at_start bytes) ≡ Ok a → read 0 (handles a.0.code) a.1 ≡ Ok b → read 0 (authorization a.0.tag) b.1 ≡ Ok c
    → read 0 before_params (at_start bytes) ≡ Ok (record { header = a.0; handles = b.0; auths = c.0 }, c.1)
unfolding before_params
read_in_turn bytes a b c e f g = rw (e, f, g) refl

pub was_read : (p : Present) (bytes : List ℕ) (x : Presented) → presented p bytes ≡ Ok x → Read p bytes x
was_read p bytes x e =
    let a = bind_ok (by_grammar header (at_start bytes)) _ x e in
    let head = a.0 in
    let c = bind_ok (check_started p.started head.0.code) _ x a.2 in
    let d = bind_ok (by_grammar (handles head.0.code) head.1) _ x c.2 in
    let list = d.0 in
    let f = bind_ok (check_handles p 1 list.0) _ x d.2 in
    let g = bind_ok (check_tag head.0.code head.0.tag) _ x f.2 in
    let i = bind_ok (by_grammar (authorization head.0.tag) list.1) _ x g.2 in
    let auths = i.0 in
    let j = bind_ok (evidence_in p head.0.code list.0 auths.1.rest auths.0) _ x i.2 in
    subst (Read p bytes) (ok_is _ x j.2) (record {
      before = record { header = head.0; handles = list.0; auths = auths.0 };
      place = auths.1;
      is = read_in_turn bytes head list auths (code_ok _ head a.1) (code_ok _ list d.1) (code_ok _ auths i.1);
      code = refl;
      handles = refl;
      auths = refl;
      params = refl;
      tag = g.1;
      area = list.1;
      listed = code_ok _ auths i.1;
      evidence = j.1;
    })

-- An accepted buffer spells the command that is done.
pub spelled_by : (p : Present) (bytes n : List ℕ) (d : Done) → Passed p bytes n d → Spells command d.command bytes
spelled_by p bytes n d s =
    let r = was_read p bytes s.x s.asked in
    let before =
    read_spells buffer buffer_sound (cut before_params) bytes (r.before, r.place.rest) (cut_read before_params bytes ∙ ap (λ o. o >>= parted) r.is) in
    let params = read_spells buffer buffer_sound (parameters r.before.header.code) r.place.rest s.params
    (subst (λ code. read_all (parameters code) r.place.rest ≡ Ok s.params) r.code
    (subst (λ rest. read_all (parameters s.x.code) rest ≡ Ok s.params) r.params (code_ok _ s.params s.read)))
    in
    let parts = of_parts bytes r.place.rest r.before s.params before params in
    let body : d.command.body ≡ body_from r.before.handles s.params = s.body ∙ ap (λ hs. body_from hs s.params) r.handles in
    let auths : d.command.auths.items ≡ r.before.auths = s.auths ∙ r.auths in
    let whole : d.command ≡ with_auths (body_from r.before.handles s.params) r.before.auths =
    ap (λ b. with_auths b d.command.auths.items) body ∙ ap (with_auths (body_from r.before.handles s.params)) auths in
    subst (λ c. Spells command c bytes) (sym whole) parts
