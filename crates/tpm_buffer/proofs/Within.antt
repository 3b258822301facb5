-- What is read from a stage on is what the bytes begin with there.
use Rattle.std.proofs.Common.{arith, ◌≡◌, List, ℕ, length, Result, Ok, Err, sym, ap, subst, ◌∙◌}
use Rattle.std.specs.Prelude.{◌↔◌}
use Rattle.tpm_wire.specs.declared.refusal.Refusal.{Refusal}
use Rattle.tpm_wire.specs.Token.{Here, at_start}
use Rattle.tpm_wire.specs.Layout.{cut}
use Rattle.tpm_wire.specs.Reading.{read, Gives}
use Rattle.tpm_wire.specs.Path.{Fault}
use Rattle.tpm_wire.specs.Buffers.{buffer}
use Rattle.tpm_wire.proofs.Buffers.{buffer_sound}
use Rattle.tpm_wire.proofs.Agreement.{ok_is, err_is, ends_same}
use Rattle.tpm_wire.proofs.Whole.{reads_its_path}
use Rattle.tpm_wire.proofs.Cuts.{cut_decodes}
use Rattle.tpm_commands.specs.Handles.{handles}
use Rattle.tpm_types.proofs.Short.{ok, err}
use Rattle.tpm_buffer.specs.Commands.{authorization, Checked, before_params}
use Rattle.tpm_buffer.specs.CommandAreas.{HeaderCut, HandlesCut, Cut, IsHandled, HasHandles, checked, params_here}
use Rattle.tpm_buffer.specs.CommandAreas.{HasCut, IsAreas, HasAreas}
use Rattle.tpm_buffer.specs.inner.CommandAreas.{areas_view}
use Rattle.tpm_buffer.proofs.Places.{here_is}
use Rattle.tpm_buffer.proofs.Staged.{cut_fault, cut_value}

pub has_handles : (x : HeaderCut) (r : Result HandlesCut Refusal) → IsHandled x r → HasHandles x r
has_handles x (Ok y) is = ((reads_its_path buffer buffer_sound 0 (handles x.header.code) x.here).value y.handles y.here).0 is.0
has_handles x (Err e) is = ((reads_its_path buffer buffer_sound 0 (handles x.header.code) x.here).fault e).0 is

pub has_areas : (x : HandlesCut) (r : Result Cut Refusal) → IsAreas x r → HasAreas x r
has_areas x (Ok y) is = ((reads_its_path buffer buffer_sound 0 (authorization x.header.tag) x.here).value y.auths (params_here y)).0 is.0
has_areas x (Err e) is = ((reads_its_path buffer buffer_sound 0 (authorization x.header.tag) x.here).fault e).0 is

-- ---- a cut is the only one

abbrev of_parts : Checked → Here → Cut
of_parts x g = record { header = x.header; handles = x.handles; auths = x.auths; params = g.rest; params_at = g.at }

pub cut_ok : (bytes : List ℕ) (r : Result Cut Refusal) → Gives areas_view (read 0 before_params (at_start bytes)) r → (c : Cut) → (r ≡ Ok c) ↔ HasCut bytes c
cut_ok bytes r is c = (to r is, from r is)
  where
    to : (r : Result Cut Refusal) → Gives areas_view (read 0 before_params (at_start bytes)) r → r ≡ Ok c → HasCut bytes c
    to r is e =
        let there : Gives areas_view (read 0 before_params (at_start bytes)) (ok c) =
        subst (λ (o : Result Cut Refusal). Gives areas_view (read 0 before_params (at_start bytes)) o) e is in (
          cut_decodes before_params areas_view bytes (ok c) there,
          omega (arith, ends_same buffer buffer_sound 0 before_params (at_start bytes) (areas_view c) there),
        )

    from : (r : Result Cut Refusal) → Gives areas_view (read 0 before_params (at_start bytes)) r → HasCut bytes c → r ≡ Ok c
    from (Ok d) is has =
        let g = cut_value bytes c.params (checked c) has.0 in
        let ends = ends_same buffer buffer_sound 0 before_params (at_start bytes) (checked c, g.0) g.1 in
        let place : g.0.at ≡ c.params_at = omega (arith, ends, has.1, ap length g.2) in
        let pairs : areas_view d ≡ (checked c, g.0) = ok_is _ _ (sym is ∙ g.1) in
        let there : params_here d ≡ params_here c = ap (λ (z : Checked × Here). z.1) pairs ∙ here_is g.0 c.params c.params_at g.2 place in
        ap (λ (x : Checked). ok (of_parts x (params_here d))) (ap (λ (z : Checked × Here). z.0) pairs) ∙ ap (λ (h : Here). ok (of_parts (checked c) h)) there
    from (Err e) is has =
        let g = cut_value bytes c.params (checked c) has.0 in
        absurd (let w : ok (checked c, g.0) ≡ err e = sym g.1 ∙ is in cc)

pub cut_err : (bytes : List ℕ) (r : Result Cut Refusal) → Gives areas_view (read 0 before_params (at_start bytes)) r
    → (e : Refusal) → (r ≡ Err e) ↔ Fault (cut before_params) bytes e
cut_err bytes r is e = (to r is, from r is)
  where
    to : (r : Result Cut Refusal) → Gives areas_view (read 0 before_params (at_start bytes)) r → r ≡ Err e → Fault (cut before_params) bytes e
    to r is d =
        cut_decodes before_params areas_view bytes (err {A = Cut} e)
        (subst (λ (o : Result Cut Refusal). Gives areas_view (read 0 before_params (at_start bytes)) o) d is)

    from : (r : Result Cut Refusal) → Gives areas_view (read 0 before_params (at_start bytes)) r → Fault (cut before_params) bytes e → r ≡ Err e
    from (Ok d) is f = absurd (let w : ok (areas_view d) ≡ err e = sym is ∙ cut_fault before_params bytes e f in let z : ⊥ = cc in z)
    from (Err d) is f = ap (err {A = Cut}) (err_is {A = Checked × Here} d e (sym is ∙ cut_fault before_params bytes e f))
