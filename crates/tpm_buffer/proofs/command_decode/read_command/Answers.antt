use Rattle.std.proofs.Common.{◌≡◌, ◌++◌, [], List, ℕ, Ok, Err, length, true, false, eqb, sym, ap, ◌∙◌, arith}
use Rattle.std.proofs.lemmas.Bool.{ne_eqb, eq-eqb}
use Rattle.std.proofs.lemmas.List.{append-nil, nil_from_length}
use Rattle.std.proofs.lemmas.Result.{err_from_is_err_and}
use Rattle.tpm_wire.specs.Token.{at_start}
use Rattle.tpm_wire.specs.Reading.{read}
use Rattle.tpm_wire.specs.Spelling.{spelling}
use Rattle.tpm_wire.specs.Buffers.{Place}
use Rattle.tpm_commands.specs.Handles.{handles}
use Rattle.tpm_commands.specs.Parameters.{parameters}
use Rattle.tpm_buffer.specs.Commands.{header, authorization, body_from, params_of, before_params}
use Rattle.tpm_buffer.specs.CommandAreas.{Cut, checked}
use Rattle.tpm_buffer.specs.inner.CommandAreas.{cut_of}
use Rattle.tpm_buffer.proofs.Canonical.{canonical}
use Rattle.tpm_buffer.proofs.Staged.{areas_fault, params_fault, left_over, command_is}
use Rattle.tpm_buffer.proofs.command_decode.read_command.Goals as goal

pub returns-in_err-header-clause-reads : goal.returns-in_err-header-clause-reads
returns-in_err-header-clause-reads c =
    let e = c.in_err-header.field-0.0 in
    let p = err_from_is_err_and c.from_residual.result c.from_residual.ensures.1 in
    let before : read 0 before_params (at_start c.args.bytes.now) ≡ Err e =
    ap (λ (p : Place). read 0 before_params p.here) (sym c.new-cursor.ensures) ∙ c.in_err-header.ensures.reads in
    rw (p.1, p.2) (areas_fault c.args.bytes.now e before)

pub returns-in_err-read-clause-reads : goal.returns-in_err-read-clause-reads
returns-in_err-read-clause-reads c =
    let h = c.read_before_params.new.cursor.here in
    let a : Cut = cut_of c.in_ok-header.header c.in_ok-header.handles.items c.read_before_params.new.auths.items h in
    let e = c.in_err-read.field-0.0 in
    let p = err_from_is_err_and c.from_residual-in_err-read.result c.from_residual-in_err-read.ensures.1 in
    let before : read 0 before_params (at_start c.args.bytes.now) ≡ Ok (checked a, h) =
    ap (λ (p : Place). read 0 before_params p.here) (sym c.new-cursor.ensures) ∙ c.in_ok-header.ensures.reads in
    let bad : read 0 (parameters a.header.code) h ≡ Err e = c.in_err-read.ensures.reads in
    rw (p.1, p.2) (params_fault c.args.bytes.now (checked a) h e before bad)

pub returns-in_err-end-clause-reads : goal.returns-in_err-end-clause-reads
returns-in_err-end-clause-reads c =
    let h = c.read_before_params.new.cursor.here in
    let a : Cut = cut_of c.in_ok-header.header c.in_ok-header.handles.items c.read_before_params.new.auths.items h in
    let g = c.read.new.cursor.here in
    let p = err_from_is_err_and c.from_residual-in_err-end.result c.from_residual-in_err-end.ensures.1 in
    let before : read 0 before_params (at_start c.args.bytes.now) ≡ Ok (checked a, h) =
    ap (λ (p : Place). read 0 before_params p.here) (sym c.new-cursor.ensures) ∙ c.in_ok-header.ensures.reads in
    let good : read 0 (parameters a.header.code) h ≡ Ok (params_of c.read.new.self, g) = c.in_ok-read.ensures.reads in
    let more : eqb (length g.rest) 0 ≡ false = ne_eqb (length g.rest) 0 (λ e. omega (arith, e, c.in_err-end.ensures.0)) in
    rw (p.1, p.2, c.in_err-end.ensures.1) (left_over c.args.bytes.now (checked a) h g (params_of c.read.new.self) before good more)

pub returns-clause-reads : goal.returns-clause-reads
returns-clause-reads c =
    let h = c.read_before_params.new.cursor.here in
    let a : Cut = cut_of c.in_ok-header.header c.in_ok-header.handles.items c.read_before_params.new.auths.items h in
    let p = params_of c.read.new.self in
    let g = c.read.new.cursor.here in
    let before : read 0 before_params (at_start c.args.bytes.now) ≡ Ok (checked a, h) =
    ap (λ (p : Place). read 0 before_params p.here) (sym c.new-cursor.ensures) ∙ c.in_ok-header.ensures.reads in
    let good : read 0 (parameters a.header.code) h ≡ Ok (p, g) = c.in_ok-read.ensures.reads in
    let none : eqb (length g.rest) 0 ≡ true = eq-eqb (length g.rest) 0 c.in_ok-end.ensures in
    let body = c.in_ok-read.ensures.body ∙ ap (λ (ns : List ℕ). body_from ns p) c.as_slice.ensures.value in
    rw body (command_is c.args.bytes.now (checked a) h g p before good none)

pub returns-clause-spelled : goal.returns-clause-spelled
returns-clause-spelled c =
    let h = c.read_before_params.new.cursor.here in
    let a : Cut = cut_of c.in_ok-header.header c.in_ok-header.handles.items c.read_before_params.new.auths.items h in
    let begin : c.new-cursor.result.here.rest ≡ c.args.bytes.now = ap (λ (p : Place). p.here.rest) c.new-cursor.ensures in
    let s = c.in_ok-header.ensures.spelled in
    let p = params_of c.read.new.self in
    let g = c.read.new.cursor.here in
    let none : g.rest ≡ [] = nil_from_length g.rest c.in_ok-end.ensures in
    let code = c.in_ok-read.ensures.code in
    let params : h.rest ≡ spelling (parameters a.header.code) p =
    c.in_ok-read.ensures.spelled
    ∙ ap (λ (r : List ℕ). spelling (parameters a.header.code) p ++ r) none
    ∙ append-nil (spelling (parameters a.header.code) p) in
    let text =
    sym begin
    ∙ s.text
    ∙ ap
    (λ (r : List ℕ).
    spelling header a.header
    ++ (spelling (handles a.header.code) a.handles
    ++ (spelling (authorization a.header.tag) a.auths ++ r))) params in
    let body = c.in_ok-read.ensures.body ∙ ap (λ (ns : List ℕ). body_from ns p) c.as_slice.ensures.value in
    rw body (canonical a.header a.handles a.auths p c.args.bytes.now s.tag (s.size ∙ ap length begin) s.admitted code s.none s.some text)
