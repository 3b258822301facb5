-- What contracts see of a command that is read in steps.
use Rattle.std.specs.Prelude.{◌≡◌, ◌≢◌, ℕ, ◌+◌, ◌<◌, true, List, ◌++◌, length, Result, Ok, Err}
use Rattle.tpm_wire.specs.declared.refusal.Refusal.{Refusal}
use Rattle.tpm_wire.specs.Spelling.{spelling}
use Rattle.tpm_wire.specs.Token.{Here}
use Rattle.tpm_wire.specs.Layout.{cut}
use Rattle.tpm_wire.specs.Reading.{read}
use Rattle.tpm_wire.specs.Path.{Spells, Begins, FaultFrom}
use Rattle.tpm_types.specs.declared.tpms.Auth.{Auth}
use Rattle.tpm_commands.specs.declared.command.Header.{Header}
use Rattle.tpm_commands.specs.Handles.{handles, handle_kinds, AreAdmitted}
use Rattle.tpm_buffer.specs.Commands.{is_tag, header, authorization, Checked, before_params}

-- ---- a command whose header was read, and the place behind it

pub record HeaderCut : Type 0 where
  pub header : Header
  pub here : Here

abbrev pub head_and_rest : HeaderCut → Header × Here
head_and_rest x = (x.header, x.here)

-- ---- a command whose header and handles were read, and the place behind them

pub record HandlesCut : Type 0 where
  pub header : Header
  pub handles : List ℕ
  pub here : Here

-- The handles, and the place behind them, are what is read behind the header.
abbrev pub IsHandled : HeaderCut → Result HandlesCut Refusal → Type 0
IsHandled x (Ok y) = (read 0 (handles x.header.code) x.here ≡ Ok (y.handles, y.here)) × (y.header ≡ x.header)
IsHandled x (Err e) = read 0 (handles x.header.code) x.here ≡ Err e

-- From the place behind the header on, the bytes begin with these handles, or have this fault.
abbrev pub HasHandles : HeaderCut → Result HandlesCut Refusal → Type 0
HasHandles x (Ok y) = Begins 0 (handles x.header.code) y.handles x.here y.here
HasHandles x (Err e) = FaultFrom 0 (handles x.header.code) x.here e

-- ---- a command whose parameters are not judged: its parts, the parameters as they came, and how many bytes are
-- before them

pub record Cut : Type 0 where
  pub header : Header
  pub handles : List ℕ
  pub auths : List Auth
  pub params : List ℕ
  pub params_at : ℕ

-- what stands before the parameters
abbrev pub checked : Cut → Checked
checked c = record { header = c.header; handles = c.handles; auths = c.auths }

-- the place at which the parameters begin
abbrev pub params_here : Cut → Here
params_here c = record { rest = c.params; at = c.params_at }

-- The bytes have this cut: what stands before the parameters, and then the parameters to the end.
abbrev pub HasCut : List ℕ → Cut → Type 0
HasCut bytes c = Spells (cut before_params) (checked c, c.params) bytes × (c.params_at + length c.params ≡ length bytes)

-- The sessions, and the place behind them, are what is read behind the handles.
abbrev pub IsAreas : HandlesCut → Result Cut Refusal → Type 0
IsAreas x (Ok y) =
    (read 0 (authorization x.header.tag) x.here ≡ Ok (y.auths, params_here y))
    × (y.header ≡ x.header)
    × (y.handles ≡ x.handles)
IsAreas x (Err e) = read 0 (authorization x.header.tag) x.here ≡ Err e

-- From the place behind the handles on, the bytes begin with these sessions, or have this fault.
abbrev pub HasAreas : HandlesCut → Result Cut Refusal → Type 0
HasAreas x (Ok y) = Begins 0 (authorization x.header.tag) y.auths x.here (params_here y)
HasAreas x (Err e) = FaultFrom 0 (authorization x.header.tag) x.here e

-- ---- bytes that are spelled by what was read of them

pub record IsSpelledBy (bytes : List ℕ) (c : Cut) : Type 0 where
  pub tag : is_tag c.header.tag ≡ true
  pub size : c.header.size ≡ length bytes
  pub admitted : AreAdmitted (handle_kinds c.header.code) c.handles
  pub none : c.header.tag ≢ 0x8002 → length c.auths ≡ 0
  pub some : c.header.tag ≡ 0x8002 → 0 < length c.auths
  pub text : bytes
      ≡ spelling header c.header
      ++ (spelling (handles c.header.code) c.handles ++ (spelling (authorization c.header.tag) c.auths ++ c.params))
