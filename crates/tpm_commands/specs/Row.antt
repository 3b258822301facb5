-- What the table says of one command (Part 3, the command table and the response table of each).
use Rattle.std.specs.Prelude.{ℕ, Bool, List, [], ◌∷◌}
use Rattle.tpm_wire.specs.Buffers.{Layout}
use Rattle.tpm_commands.specs.declared.command_handles.HandleKind.{HandleKind}
use Rattle.tpm_commands.specs.declared.command.Params.{Params}
use Rattle.tpm_commands.specs.declared.command.ReplyBody.{ReplyBody}

-- a parameter of a command or of its reply, or a member of a structure, by its name and its type
pub record Field : Type 0 where
  pub name : List ℕ
  pub type : List ℕ

abbrev pub named : List ℕ → List ℕ → Field
named name type = record { name = name; type = type }

-- What the handles may be; whether the first needs
-- authorization; the parameters, and those of the reply with these handles; and how Part 3 names either, where a plus
-- behind a type, as of TPMT_SYM_DEF+, is no part of its name
pub record Row : Type 1 where
  pub handles : List HandleKind
  pub authorized : Bool
  pub parameters : Layout Params
  pub reply : List ℕ → Layout ReplyBody
  pub parameter_names : List Field
  pub reply_names : List Field

abbrev pub first : List ℕ → ℕ
first [] = 0
first (n ∷ ns) = n

abbrev pub others : List ℕ → List ℕ
others [] = []
others (n ∷ ns) = ns

abbrev pub second : List ℕ → ℕ
second ns = first (others ns)
