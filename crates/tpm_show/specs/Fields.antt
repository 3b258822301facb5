-- The parameters of commands and replies, each by its name and its type, and what stands in it (this profile).
use Rattle.std.specs.Prelude.{List, [], ◌∷◌, codes as text, flat_map, Option, Some, None}
use Rattle.tpm_commands.specs.declared.command.CommandBody.{CommandBody}
use Rattle.tpm_commands.specs.declared.command.ReplyBody.{ReplyBody}
use Rattle.tpm_commands.specs.Table.{row}
use Rattle.tpm_commands.specs.Parameters.{parameters}
use Rattle.tpm_commands.specs.Replies.{code_for_reply, parameters_of_reply}
use Rattle.tpm_commands.specs.declared.command.CommandBody.TheVariants as bodies
use Rattle.tpm_commands.specs.declared.command.ReplyBody.TheVariants as replies
use Rattle.tpm_buffer.specs.Commands.{code_for, params_of}
use Rattle.tpm_show.specs.Parts.{digest_entry, digest_value_entry, public_parts, selection_entry, symmetric_parts}
use Rattle.tpm_show.specs.FieldText.{fields_from, parts}
use Rattle.tpm_show.specs.Pieces.{Piece}

-- ---- what stands in them

-- the parts of each parameter of a command, where they are told
abbrev pub command_insides : CommandBody → List (Option (List Piece))
command_insides (bodies.NvDefineSpace asked) = None ∷ Some (public_parts asked.public) ∷ []
command_insides (bodies.PolicyOr session digests) = Some (flat_map digest_entry digests) ∷ []
command_insides (bodies.StartAuthSession start) =
    None ∷ None ∷ None ∷ Some (symmetric_parts start.params.symmetric) ∷ []
command_insides (bodies.PcrRead selections) = Some (flat_map selection_entry selections) ∷ []
command_insides (bodies.PolicyPcr session asked) = None ∷ Some (flat_map selection_entry asked.selections) ∷ []
command_insides (bodies.PcrExtend register digests) = Some (flat_map digest_value_entry digests) ∷ []
command_insides _ = []

-- the parts of each parameter of a reply, where they are told
abbrev pub reply_insides : ReplyBody → List (Option (List Piece))
reply_insides (replies.PcrEvent digests) = Some (flat_map digest_value_entry digests) ∷ []
reply_insides (replies.NvReadPublic public name) = Some (public_parts public) ∷ []
reply_insides (replies.PcrRead update_counter selections digests) =
    None ∷ Some (flat_map selection_entry selections) ∷ Some (flat_map digest_entry digests) ∷ []
reply_insides _ = []

-- ---- all of them

-- each parameter of a command, with its parts
abbrev pub command_fields : CommandBody → List Piece
command_fields body = fields_from (text "  ") (row (code_for body)).parameter_names
    (parts (parameters (code_for body)) (params_of body)) (command_insides body)

-- each parameter of a reply, with its parts
abbrev pub reply_fields : ReplyBody → List Piece
reply_fields body = fields_from (text "  ") (row (code_for_reply body)).reply_names
    (parts (parameters_of_reply body) body) (reply_insides body)
