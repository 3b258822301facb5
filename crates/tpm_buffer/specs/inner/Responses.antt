-- A response by its code, or by its reply.
use Rattle.std.specs.Prelude.{ℕ, Option, Some, None}
use Rattle.tpm_commands.specs.declared.response.Response.{Response}
use Rattle.tpm_commands.specs.declared.response.Response.TheVariants as responses
use Rattle.tpm_buffer.specs.Responses.{Reply, done_with}

-- a nonzero code, or else what was read behind a code of 0
abbrev pub code_or_done : Option ℕ → Reply → Response
code_or_done (Some n) r = responses.Code n
code_or_done None r = done_with r
