-- A row of the table of commands, as the code has it.
use Rattle.tpm_show.specs.declared.command_names.Listed.{Listed as RustListed}
use Rattle.tpm_show.specs.CommandNames.{Listed, listed}

abbrev pub listed_as : RustListed → Listed
listed_as c = listed c.number c.name.now c.handles c.reply_handles
