-- The exit statuses.
use Rattle.std.specs.Prelude.{ℕ}
use Rattle.desk_program.specs.declared.status.Status.{Status}
use Rattle.desk_program.specs.declared.status.Status.TheVariants.{Done, Refused, BadWords}
use Rattle.desk_program.specs.declared.status.Status.TheVariants.{BadSettings, Failed}

abbrev pub code_of : Status → ℕ
code_of Done = 0
code_of Refused = 1
code_of BadWords = 2
code_of BadSettings = 3
code_of Failed = 4
