-- The command for which a sheet asks.
use Rattle.std.specs.Prelude.{ℕ, List, Option, Some, None}
use Rattle.desk_model.specs.declared.command.Command.{Command}
use Rattle.desk_forms.specs.ArgumentSource.{ArgumentSource}
use Rattle.desk_forms.specs.Table.{arguments, build_command}
use Rattle.desk_forms.specs.Arguments.{Arguments, no_arguments, many_in, put_all}
use Rattle.desk_forms.specs.declared.table.CommandForm.{CommandForm}

abbrev pub made_if : CommandForm → Option Arguments → Option (List (List ℕ)) → Option Command
made_if form (Some v) (Some many) = Some (build_command form v many)
made_if form _ _ = None

-- the command of a form for which the sheet asks, if it gives what the form needs
abbrev pub command_from : CommandForm → ArgumentSource → Option Command
command_from form sheet =
    made_if form (put_all (arguments form) sheet no_arguments) (many_in (arguments form) sheet)
