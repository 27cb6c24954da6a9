-- What is asked by a call.
use Rattle.desk_model.specs.declared.call.Call.{Call}
use Rattle.desk_model.specs.declared.command.Command.{Command}
use Rattle.desk_model.specs.Step.{Ask}
use Rattle.service_core.specs.TableSteps.{ask_by}

-- the command, by its caller at its moment
abbrev pub asked : Call → Command → Ask
asked call command = ask_by call.at call.caller.now command
