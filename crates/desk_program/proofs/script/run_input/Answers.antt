-- the script of the input was run
use Rattle.std.proofs.Common.{Ok}
use Rattle.desk_program.specs.Input.{Script}
use Rattle.desk_program.proofs.script.run_input.Goals as goal

pub returns-in-Ok-clause-printed : goal.returns-in-Ok-clause-printed
returns-in-Ok-clause-printed g c =
    let script = c.in-Ok.script in
    let found : Script =
    record { settings = script.settings.now; commands = script.commands.now } in
    let run = c.run_commands.ensures.printed in
    (Ok found, run.1, c.in-Ok.ensures.ok, (run.0, run.2, run.3), run.4)
