-- the command of the words was run, or there is none
use Rattle.std.proofs.Common.{inr, Option, subst, sym}
use Rattle.desk_model.specs.declared.command.Command.{Command}
use Rattle.store_core.specs.Seen.{connection_of}
use Rattle.stream_core.specs.Seen.{has_write_failed}
use Rattle.desk_program.specs.One.{IsCommandOutput}
use Rattle.desk_program.specs.Status.{code_of}
use Rattle.desk_program.proofs.one.run_words.Goals as goal

pub returns-in-Ok-clause-printed : goal.returns-in-Ok-clause-printed
returns-in-Ok-clause-printed g c =
    let run = c.run_command-ended.ensures.printed in (
      run.0,
      inr (
          subst (λ (o : Option Command). IsCommandOutput g.S.Store c.args.settings.now c.args.at
          c.args.caller.now o (has_write_failed c.run_command-ended.new.output)
          (connection_of g.S.Store c.args.store)
          (connection_of g.S.Store c.run_command-ended.result.1) run.0
          (code_of c.run_command-ended.result.0))
          (sym c.in-Ok.ensures.ok) run.1
          ),
      run.2,
    )
