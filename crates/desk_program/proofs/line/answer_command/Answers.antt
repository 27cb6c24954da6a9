-- the step that was made, and its text, or no memory for it
use Rattle.std.proofs.Common.{◌∙◌, Err, ap, refl}
use Rattle.desk_model.specs.declared.refusal.Refusal.TheVariants.{Unavailable}
use Rattle.desk_program.specs.FaultLines.{unavailable_text}
use Rattle.desk_program.proofs.LedLines.{led_by_step}
use Rattle.service_core.specs.Seen.{settings_of, tables_of}
use Rattle.desk_program.proofs.line.answer_command.Goals as goal

pub returns-in-Ok-clause-ok : goal.returns-in-Ok-clause-ok
returns-in-Ok-clause-ok g c =
    led_by_step (settings_of g.S.Store c.args.desk.now) c.args.at c.args.caller.now
    c.args.command.now c.in-Ok.told.outcome (tables_of g.S.Store c.args.desk.now)
    (tables_of g.S.Store c.execute_as_text.new.self) c.into_text.result.items
    (ap (λ v. v.items) c.into_text.ensures ∙ c.in-Ok.ensures.ok.told) c.in-Ok.ensures.ok.step

pub returns-in-Err-clause-err : goal.returns-in-Err-clause-err
returns-in-Err-clause-err g c =
    led_by_step (settings_of g.S.Store c.args.desk.now) c.args.at c.args.caller.now
    c.args.command.now (Err Unavailable) (tables_of g.S.Store c.args.desk.now)
    (tables_of g.S.Store c.execute_as_text.new.self) unavailable_text refl c.in-Err.ensures.err
