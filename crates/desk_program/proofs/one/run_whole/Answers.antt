-- the step that was made, and its text, or no memory for it
use Rattle.std.proofs.Common.{◌∙◌, Err, ap, refl}
use Rattle.desk_model.specs.declared.refusal.Refusal.TheVariants.{Unavailable}
use Rattle.service_core.specs.Seen.{settings_of, tables_of}
use Rattle.stream_core.specs.Seen.{has_write_failed}
use Rattle.desk_program.specs.FaultLines.{unavailable_text}
use Rattle.desk_program.specs.Status.{code_of}
use Rattle.desk_program.proofs.Stepped.{stepped}
use Rattle.desk_program.proofs.one.run_whole.Goals as goal

pub returns-in-Ok-clause-printed : goal.returns-in-Ok-clause-printed
returns-in-Ok-clause-printed g c = (
  c.into_text-text.result.items,
  stepped (settings_of g.S.Store c.args.desk.now) c.args.at c.args.caller.now c.args.command.now
      c.in-Ok.told.outcome (has_write_failed c.put.new.self)
      (tables_of g.S.Store c.args.desk.now) (tables_of g.S.Store c.execute_as_text.new.self)
      c.into_text-text.result.items (code_of c.status_of-status.result)
      (ap (λ v. v.items) c.into_text-text.ensures ∙ c.in-Ok.ensures.ok.told)
      c.status_of-status.ensures c.in-Ok.ensures.ok.step,
  rw c.as_slice.ensures.value at c.put.ensures.printed,
)

pub returns-in-Err-clause-printed : goal.returns-in-Err-clause-printed
returns-in-Err-clause-printed g c = (
  unavailable_text,
  stepped (settings_of g.S.Store c.args.desk.now) c.args.at c.args.caller.now c.args.command.now
      (Err Unavailable) (has_write_failed c.put_unavailable.new.output)
      (tables_of g.S.Store c.args.desk.now) (tables_of g.S.Store c.execute_as_text.new.self)
      unavailable_text 1 refl refl c.in-Err.ensures.err,
  c.put_unavailable.ensures.printed,
)

pub returns-in-Ok-clause-honest : goal.returns-in-Ok-clause-honest
returns-in-Ok-clause-honest g c = c.execute_as_text.ensures.left.clean

pub returns-in-Err-clause-honest : goal.returns-in-Err-clause-honest
returns-in-Err-clause-honest g c = c.execute_as_text.ensures.left.clean
