-- what the message asks for, or its fault
use Rattle.std.proofs.Common.{◌≡◌, Ok, Err, refl, rules, subst}
use Rattle.std.proofs.lemmas.Result.{on_err_weaker, on_ok_weaker}
use Rattle.route_core.specs.Commands.{Asked, asked_of}
use Rattle.service_core.specs.Seen.{settings_of, tables_of}
use Rattle.wire_core.specs.Rooms.{held_in}
use Rattle.wire_core.specs.Steps.{CommandStepsOn, LeavesOn}
use Rattle.wire_core.proofs.Stepping.{anyway, leaves_same, told_unasked}
use Rattle.wire_core.proofs.step.reply_to.Goals as goal

pub returns-in-Ok-clause-ok : goal.returns-in-Ok-clause-ok
returns-in-Ok-clause-ok g c =
    let settings = settings_of g.S.Store c.args.desk.now in
    let asked :
    Ok (c.as_str.result.now, c.in-Ok.command) ≡ asked_of settings c.args.message.now =
    search rules in
    on_ok_weaker c.do_command-replied.result
    (λ done. subst (λ (a : Asked). CommandStepsOn settings c.args.at
    c.args.message.now a (held_in c.do_command-replied.new.room)
    (tables_of g.S.Store c.args.desk.now) (tables_of g.S.Store c.do_command-replied.new.desk))
    asked (rw c.is_head-head_only.ensures at done))
    c.do_command-replied.ensures.ok

pub returns-in-Ok-clause-err : goal.returns-in-Ok-clause-err
returns-in-Ok-clause-err g c =
    let settings = settings_of g.S.Store c.args.desk.now in
    let asked :
    Ok (c.as_str.result.now, c.in-Ok.command) ≡ asked_of settings c.args.message.now =
    search rules in
    on_err_weaker c.do_command-replied.result
    (λ left. (
      left.0,
      subst (λ (a : Asked). LeavesOn settings a
          (tables_of g.S.Store c.args.desk.now)
          (tables_of g.S.Store c.do_command-replied.new.desk)) asked left.1,
    ))
    c.do_command-replied.ensures.err

pub returns-in-Err-clause-ok : goal.returns-in-Err-clause-ok
returns-in-Err-clause-ok g c =
    let settings = settings_of g.S.Store c.args.desk.now in
    let asked : Err c.in-Err.unasked ≡ asked_of settings c.args.message.now = search rules in
    told_unasked settings c.args.at c.args.message.now c.in-Err.unasked c.is_head-head_only.result
    c.put_unasked.result (held_in c.put_unasked.new.room) (tables_of g.S.Store c.args.desk.now)
    c.is_head-head_only.ensures asked c.put_unasked.ensures.ok

pub returns-in-Err-clause-err : goal.returns-in-Err-clause-err
returns-in-Err-clause-err g c =
    let settings = settings_of g.S.Store c.args.desk.now in
    on_err_weaker c.put_unasked.result
    (λ none. (
      none,
      leaves_same settings (asked_of settings c.args.message.now)
          (tables_of g.S.Store c.args.desk.now),
    ))
    c.put_unasked.ensures.err

pub returns-in_err-caller-clause-err : goal.returns-in_err-caller-clause-err
returns-in_err-caller-clause-err g c =
    let settings = settings_of g.S.Store c.args.desk.now in
    anyway c.from_residual.result (
      refl,
      leaves_same settings (asked_of settings c.args.message.now)
          (tables_of g.S.Store c.args.desk.now),
    )
