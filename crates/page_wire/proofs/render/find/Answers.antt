-- what was typed, if the fields are those of a search
use Rattle.std.proofs.Common.{Option, refl, subst}
use Rattle.find_form.specs.declared.form.FindForm.{FindForm}
use Rattle.service_core.specs.Seen.{settings_of}
use Rattle.page_wire.specs.Steps.{FindSteps, LookedBy, SearchFormSteps}
use Rattle.page_wire.proofs.Steps.{looked_out}
use Rattle.page_wire.proofs.render.find.Goals as goal

pub returns-in-Ok : goal.returns-in-Ok
returns-in-Ok g c =
    subst (λ (form : Option FindForm). LookedBy g.S.Store c.args.desk.now c.typed.new.desk
    (SearchFormSteps (settings_of g.S.Store c.args.desk.now) c.args.moment c.args.caller.now
    c.args.query.now c.args.start form) c.typed.result) c.in-Ok.ensures c.typed.ensures

pub returns-in-Err : goal.returns-in-Err
returns-in-Err g c =
    looked_out g.S.Store c.args.desk.now
    (FindSteps (settings_of g.S.Store c.args.desk.now) c.args.moment c.args.caller.now
    c.args.query.now c.args.start) _ _ refl
