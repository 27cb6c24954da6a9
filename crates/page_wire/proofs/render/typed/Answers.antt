-- the search of the form, or none
use Rattle.std.proofs.Common.{Option, [], subst, sym}
use Rattle.find_form.specs.Form.{filled}
use Rattle.find_form.specs.declared.fault.FindFault.TheVariants.{Fields}
use Rattle.find_form.specs.declared.form.FindForm.{FindForm}
use Rattle.service_core.specs.Seen.{settings_of}
use Rattle.page_wire.specs.Replies.{find_fault_reply}
use Rattle.page_wire.specs.Steps.{LookedBy, SearchFormSteps}
use Rattle.page_wire.proofs.Steps.{looked_fixed}
use Rattle.page_wire.proofs.render.typed.Goals as goal

pub returns-in-Some : goal.returns-in-Some
returns-in-Some g c =
    subst (λ (form : Option FindForm). LookedBy g.S.Store c.args.desk.now c.search-reply.new.desk
    (SearchFormSteps (settings_of g.S.Store c.args.desk.now) c.args.moment c.args.caller.now
    c.args.query.now c.args.start form) c.search-reply.result) (sym c.in-Some.is)
    c.search-reply.ensures

pub returns-in-None : goal.returns-in-None
returns-in-None g c =
    subst (λ (form : Option FindForm). LookedBy g.S.Store c.args.desk.now c.args.desk.now
    (SearchFormSteps (settings_of g.S.Store c.args.desk.now) c.args.moment c.args.caller.now
    c.args.query.now c.args.start form) c.no_search.result) (sym c.in-None.is)
    (looked_fixed g.S.Store c.args.desk.now
    (find_fault_reply c.args.caller.now c.args.moment Fields (filled [])) c.no_search.result
    c.no_search.ensures)
