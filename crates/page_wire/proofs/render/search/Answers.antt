-- the search that was typed, or its fault
use Rattle.std.proofs.Common.{◌≡◌, Ok, Result, subst, sym}
use Rattle.find_core.specs.declared.search.Search.{Search}
use Rattle.find_form.specs.SearchFields.{search_of}
use Rattle.find_form.specs.declared.fault.FindFault.{FindFault}
use Rattle.service_core.specs.Seen.{settings_of}
use Rattle.page_wire.specs.Steps.{LookedBy, SearchSteps}
use Rattle.page_wire.proofs.render.search.Goals as goal

pub returns-in-Ok : goal.returns-in-Ok
returns-in-Ok g c =
    let is = subst (λ back. search_of c.args.caller.now back c.args.form.now ≡ Ok c.in-Ok.search)
    c.is_back.ensures c.in-Ok.ensures.ok in
    subst (λ (asked : Result Search FindFault). LookedBy g.S.Store c.args.desk.now
    c.found-reply.new.desk (SearchSteps (settings_of g.S.Store c.args.desk.now) c.args.moment
    c.args.caller.now c.args.query.now c.args.start c.args.form.now asked) c.found-reply.result)
    (sym is) c.found-reply.ensures
