-- each page is the one that is asked for
use Rattle.std.proofs.Common.{◌∙◌, ap, subst, sym}
use Rattle.page_routes.specs.declared.page.Page.{Page}
use Rattle.page_routes.specs.declared.page.Page.TheVariants.{New, Queue}
use Rattle.page_wire.specs.Steps.{Looked}
use Rattle.page_wire.proofs.render.render_page.Goals as goal

pub returns-in-Home : goal.returns-in-Home
returns-in-Home g c =
    subst (λ (page : Page). Looked g.S.Store c.args.desk.now c.home.new.desk c.args.moment
    c.args.caller.now page c.home.result) (sym c.in-Home.is) c.home.ensures

pub returns-in-Queue : goal.returns-in-Queue
returns-in-Queue g c =
    subst (λ (page : Page). Looked g.S.Store c.args.desk.now c.queue.new.desk c.args.moment
    c.args.caller.now page c.queue.result) (ap Queue c.as_str.ensures ∙ sym c.in-Queue.is)
    c.queue.ensures

pub returns-in-New : goal.returns-in-New
returns-in-New g c =
    subst (λ (page : Page). Looked g.S.Store c.args.desk.now c.new.new.desk c.args.moment
    c.args.caller.now page c.new.result) (ap New c.as_str-in-New.ensures ∙ sym c.in-New.is) c.new.ensures

pub returns-in-Request : goal.returns-in-Request
returns-in-Request g c =
    subst (λ (page : Page). Looked g.S.Store c.args.desk.now c.request.new.desk c.args.moment
    c.args.caller.now page c.request.result) (sym c.in-Request.is) c.request.ensures

pub returns-in-Overdue : goal.returns-in-Overdue
returns-in-Overdue g c =
    subst (λ (page : Page). Looked g.S.Store c.args.desk.now c.overdue.new.desk c.args.moment
    c.args.caller.now page c.overdue.result) (sym c.in-Overdue.is) c.overdue.ensures

pub returns-in-Workload : goal.returns-in-Workload
returns-in-Workload g c =
    subst (λ (page : Page). Looked g.S.Store c.args.desk.now c.workload.new.desk c.args.moment
    c.args.caller.now page c.workload.result) (sym c.in-Workload.is) c.workload.ensures
