-- the page of what is found
use Rattle.std.proofs.Common.{subst}
use Rattle.find_form.specs.Shown.{place_of}
use Rattle.service_core.specs.Finding.{FindsOn}
use Rattle.service_core.specs.Seen.{settings_of, tables_of}
use Rattle.page_wire.specs.Replies.{find_reply}
use Rattle.page_wire.proofs.Steps.{finds, left_spared, spared_if}
use Rattle.page_wire.proofs.render.found.Goals as goal

pub returns : goal.returns
returns g c =
    let s = settings_of g.S.Store c.args.desk.now in
    let caller = c.args.caller.now in
    let at = c.args.moment in
    let search = c.args.search.now in
    let old = tables_of g.S.Store c.args.desk.now in
    let new = tables_of g.S.Store c.find-result.new.self in
    let told =
    subst (λ n. FindsOn s n caller search 101 (place_of c.args.start) c.find-result.result old new)
    c.get.ensures.number
    (subst (λ place. FindsOn s c.get.result caller search 101 place c.find-result.result old new)
    c.place.ensures c.find-result.ensures.found) in
    record {
      ok = finds s at caller c.args.start search
          (find_reply caller at c.args.query.now c.args.start c.args.form.now search.order)
          c.find-result.result c.find_reply.result old new told c.find_reply.ensures;
      err = spared_if s c.find_reply.result old new c.find-result.ensures.kept;
      left = left_spared g.S.Store c.args.desk.now c.find-result.new.self
          c.find-result.ensures.same c.find-result.ensures.kept;
    }
