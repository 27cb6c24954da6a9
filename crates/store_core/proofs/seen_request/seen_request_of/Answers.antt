use Rattle.std.proofs.Common.{◌≡◌, ◌∙◌, map-id, refl, rules, sym}
use Rattle.std.proofs.lemmas.Iterator.Adapters.{YieldsList-from_vec}
use Rattle.std.proofs.lemmas.Iterator.Consumers.{YieldsList-end}
use Rattle.desk_model.specs.declared.rows.WatchRole.TheVariants.{AdminCc, Cc, Requestor}
use Rattle.store_core.proofs.FactsLemmasOfDesk.{persons_more}
use Rattle.store_core.proofs.seen_request.seen_request_of.Goals as goal

pub loop-watcher-preserved : goal.loop-watcher-preserved
loop-watcher-preserved c =
    let ws = c.loop-watcher.yielded in
    let w = c.in-Some.watcher in
    let so_far = c.loop-watcher.invariant in
    let put = c.in_ok-put_watcher.ensures in
    record {
      requestors = persons_more Requestor ws w so_far.requestors put.requestors;
      cc = persons_more Cc ws w so_far.cc put.cc;
      admin_cc = persons_more AdminCc ws w so_far.admin_cc put.admin_cc;
    }

pub returns-clause-ok : goal.returns-clause-ok
returns-clause-ok c =
    let i = c.loop-watcher.invariant in
    let all : c.loop-watcher.yielded ≡ c.args.watchers.items =
    sym (map-id _) ∙ (YieldsList-end (YieldsList-from_vec c.args.watchers.items (search rules)
    (search rules)) c.loop-watcher.yielded _ c.loop-watcher.yielded_by _ c.next.new.self
    c.in-None.is c.next.ensures.steps).0 in
    rw (
      c.from.ensures,
      c.from-2.ensures,
      c.from-3.ensures,
      i.requestors,
      i.cc,
      i.admin_cc,
      all,
    ) refl
