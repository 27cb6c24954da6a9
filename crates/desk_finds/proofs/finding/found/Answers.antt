use Rattle.std.proofs.Common.{◌∙◌, ◌<◌, ◌++◌, [], ◌∷◌, List, Some, Option, ap, ap₂}
use Rattle.std.proofs.Common.{length, map, rules, sym}
use Rattle.std.specs.Option.{option_map}
use Rattle.std.proofs.lemmas.List.{map-append, take_all}
use Rattle.find_core.specs.Ordered.{Placed}
use Rattle.find_core.specs.Rows.{Dated, found_by}
use Rattle.find_core.specs.declared.search.Found.{Found}
use Rattle.store_tables.proofs.Spared.{joined, stands_for}
use Rattle.desk_finds.specs.Found.{found_of, last_by, requestors_at}
use Rattle.desk_finds.proofs.FoundLemmas.{map_more}
use Rattle.desk_finds.proofs.finding.found.Goals as goal

pub loop-placed-preserved : goal.loop-placed-preserved
loop-placed-preserved g c =
    let page = c.args.page.now in
    let i = c.loop-placed.placed-index in
    let low : i < length page = search rules in
    let so_far = c.loop-placed.invariant in
    let item : Placed = c.placed-item.result in
    let s = c.args.call.settings.now in
    let caller = c.args.call.caller.now in
    let mine = c.args.own.now in
    let queues = c.args.queues.now in
    record {
      told =
          λ own rise up desk is stand clean.
          let f = found_of s caller mine queues c.args.rows.now desk in
          let told : Dated → Found =
          λ d. found_by s queues (last_by s caller mine desk d.0) (requestors_at desk d.0.id) d in
          let before =
          so_far.told own rise up desk is stand (c.found_at.ensures.kept.clean clean) in
          let here =
          ap Some (c.in_ok-found.ensures.told own rise desk is (stands_for so_far.kept desk stand) clean)
          ∙ ap (option_map told) (sym (sym (c.row_at.ensures up) ∙ c.in_ok-dated.ensures.ok))
          ∙ ap f c.placed-item.is in
          ap (map Some) c.in_ok-push.ensures.items
          ∙ map-append Some c.loop-placed.told.items (c.in_ok-found.found ∷ [])
          ∙ ap₂ (λ (xs ys : List (Option Found)). xs ++ ys) before (ap (λ (o : Option Found). o ∷ []) here)
          ∙ sym (map_more f page i item low);
      kept = joined so_far.kept c.found_at.ensures.kept;
    }

pub returns-clause-told : goal.returns-clause-told
returns-clause-told g c own rise up desk is stand clean =
    c.loop-placed.invariant.told own rise up desk is stand clean
    ∙ ap (map (found_of c.args.call.settings.now c.args.call.caller.now c.args.own.now
    c.args.queues.now c.args.rows.now desk))
    (take_all c.loop-placed.placed-index c.args.page.now c.loop-placed-test.false)
