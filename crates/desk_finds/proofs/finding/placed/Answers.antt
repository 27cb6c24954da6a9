use Rattle.std.proofs.Common.{◌∙◌, ◌<◌, ◌++◌, [], List, Option, ap, ap₂, length, take}
use Rattle.std.proofs.Common.{rules, sym}
use Rattle.std.specs.Prelude.{filter_map}
use Rattle.std.specs.List.{cons_option}
use Rattle.std.proofs.lemmas.List.{take_all}
use Rattle.find_core.specs.Ordered.{Placed}
use Rattle.find_core.specs.Rows.{Dated}
use Rattle.store_tables.proofs.Spared.{joined, stands_for}
use Rattle.desk_finds.specs.Found.{placed_by}
use Rattle.desk_finds.proofs.FoundLemmas.{filter_map_more}
use Rattle.desk_finds.proofs.finding.placed.Goals as goal

pub loop-dated-preserved : goal.loop-dated-preserved
loop-dated-preserved g c =
    let rows = c.args.rows.now in
    let i = c.loop-dated.dated-index in
    let row = c.dated-item.result in
    let low : i < length rows = search rules in
    let so_far = c.loop-dated.invariant in
    record {
      told =
          λ own theirs rise desk is stand clean.
          let f = placed_by c.args.call.settings.now c.args.call.at c.args.call.caller.now
          c.args.search.now c.args.own.now c.args.theirs.now c.args.queues.now desk in
          let before =
          so_far.told own theirs rise desk is stand (c.place_of.ensures.kept.clean clean) in
          let here =
          c.in_ok-place.ensures.told own theirs rise desk is (stands_for so_far.kept desk stand) clean in
          c.in_ok-put.ensures
          ∙ ap₂ (λ (xs : List Placed) (o : Option Placed). xs ++ cons_option o []) before here
          ∙ ap (λ (d : Dated). filter_map f (take i rows) ++ cons_option (f d) []) c.dated-item.is
          ∙ sym (filter_map_more f rows i row low);
      kept = joined so_far.kept c.place_of.ensures.kept;
    }

pub returns-clause-told : goal.returns-clause-told
returns-clause-told g c own theirs rise desk is stand clean =
    c.loop-dated.invariant.told own theirs rise desk is stand clean
    ∙ ap (filter_map (placed_by c.args.call.settings.now c.args.call.at c.args.call.caller.now
    c.args.search.now c.args.own.now c.args.theirs.now c.args.queues.now desk))
    (take_all c.loop-dated.dated-index c.args.rows.now c.loop-dated-test.false)
