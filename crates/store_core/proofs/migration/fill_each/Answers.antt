use Rattle.std.proofs.Common.{◌<◌, ◌≡◌, Err, fold, get_or, length, refl, rules, take}
use Rattle.std.proofs.lemmas.List.{get_or_default}
use Rattle.store_tables.proofs.StandLemmas.{fold_more}
use Rattle.store_core.specs.Migrating.{stays_filled}
use Rattle.store_core.proofs.MigrationLemmas.{filled_only}
use Rattle.store_tables.proofs.Lasting.{same}
use Rattle.store_core.proofs.FactsLemmasOfDesk.{take_all}
use Rattle.store_core.proofs.RunLemmas.{beside_then, blames_then, runs_then}
use Rattle.store_core.proofs.migration.fill_each.Goals as goal

pub loop-id-init : goal.loop-id-init
loop-id-init g c =
    record { same = refl; fills = search rules; beside = search rules; on = search (rules, same) }

pub loop-id-preserved : goal.loop-id-preserved
loop-id-preserved g c =
    let so_far = c.loop-id.invariant in
    let one = c.in_ok-fill_one.ensures in
    let ids = c.args.ids.now in
    let i = c.loop-id.id-index in
    let low : i < length ids = search rules in
    record {
      same = search rules;
      fills = λ desk formed due d dated entries holds.
          let f = stays_filled desk in
          let only = filled_only desk (take i ids) d in
          rw (fold_more f d ids i (get_or ids i 0) low (get_or_default ids i 0 _ low))
          (one.fills desk formed due (fold f d (take i ids)) (rw only dated) (rw only entries)
          (so_far.fills desk formed due d dated entries holds));
      beside = beside_then so_far.on so_far.beside one.on one.beside;
      on = runs_then so_far.on one.on;
    }

pub returns-in_err-fill_one-clause-blames : goal.returns-in_err-fill_one-clause-blames
returns-in_err-fill_one-clause-blames g c =
    let so_far = c.loop-id.invariant in
    let blames = blames_then so_far.on so_far.beside c.in_err-fill_one.ensures.on
    c.in_err-fill_one.ensures.blames in
    search rules

pub returns-in_err-fill_one-clause-refuses : goal.returns-in_err-fill_one-clause-refuses
returns-in_err-fill_one-clause-refuses g c d holds clean =
    let is : c.from_residual.result ≡ Err c.in_err-fill_one.field-0.0 = search rules in
    let it = c.loop-id.invariant.on.holds d holds in
    rw is (c.in_err-fill_one.ensures.refuses it.0 it.1 clean)

pub returns-clause-fills : goal.returns-clause-fills
returns-clause-fills g c =
    rw (take_all c.loop-id.id-index c.args.ids.now (search rules)) at c.loop-id.invariant.fills
