-- one row more is counted
use Rattle.std.proofs.Common.{◌∙◌, ◌+◌, ◌<◌, ◌^◌, true, ap, arith, map, subst, sym, take}
use Rattle.sorted_lists.proofs.Rising.{mapped_rises}
use Rattle.report_core.proofs.LoadLemmas.{above_place}
use Rattle.find_core.specs.Conditions.{is_due}
use Rattle.find_core.specs.Loads.{LoadsRise, counted_in, load_of}
use Rattle.find_core.specs.Rows.{Dated}
use Rattle.find_core.proofs.CountLemmas.{loads_more, lower}
use Rattle.find_core.proofs.loads.queue_loads.Goals as goal

pub loop-row-preserved : goal.loop-row-preserved
loop-row-preserved c rise numbered =
    let at = c.args.at in
    let queues = c.args.queues.items in
    let rows = c.args.rows.now in
    let i = c.loop-row.row-index in
    let row = c.loop-row-item.result in
    let so_far = c.loop-row.invariant rise numbered in
    let above : 0 + i < row.0.id =
    subst (λ (d : Dated). 0 + i < d.0.id) (sym c.loop-row-item.is)
    (above_place 0 rows i row numbered c.loop-row-test.true) in
    let fits : row.0.id < 2 ^ 32 = subst (λ n. n < 2 ^ 32) c.number_of-number.ensures.is
    c.number_of-number.ensures.fits in
    let up : LoadsRise c.loop-row.loads.items =
    subst LoadsRise (sym so_far) (mapped_rises lower (load_of at (take i rows)) queues ∙ rise) in
    c.count_in.ensures up
    ∙ ap (λ b. map (counted_in row.0.queue b) c.loop-row.loads.items) c.is_due.ensures
    ∙ ap (map (counted_in row.0.queue (is_due at true row.1))) so_far
    ∙ loads_more at rows i row c.loop-row-test.true c.loop-row-item.is (omega (arith, above, fits)) queues
