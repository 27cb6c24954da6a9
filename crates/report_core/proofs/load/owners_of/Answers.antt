-- one row more is counted, where its status isn't inactive
use Rattle.std.proofs.Common.{◌≡◌, ◌∙◌, ℕ, ◌+◌, ◌<◌, ◌^◌, ◌++◌, [], ◌∷◌, ap, append-nil, arith}
use Rattle.std.proofs.Common.{cond, Option, subst, sym, take}
use Rattle.std.specs.Prelude.{unwrap_or}
use Rattle.std.specs.BTreeMap.{insert_entry, is_at}
use Rattle.std.specs.Map.{lookup}
use Rattle.desk_model.specs.Readings.Workload.{owner_order}
use Rattle.desk_model.specs.declared.rows.RequestRow.{RequestRow}
use Rattle.report_core.specs.Rows.{counted, entries_of, is_live, live_among, no_counts}
use Rattle.report_core.specs.Rows.{told_among}
use Rattle.report_core.proofs.LoadLemmas.{above_place, counted_more, live_fewer, live_more}
use Rattle.report_core.proofs.load.owners_of.Goals as goal
use Rattle.report_core.proofs.load.owners_of.Goals.{then-is_live+in_ok-count, else-is_live}

pub loop-row-preserved : goal.loop-row-preserved
loop-row-preserved c rise numbered =
    let at = c.args.at in
    let settings = c.args.settings.now in
    let queues = c.args.queues.now in
    let rows = c.args.rows.now in
    let i = c.loop-row.row-index in
    let row = c.loop-row-item.result in
    let before = live_among settings queues (take i rows) in
    let t = told_among settings queues row in
    let owner = row.0.owner in
    let few = live_fewer settings queues rows i (omega (arith, c.loop-row-test.true)) in
    let grown = live_more settings queues rows i row c.loop-row-test.true c.loop-row-item.is in
    let named = c.queue_named-queue.ensures rise in
    let so_far = c.loop-row.invariant rise numbered in
    let above : 0 + i < row.0.id =
    subst (λ (d : RequestRow × Option ℕ). 0 + i < d.0.id) (sym c.loop-row-item.is)
    (above_place 0 rows i row numbered c.loop-row-test.true) in
    let fits : row.0.id < 2 ^ 32 = subst (λ n. n < 2 ^ 32) c.number_of-number.ensures.is
    c.number_of-number.ensures.fits in
    let lives : c.is_live.result ≡ t.is_live =
    c.is_live.ensures ∙ ap (λ q. is_live settings q row.0) named in
    elim c.if-is_live.branch [
      | then-is_live+in_ok-count w ↦
          ap (λ m. m.entries) w.owners-is
          ∙ w.in_ok-count.ensures
          ∙ ap (λ es. insert_entry owner_order es owner (counted w.is_late.result
          (unwrap_or (lookup (is_at (owner_order owner)) es) no_counts))) so_far
          ∙ ap (λ b. insert_entry owner_order (entries_of at before) owner (counted b
          (unwrap_or (lookup (is_at (owner_order owner)) (entries_of at before)) no_counts)))
          w.is_late.ensures
          ∙ counted_more at before t (omega (arith, few, above, fits))
          ∙ ap (entries_of at) (sym (grown
          ∙ ap (λ b. before ++ cond b (t ∷ []) []) (sym lives ∙ w.if-is_live.true)))
      | else-is_live w ↦
          ap (λ m. m.entries) w.owners-is
          ∙ so_far
          ∙ ap (entries_of at) (sym (grown
          ∙ ap (λ b. before ++ cond b (t ∷ []) []) (sym lives ∙ w.if-is_live.false)
          ∙ append-nil before))
    ]
