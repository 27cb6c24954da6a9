use Rattle.std.proofs.Common.{◌≡◌, ◌<◌, Err, length, rules}
use Rattle.sqlite_rules.proofs.ListLemmas.{has_at}
use Rattle.store_tables.proofs.ReadLemmas.{read_more, shown_more}
use Rattle.store_tables.proofs.query.read_all.Goals as goal

pub returns-in_err-value-clause-mismatch : goal.returns-in_err-value-clause-mismatch
returns-in_err-value-clause-mismatch g c =
    let is : c.from_residual.result ≡ Err c.in_err-value.field-0.0 = search rules in
    rw is (λ e. (
      c.row-item.result,
      has_at c.args.rows.now c.loop-row.row-index c.row-item.result (search rules) c.row-item.is,
      c.in_err-value.ensures.mismatch e,
    ))

pub loop-row-preserved : goal.loop-row-preserved
loop-row-preserved g c =
    let low : c.loop-row.row-index < length c.args.rows.now = search rules in (
      read_more g.T.Stored.reads c.args.rows.now c.loop-row.values.items c.loop-row.row-index
          c.row-item.result c.in_ok-value.value c.push.new.self.items low c.row-item.is
          c.in-Ok-push.ensures.items c.loop-row.invariant.0 c.in_ok-value.ensures.ok,
      shown_more g.T.Stored.is_value c.args.rows.now c.loop-row.row-index c.row-item.result low
          c.row-item.is c.loop-row.invariant.1 c.in_ok-value.ensures.value,
    )
