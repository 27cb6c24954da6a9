use Rattle.std.proofs.Common.{◌+◌, ap}
use Rattle.check_core.specs.declared.columns.Kind.TheVariants as kind
use Rattle.check_core.proofs.Searching.{next_kind}
use Rattle.check_core.proofs.bad_rows.misfit.Goals as goal

pub loop-kind-preserved : goal.loop-kind-preserved
loop-kind-preserved c = (
  ap (λ n. n + 1) c.loop-kind.invariant.0,
  next_kind c.args.kinds.now c.args.row.now c.loop-kind.kind-index c.loop-kind.invariant.1 kind.Text
      c.loop-kind-test.true
      (rw c.loop-kind.invariant.0 at (c.is_at.ensures.0 c.if-not-is_at.false)),
)
