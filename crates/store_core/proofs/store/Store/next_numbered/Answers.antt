use Rattle.std.proofs.Common.{◌∙◌, [], ap, sym, unwrap_or}
use Rattle.store_core.specs.Ahead.{numbers_ahead}
use Rattle.store_core.specs.Rows.{dated_rows}
use Rattle.store_core.proofs.AheadLemmas.{no_more, one_more}
use Rattle.store_core.proofs.store.Store.next_numbered.Goals as goal

pub returns-in_default-clause-given : goal.returns-in_default-clause-given
returns-in_default-clause-given g c desk is due stand clean =
    no_more (dated_rows due desk) (numbers_ahead g.S.Store c.args.self.now)
    c.args.at.now (sym c.number_ahead.ensures.number ∙ c.in_default.is)

pub returns-clause-given : goal.returns-clause-given
returns-clause-given g c desk is due stand clean =
    one_more (dated_rows due desk) (numbers_ahead g.S.Store c.args.self.now) _ c.args.at.now _ _
    (sym c.number_ahead.ensures.number ∙ c.in-Some.is)
    (c.in_ok-row.ensures.read.told _ stand clean)
    (ap (λ o. unwrap_or o []) c.in_ok-row.ensures.same_numbers)
