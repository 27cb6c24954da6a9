use Rattle.std.proofs.Common.{◌++◌, ap, filter}
use Rattle.store_tables.proofs.ReadOn.{giving}
use Rattle.store_tables.specs.Contents.Request.{is_dated_after}
use Rattle.store_core.specs.Rows.{dated_rows}
use Rattle.store_core.proofs.AheadLemmas.{empty_taken, taken_on}
use Rattle.store_core.proofs.FactsLemmasOfDesk.{unasked}
use Rattle.store_core.proofs.filed.Filed.next.Goals as goal

pub returns-in-Some : goal.returns-in-Some
returns-in-Some g c =
    let old = c.args.self.now in
    unasked (λ d due desk is same.
    ap (λ l. l ++ filter (is_dated_after old.queue old.last) (dated_rows due desk))
    (rw c.in-Some.is at c.pop_front.ensures.items))

pub returns-in_ok-read_on-in-None : goal.returns-in_ok-read_on-in-None
returns-in_ok-read_on-in-None g c =
    giving (λ d on due desk is same.
    let empty = empty_taken _ _ (rw c.in-None.is at c.pop_front.ensures.items)
    c.pop_front.ensures.rest in
    let it = on due desk is same in
    taken_on _ _ _ _ _ _ empty it.same it.some c.pop_front-in-None.ensures.items
    c.pop_front-in-None.ensures.rest) c.in_ok-read_on-in-None.ensures
