use Rattle.std.proofs.Common.{◌∙◌, Err, rules, Result}
use Rattle.std.specs.Prelude.{⊤}
use Rattle.store_core.specs.Seen.{state_of}
use Rattle.store_tables.specs.declared.fault.StoreFault.{StoreFault}
use Rattle.store_tables.proofs.Contents.Entry.{bare_table}
use Rattle.store_tables.proofs.RowLemmas.{blames_of}
use Rattle.store_tables.proofs.ReadOn.{blames_failed}
use Rattle.service_core.proofs.KnownLemmas.{known_of_actors}
use Rattle.service_core.proofs.TestLemmas.{tests_of}
use Rattle.service_core.proofs.attach.knows_histories.Goals as goal

pub returns-clause-told : goal.returns-clause-told
returns-clause-told g c desk is stand clean =
    let settings = c.args.settings.now in
    (rw c.as_slice.ensures.value at c.knows_actors.ensures)
    ∙ known_of_actors settings desk c.in_ok-actors.actors.items
    (c.in_ok-actors.ensures.listed desk is stand clean)

pub returns-in_err-actors-clause-fault : goal.returns-in_err-actors-clause-fault
returns-in_err-actors-clause-fault g c =
    let old = state_of g.S.Store c.args.store.now in
    let new = state_of g.S.Store c.actors.new.self in
    let result : Result ⊤ StoreFault = Err c.in_err-actors.field-0.0 in
    blames_failed (blames_of bare_table old new result c.in_err-actors.ensures.tested.fails) (search rules)

pub returns-clause-tested : goal.returns-clause-tested
returns-clause-tested g c = tests_of c.in_ok-actors.ensures.tested
