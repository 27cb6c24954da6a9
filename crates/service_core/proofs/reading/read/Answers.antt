-- what is so of whatever desk the tables stand for is so where they keep its due moments
use Rattle.desk_model.specs.declared.command.Command.TheVariants.{History, Queues, Show}
use Rattle.store_core.specs.Seen.{state_of}
use Rattle.service_core.proofs.Stepping.{asked_as}
use Rattle.service_core.proofs.reading.read.Goals as goal

pub returns-in-Queues-clause-told : goal.returns-in-Queues-clause-told
returns-in-Queues-clause-told g c =
    asked_as c.args.facts.now c.args.call.settings.now c.args.call.at c.args.call.caller.now
    c.args.command.now Queues c.queues.result
    (state_of g.S.Store c.args.store.now) (state_of g.S.Store c.queues.new.store)
    c.in-Queues.is (c.queues.ensures.told c.args.call.at c.args.facts.now)

pub returns-in-Show-clause-told : goal.returns-in-Show-clause-told
returns-in-Show-clause-told g c =
    asked_as c.args.facts.now c.args.call.settings.now c.args.call.at c.args.call.caller.now
    c.args.command.now (Show c.in-Show.id) c.show.result
    (state_of g.S.Store c.args.store.now) (state_of g.S.Store c.show.new.store)
    c.in-Show.is (c.show.ensures.told c.in-Show.id)

pub returns-in-History-clause-told : goal.returns-in-History-clause-told
returns-in-History-clause-told g c =
    asked_as c.args.facts.now c.args.call.settings.now c.args.call.at c.args.call.caller.now
    c.args.command.now (History c.in-History.id) c.history.result
    (state_of g.S.Store c.args.store.now) (state_of g.S.Store c.history.new.store)
    c.in-History.is (c.history.ensures.told c.in-History.id)
