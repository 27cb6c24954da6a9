use Rattle.std.proofs.Common.{arith}
use Rattle.sqlite_trees.specs.View.{IsClean}
use Rattle.batch_store.proofs.BatchLemmas.{was_kept}
use Rattle.batch_store.proofs.CommitLemmas.{stands_of}
use Rattle.batch_store.proofs.batched.Batched.finish.Goals as goal

pub returns-in-Ok : goal.returns-in-Ok
returns-in-Ok g c = λ done clean.
    let v = g.S.Store.view c.args.self.store in
    let w = g.S.Store.view c.commit.new.self in
    let given = c.is_lost-is_lost.ensures c.if-is_lost.false in
    let was : IsClean v = omega (arith, c.commit.ensures.clean, clean) in
    stands_of c.args.self.lost v w
    (was_kept c.args.self.lost v (g.met.S.Store.broken_if_shut _) given.0 (given.2 was))
    (c.in-Ok.ensures.ok clean)
