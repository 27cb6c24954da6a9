use Rattle.std.proofs.Common.{true, refl}
use Rattle.batch_store.proofs.BatchLemmas.{quiet_lost, steps_on}
use Rattle.batch_store.proofs.CommitLemmas.{lost_back, unlike_back}
use Rattle.batch_store.proofs.batched.BatchedStore.rollback.Goals as goal

pub returns-then-is_unlike-clause-undone : goal.returns-then-is_unlike-clause-undone
returns-then-is_unlike-clause-undone g c =
    let v = g.S.Store.view c.args.self.now.store in
    let w = g.S.Store.view c.rollback.new.self in
    lost_back c.args.self.now.lost true v w refl c.rollback.ensures.undone.shape c.rollback.ensures.undone.reals c.rollback.ensures.undone.committed_shape c.rollback.ensures.undone.committed_reals c.rollback.ensures.undone.numbered

pub returns-then-is_unlike-clause-quiet : goal.returns-then-is_unlike-clause-quiet
returns-then-is_unlike-clause-quiet g c = quiet_lost g.S.Store _ _ refl c.rollback.ensures.quiet

pub returns-then-is_unlike-clause-step : goal.returns-then-is_unlike-clause-step
returns-then-is_unlike-clause-step g c =
    steps_on g.S.Store _ _ _ refl refl (λ was. was) c.rollback.ensures.quiet.outcomes

pub returns-else-is_unlike-clause-undone : goal.returns-else-is_unlike-clause-undone
returns-else-is_unlike-clause-undone g c =
    let v = g.S.Store.view c.args.self.now.store in
    let given = c.is_unlike.ensures c.if-is_unlike.false in
    unlike_back c.args.self.now.lost c.args.self.now.depth c.args.self.now.written v (given.1, given.2, given.3) (g.met.S.Store.shut_if_dirty _) c.args.self.now.held

pub returns-else-is_unlike-clause-step : goal.returns-else-is_unlike-clause-step
returns-else-is_unlike-clause-step g c = steps_on g.S.Store _ _ _ refl refl (λ was. was) (λ db h. h)
