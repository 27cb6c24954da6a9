use Rattle.batch_store.proofs.BatchLemmas.{broken_shown}
use Rattle.batch_store.proofs.batched.BatchedStore.is_broken.Goals as goal

pub returns-else-self : goal.returns-else-self
returns-else-self g c =
    let v = g.S.Store.view c.args.self.now.store in
    broken_shown c.args.self.now.lost v _ (g.met.S.Store.shut_if_dirty _) c.is_broken.ensures
