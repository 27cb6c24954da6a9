use Rattle.batch_store.proofs.BatchLemmas.{objects_shown}
use Rattle.batch_store.proofs.batched.BatchedAlter.objects.Goals as goal

pub returns : goal.returns
returns g c =
    let v = g.S.Store.view c.args.self.now.store in
    objects_shown c.args.self.now.lost v c.objects.result (λ rows. rows.items) (g.met.S.Store.shut_if_dirty _) c.objects.ensures
