use Rattle.batch_store.proofs.FreshLemmas.{Begins, fresh_shown, holds_fresh, trees_fresh}
use Rattle.batch_store.proofs.batched.Batched.new.Goals as goal

pub invariant_of-result : goal.invariant_of-result
invariant_of-result g c =
    let v = g.S.Store.view c.args.store in
    let w = g.S.Store.view c.savepoint.new.self in
    let b : Begins v w = record {
      fresh = c.requires;
      marked = c.in-Ok.ensures.ok;
      clean = c.savepoint.ensures.quiet.clean;
      dirty = g.met.S.Store.shut_if_dirty _;
      unaltered = g.met.S.Store.unaltered _;
    } in
    record { held = holds_fresh v w b }

pub returns-in-Ok-clause-fresh : goal.returns-in-Ok-clause-fresh
returns-in-Ok-clause-fresh g c =
    let v = g.S.Store.view c.args.store in
    let w = g.S.Store.view c.savepoint.new.self in
    let b : Begins v w = record {
      fresh = c.requires;
      marked = c.in-Ok.ensures.ok;
      clean = c.savepoint.ensures.quiet.clean;
      dirty = g.met.S.Store.shut_if_dirty _;
      unaltered = g.met.S.Store.unaltered _;
    } in
    fresh_shown v w b

pub returns-in-Ok-clause-trees : goal.returns-in-Ok-clause-trees
returns-in-Ok-clause-trees g c =
    let v = g.S.Store.view c.args.store in
    let w = g.S.Store.view c.savepoint.new.self in
    let b : Begins v w = record {
      fresh = c.requires;
      marked = c.in-Ok.ensures.ok;
      clean = c.savepoint.ensures.quiet.clean;
      dirty = g.met.S.Store.shut_if_dirty _;
      unaltered = g.met.S.Store.unaltered _;
    } in
    trees_fresh v w b
