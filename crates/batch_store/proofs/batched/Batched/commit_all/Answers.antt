use Rattle.std.proofs.Common.{true, arith, refl}
use Rattle.sqlite_trees.specs.View.{IsRolledBack}
use Rattle.batch_store.proofs.BatchLemmas.{Sound}
use Rattle.batch_store.proofs.CommitLemmas.{held_made, lost_back, settles, settles_lost, settles_then_lost}
use Rattle.batch_store.proofs.CommitLemmas.{shown_made, steps_failed, steps_made}
use Rattle.batch_store.proofs.batched.Batched.commit_all.Goals as goal

pub invariant_of-self : goal.invariant_of-self
invariant_of-self g c =
    let v = g.S.Store.view c.args.self.now.store in
    let u = g.S.Store.view c.commit.new.self in
    let w = g.S.Store.view c.savepoint.new.self in
    record {
      held =
          held_made c.args.self.now.lost c.args.self.now.depth v u w c.requires.bare
          (g.met.S.Store.shut_if_dirty _) c.savepoint.ensures.quiet.clean c.in-Ok.ensures.ok
          c.in-Ok-savepoint.ensures.ok;
    }

pub returns-in-Ok-savepoint : goal.returns-in-Ok-savepoint
returns-in-Ok-savepoint g c =
    let v = g.S.Store.view c.args.self.now.store in
    let u = g.S.Store.view c.commit.new.self in
    let w = g.S.Store.view c.savepoint.new.self in
    let s : Sound c.args.self.now.lost v w = record {
      none = c.requires.kept;
      sound = c.requires.sound;
      shut = g.met.S.Store.broken_if_shut _;
      dirty = g.met.S.Store.shut_if_dirty _;
      clean = omega (arith, c.commit.ensures.clean, c.savepoint.ensures.quiet.clean);
    } in
    settles g.S.Store _ _ _ refl s
    (λ f. shown_made c.args.self.now.lost v u w c.savepoint.ensures.quiet.clean c.in-Ok.ensures.ok
    c.in-Ok-savepoint.ensures.ok f)
    (λ h. c.savepoint.ensures.quiet.shield (c.commit.ensures.shield h))
    (omega (arith, c.commit.ensures.counts, c.savepoint.ensures.quiet.counts))
    (steps_made g.S.Store _ _ _ refl refl refl c.requires.due
    (λ db h. c.commit.ensures.crash db (c.savepoint.ensures.quiet.outcomes db h)))

pub returns-in-Err-savepoint : goal.returns-in-Err-savepoint
returns-in-Err-savepoint g c =
    settles_then_lost g.S.Store _ _ _ refl
    (λ h. c.savepoint.ensures.quiet.shield (c.commit.ensures.shield h))
    (omega (arith, c.commit.ensures.counts, c.savepoint.ensures.quiet.counts))
    (steps_made g.S.Store _ _ _ refl refl refl c.requires.due
    (λ db h. c.commit.ensures.crash db (c.savepoint.ensures.quiet.outcomes db h)))

pub returns-in-Err : goal.returns-in-Err
returns-in-Err g c =
    let v = g.S.Store.view c.args.self.now.store in
    let u = g.S.Store.view c.commit.new.self in
    let back : IsRolledBack v u = c.in-Err.ensures.err in
    settles_lost g.S.Store _ _ _ refl
    (lost_back c.args.self.now.lost true v u refl back.shape back.reals back.committed_shape
    back.committed_reals back.numbered)
    c.commit.ensures.shield c.commit.ensures.counts
    (steps_failed g.S.Store _ _ _ refl refl refl c.requires.due c.commit.ensures.crash)
