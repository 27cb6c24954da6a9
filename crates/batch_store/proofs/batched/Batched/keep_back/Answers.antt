use Rattle.std.proofs.Common.{◌≡◌, ◌+◌, ◌-◌, ◌<◌, Bool, true, arith, refl, subst, sym}
use Rattle.batch_store.specs.Held.{Holds}
use Rattle.batch_store.proofs.BatchLemmas.{Sound, early_left, steps_on}
use Rattle.batch_store.proofs.CommitLemmas.{held_back, schema_back, schema_both, settles, settles_lost}
use Rattle.batch_store.proofs.CommitLemmas.{shown_back, steps_back}
use Rattle.batch_store.proofs.batched.Batched.keep_back.Goals as goal

pub invariant_of-self : goal.invariant_of-self
invariant_of-self g c =
    let v = g.S.Store.view c.args.self.now.store in
    let u = g.S.Store.view c.release.new.self in
    let w = g.S.Store.view c.savepoint.new.self in
    let s : Sound c.args.self.now.lost v w = record {
      none = c.requires.kept;
      sound = c.requires.sound;
      shut = g.met.S.Store.broken_if_shut _;
      dirty = g.met.S.Store.shut_if_dirty _;
      clean = omega (arith, c.release.ensures.quiet.clean, c.savepoint.ensures.quiet.clean);
    } in
    record {
      held =
          held_back c.args.self.now.lost c.args.self.now.depth c.args.self.now.written v u w s
          c.requires.bare c.savepoint.ensures.quiet.clean c.in-Ok.ensures.ok
          c.in-Ok-savepoint.ensures.ok c.args.self.now.held;
    }

pub invariant_of-self-else-self : goal.invariant_of-self-else-self
invariant_of-self-else-self g c =
    let v = g.S.Store.view c.args.self.now.store in
    let u = g.S.Store.view c.release.new.self in
    let w = g.S.Store.view c.savepoint.new.self in
    let s : Sound c.args.self.now.lost v w = record {
      none = c.requires.kept;
      sound = c.requires.sound;
      shut = g.met.S.Store.broken_if_shut _;
      dirty = g.met.S.Store.shut_if_dirty _;
      clean = omega (arith, c.release.ensures.quiet.clean, c.savepoint.ensures.quiet.clean);
    } in
    record {
      held =
          subst (λ (b : Bool). Holds c.args.self.now.lost c.args.self.now.depth b w)
          (sym c.if-self.false)
          (held_back c.args.self.now.lost c.args.self.now.depth c.args.self.now.written v u w s
          c.requires.bare c.savepoint.ensures.quiet.clean c.in-Ok.ensures.ok
          c.in-Ok-savepoint.ensures.ok c.args.self.now.held);
    }

pub returns-then-self : goal.returns-then-self
returns-then-self g c =
    let v = g.S.Store.view c.args.self.now.store in
    let u = g.S.Store.view c.release.new.self in
    let w = g.S.Store.view c.savepoint.new.self in
    let s : Sound c.args.self.now.lost v w = record {
      none = c.requires.kept;
      sound = c.requires.sound;
      shut = g.met.S.Store.broken_if_shut _;
      dirty = g.met.S.Store.shut_if_dirty _;
      clean = omega (arith, c.release.ensures.quiet.clean, c.savepoint.ensures.quiet.clean);
    } in
    let more : 1 < c.args.self.now.left =
    early_left c.args.self.now.written c.args.self.now.left c.if-self.true c.requires.early in
    let fewer : (c.args.self.now.left - 1) + 1 ≡ c.args.self.now.left = omega (arith, more) in
    settles g.S.Store _ _ _ refl s
    (λ f. shown_back c.args.self.now.lost c.args.self.now.depth c.args.self.now.written v u w
    c.requires.kept c.requires.bare c.savepoint.ensures.quiet.clean c.in-Ok.ensures.ok
    c.in-Ok-savepoint.ensures.ok c.args.self.now.held f)
    (λ h. c.savepoint.ensures.quiet.shield (c.release.ensures.quiet.shield h))
    (omega (arith, c.release.ensures.quiet.counts, c.savepoint.ensures.quiet.counts))
    (steps_back g.S.Store _ _ _ refl fewer c.if-self.true refl c.requires.early
    (λ db h. c.release.ensures.quiet.outcomes db (c.savepoint.ensures.quiet.outcomes db h)))

pub returns-else-self : goal.returns-else-self
returns-else-self g c =
    let v = g.S.Store.view c.args.self.now.store in
    let u = g.S.Store.view c.release.new.self in
    let w = g.S.Store.view c.savepoint.new.self in
    let s : Sound c.args.self.now.lost v w = record {
      none = c.requires.kept;
      sound = c.requires.sound;
      shut = g.met.S.Store.broken_if_shut _;
      dirty = g.met.S.Store.shut_if_dirty _;
      clean = omega (arith, c.release.ensures.quiet.clean, c.savepoint.ensures.quiet.clean);
    } in
    settles g.S.Store _ _ _ refl s
    (λ f. shown_back c.args.self.now.lost c.args.self.now.depth c.args.self.now.written v u w
    c.requires.kept c.requires.bare c.savepoint.ensures.quiet.clean c.in-Ok.ensures.ok
    c.in-Ok-savepoint.ensures.ok c.args.self.now.held f)
    (λ h. c.savepoint.ensures.quiet.shield (c.release.ensures.quiet.shield h))
    (omega (arith, c.release.ensures.quiet.counts, c.savepoint.ensures.quiet.counts))
    (steps_on g.S.Store _ _ _ refl refl (λ was. was)
    (λ db h. c.release.ensures.quiet.outcomes db (c.savepoint.ensures.quiet.outcomes db h)))

pub returns-in-Err-savepoint : goal.returns-in-Err-savepoint
returns-in-Err-savepoint g c =
    let v = g.S.Store.view c.args.self.now.store in
    let u = g.S.Store.view c.release.new.self in
    let w = g.S.Store.view c.savepoint.new.self in
    settles_lost g.S.Store _ _ _ refl
    (schema_back c.args.self.now.lost true v w refl
    (schema_both v u w c.release.ensures.schema c.savepoint.ensures.schema))
    (λ h. c.savepoint.ensures.quiet.shield (c.release.ensures.quiet.shield h))
    (omega (arith, c.release.ensures.quiet.counts, c.savepoint.ensures.quiet.counts))
    (steps_on g.S.Store _ _ _ refl refl (λ was. was)
    (λ db h. c.release.ensures.quiet.outcomes db (c.savepoint.ensures.quiet.outcomes db h)))

pub returns-in-Err : goal.returns-in-Err
returns-in-Err g c =
    let v = g.S.Store.view c.args.self.now.store in
    let u = g.S.Store.view c.release.new.self in
    settles_lost g.S.Store _ _ _ refl
    (schema_back c.args.self.now.lost true v u refl c.release.ensures.schema)
    c.release.ensures.quiet.shield c.release.ensures.quiet.counts
    (steps_on g.S.Store _ _ _ refl refl (λ was. was) c.release.ensures.quiet.outcomes)
