use Rattle.std.proofs.Common.{true, refl}
use Rattle.batch_store.proofs.BatchLemmas.{commit_stays, facts, fails, holds_write, itself}
use Rattle.batch_store.proofs.BatchLemmas.{lost_never_clean, quiet_kept, quiet_lost, schema_same}
use Rattle.batch_store.proofs.BatchLemmas.{sets, sound_by, steps_on, was_kept, writes}
use Rattle.batch_store.proofs.batched.BatchedStore.put.Goals as goal

pub returns-then-is_lost-clause-err : goal.returns-then-is_lost-clause-err
returns-then-is_lost-clause-err g c =
    let v = g.S.Store.view c.args.self.now.store in
    fails c.args.self.now.lost true v v _ refl (schema_same v)

pub returns-then-is_lost-clause-cause : goal.returns-then-is_lost-clause-cause
returns-then-is_lost-clause-cause g c =
    let v = g.S.Store.view c.args.self.now.store in
    λ clean. lost_never_clean true v _ refl clean

pub returns-then-is_lost-clause-quiet : goal.returns-then-is_lost-clause-quiet
returns-then-is_lost-clause-quiet g c = quiet_lost g.S.Store _ _ refl (itself g.S.Store _)

pub returns-then-is_lost-clause-step : goal.returns-then-is_lost-clause-step
returns-then-is_lost-clause-step g c = steps_on g.S.Store _ _ _ refl refl (λ was. was) (λ db h. h)

pub returns-in-Err-clause-err : goal.returns-in-Err-clause-err
returns-in-Err-clause-err g c =
    let v = g.S.Store.view c.args.self.now.store in
    let w = g.S.Store.view c.put.new.self in
    fails c.args.self.now.lost true v w _ refl c.put.ensures.schema

pub returns-in-Err-clause-cause : goal.returns-in-Err-clause-cause
returns-in-Err-clause-cause g c =
    let w = g.S.Store.view c.put.new.self in
    λ clean. lost_never_clean true w _ refl clean

pub returns-in-Err-clause-quiet : goal.returns-in-Err-clause-quiet
returns-in-Err-clause-quiet g c = quiet_lost g.S.Store _ _ refl c.put.ensures.quiet

pub returns-in-Err-clause-step : goal.returns-in-Err-clause-step
returns-in-Err-clause-step g c =
    steps_on g.S.Store _ _ _ refl refl (λ was. refl) c.put.ensures.quiet.outcomes

pub returns-in-Ok-clause-ok : goal.returns-in-Ok-clause-ok
returns-in-Ok-clause-ok g c =
    let v = g.S.Store.view c.args.self.now.store in
    let w = g.S.Store.view c.put.new.self in
    let s =
    sound_by c.args.self.now.lost c.args.self.now.depth v w (c.is_lost.ensures c.if-is_lost.false)
    (g.met.S.Store.broken_if_shut _) (g.met.S.Store.shut_if_dirty _) c.put.ensures.quiet.clean in
    λ clean. let f = facts c.args.self.now.lost v w s clean in sets c.args.self.now.lost v w _ _ f (c.in-Ok.ensures.ok f.now_clean)

pub returns-in-Ok-clause-frame : goal.returns-in-Ok-clause-frame
returns-in-Ok-clause-frame g c =
    let v = g.S.Store.view c.args.self.now.store in
    let w = g.S.Store.view c.put.new.self in
    let s =
    sound_by c.args.self.now.lost c.args.self.now.depth v w (c.is_lost.ensures c.if-is_lost.false)
    (g.met.S.Store.broken_if_shut _) (g.met.S.Store.shut_if_dirty _) c.put.ensures.quiet.clean in
    λ clean. let f = facts c.args.self.now.lost v w s clean in writes c.args.self.now.lost v w f (c.in-Ok.ensures.frame f.now_clean)

pub returns-in-Ok-clause-quiet : goal.returns-in-Ok-clause-quiet
returns-in-Ok-clause-quiet g c =
    let v = g.S.Store.view c.args.self.now.store in
    let w = g.S.Store.view c.put.new.self in
    let s =
    sound_by c.args.self.now.lost c.args.self.now.depth v w (c.is_lost.ensures c.if-is_lost.false)
    (g.met.S.Store.broken_if_shut _) (g.met.S.Store.shut_if_dirty _) c.put.ensures.quiet.clean in
    quiet_kept g.S.Store _ _ s refl c.put.ensures.quiet (λ f. commit_stays c.args.self.now.lost v w (c.in-Ok.ensures.frame f.now_clean))

pub returns-in-Ok-clause-step : goal.returns-in-Ok-clause-step
returns-in-Ok-clause-step g c =
    steps_on g.S.Store _ _ _ refl refl (λ was. refl) c.put.ensures.quiet.outcomes

pub invariant_of-self-in-Ok : goal.invariant_of-self-in-Ok
invariant_of-self-in-Ok g c =
    let v = g.S.Store.view c.args.self.now.store in
    let w = g.S.Store.view c.put.new.self in
    let s =
    sound_by c.args.self.now.lost c.args.self.now.depth v w (c.is_lost.ensures c.if-is_lost.false)
    (g.met.S.Store.broken_if_shut _) (g.met.S.Store.shut_if_dirty _) c.put.ensures.quiet.clean in
    record { held = holds_write c.args.self.now.lost c.args.self.now.depth c.args.self.now.written v w s c.in-Ok.ensures.frame c.args.self.now.held }

pub put-requires-clause-table : goal.put-requires-clause-table
put-requires-clause-table g c =
    let given = c.is_lost.ensures c.if-is_lost.false in
    let v = g.S.Store.view c.args.self.now.store in
    λ clean. c.requires.table (was_kept c.args.self.now.lost v (g.met.S.Store.broken_if_shut _) given.0 (given.2 clean))

pub put-requires-clause-keyed : goal.put-requires-clause-keyed
put-requires-clause-keyed g c =
    let given = c.is_lost.ensures c.if-is_lost.false in
    let v = g.S.Store.view c.args.self.now.store in
    λ clean. c.requires.keyed (was_kept c.args.self.now.lost v (g.met.S.Store.broken_if_shut _) given.0 (given.2 clean))
