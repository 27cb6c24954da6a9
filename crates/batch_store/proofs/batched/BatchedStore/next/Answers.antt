use Rattle.std.proofs.Common.{true, refl}
use Rattle.batch_store.proofs.BatchLemmas.{advances, commit_stays, facts, fails, holds_read, itself}
use Rattle.batch_store.proofs.BatchLemmas.{lost_never_clean, moves, only_moved, quiet_kept}
use Rattle.batch_store.proofs.BatchLemmas.{quiet_lost, schema_same, sound_by, steps_on}
use Rattle.batch_store.proofs.BatchLemmas.{unbroken_shown}
use Rattle.batch_store.proofs.batched.BatchedStore.next.Goals as goal

pub returns-then-is_lost-clause-err : goal.returns-then-is_lost-clause-err
returns-then-is_lost-clause-err g c =
    let v = g.S.Store.view c.args.self.now.store in
    fails c.args.self.now.lost true v v _ refl (schema_same v)

pub returns-then-is_lost-clause-cause : goal.returns-then-is_lost-clause-cause
returns-then-is_lost-clause-cause g c =
    let v = g.S.Store.view c.args.self.now.store in
    λ clean. lost_never_clean true v _ refl clean

pub returns-then-is_lost-clause-quiet : goal.returns-then-is_lost-clause-quiet
returns-then-is_lost-clause-quiet g c = quiet_lost g.S.Store _ _ refl (itself g.S.Store _)

pub returns-then-is_lost-clause-step : goal.returns-then-is_lost-clause-step
returns-then-is_lost-clause-step g c = steps_on g.S.Store _ _ _ refl refl (λ was. was) (λ db h. h)

pub returns-in-Err-clause-err : goal.returns-in-Err-clause-err
returns-in-Err-clause-err g c =
    let v = g.S.Store.view c.args.self.now.store in
    let w = g.S.Store.view c.next.new.self in
    fails c.args.self.now.lost true v w _ refl c.next.ensures.schema

pub returns-in-Err-clause-cause : goal.returns-in-Err-clause-cause
returns-in-Err-clause-cause g c =
    let w = g.S.Store.view c.next.new.self in
    λ clean. lost_never_clean true w _ refl clean

pub returns-in-Err-clause-quiet : goal.returns-in-Err-clause-quiet
returns-in-Err-clause-quiet g c = quiet_lost g.S.Store _ _ refl c.next.ensures.quiet

pub returns-in-Err-clause-step : goal.returns-in-Err-clause-step
returns-in-Err-clause-step g c =
    steps_on g.S.Store _ _ _ refl refl (λ was. was) c.next.ensures.quiet.outcomes

pub returns-in-Ok-clause-ok : goal.returns-in-Ok-clause-ok
returns-in-Ok-clause-ok g c =
    let v = g.S.Store.view c.args.self.now.store in
    let w = g.S.Store.view c.next.new.self in
    let s =
    sound_by c.args.self.now.lost c.args.self.now.depth v w (c.is_lost.ensures c.if-is_lost.false)
    (g.met.S.Store.broken_if_shut _) (g.met.S.Store.shut_if_dirty _) c.next.ensures.quiet.clean in
    λ clean. let f = facts c.args.self.now.lost v w s clean in advances c.args.self.now.lost v w c.args.cursor c.next.new.row c.in-Ok.found (c.in-Ok.ensures.ok f.now_clean)

pub returns-in-Ok-clause-moves : goal.returns-in-Ok-clause-moves
returns-in-Ok-clause-moves g c =
    let v = g.S.Store.view c.args.self.now.store in
    let w = g.S.Store.view c.next.new.self in
    let s =
    sound_by c.args.self.now.lost c.args.self.now.depth v w (c.is_lost.ensures c.if-is_lost.false)
    (g.met.S.Store.broken_if_shut _) (g.met.S.Store.shut_if_dirty _) c.next.ensures.quiet.clean in
    λ clean. let f = facts c.args.self.now.lost v w s clean in moves c.args.self.now.lost v w c.args.cursor (c.in-Ok.ensures.moves f.now_clean)

pub returns-in-Ok-clause-sound : goal.returns-in-Ok-clause-sound
returns-in-Ok-clause-sound g c =
    let v = g.S.Store.view c.args.self.now.store in
    let w = g.S.Store.view c.next.new.self in
    let s =
    sound_by c.args.self.now.lost c.args.self.now.depth v w (c.is_lost.ensures c.if-is_lost.false)
    (g.met.S.Store.broken_if_shut _) (g.met.S.Store.shut_if_dirty _) c.next.ensures.quiet.clean in
    λ clean. let f = facts c.args.self.now.lost v w s clean in unbroken_shown c.args.self.now.lost v w f

pub returns-in-Ok-clause-quiet : goal.returns-in-Ok-clause-quiet
returns-in-Ok-clause-quiet g c =
    let v = g.S.Store.view c.args.self.now.store in
    let w = g.S.Store.view c.next.new.self in
    let s =
    sound_by c.args.self.now.lost c.args.self.now.depth v w (c.is_lost.ensures c.if-is_lost.false)
    (g.met.S.Store.broken_if_shut _) (g.met.S.Store.shut_if_dirty _) c.next.ensures.quiet.clean in
    quiet_kept g.S.Store _ _ s refl c.next.ensures.quiet (λ f. commit_stays c.args.self.now.lost v w (only_moved v w (c.in-Ok.ensures.moves f.now_clean).same))

pub returns-in-Ok-clause-step : goal.returns-in-Ok-clause-step
returns-in-Ok-clause-step g c =
    steps_on g.S.Store _ _ _ refl refl (λ was. was) c.next.ensures.quiet.outcomes

pub invariant_of-self-in-Ok-1 : goal.invariant_of-self-in-Ok-1
invariant_of-self-in-Ok-1 g c =
    let v = g.S.Store.view c.args.self.now.store in
    let w = g.S.Store.view c.next.new.self in
    let s =
    sound_by c.args.self.now.lost c.args.self.now.depth v w (c.is_lost.ensures c.if-is_lost.false)
    (g.met.S.Store.broken_if_shut _) (g.met.S.Store.shut_if_dirty _) c.next.ensures.quiet.clean in
    record { held = holds_read c.args.self.now.lost c.args.self.now.depth c.args.self.now.written v w s (λ clean. (c.in-Ok.ensures.moves clean).same) c.args.self.now.held }
