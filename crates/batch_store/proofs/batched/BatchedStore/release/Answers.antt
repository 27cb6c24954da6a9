use Rattle.std.proofs.Common.{true, refl, subst}
use Rattle.batch_store.proofs.BatchLemmas.{clean_kept, facts, fails, itself, lost_never_clean}
use Rattle.batch_store.proofs.BatchLemmas.{quiet_kept, quiet_lost, schema_same, sound_by, steps_on}
use Rattle.batch_store.proofs.MarkLemmas.{holds_release, none_released, release_commit}
use Rattle.batch_store.proofs.MarkLemmas.{releases_shown}
use Rattle.std.proofs.Common.{ℕ}
use Rattle.batch_store.specs.Held.{IsHeld}
use Rattle.batch_store.proofs.batched.BatchedStore.release.Goals as goal

pub returns-then-is_lost-clause-err : goal.returns-then-is_lost-clause-err
returns-then-is_lost-clause-err g c =
    let v = g.S.Store.view c.args.self.now.store in
    fails c.args.self.now.lost true v v _ refl (schema_same v)

pub returns-then-is_lost-clause-cause : goal.returns-then-is_lost-clause-cause
returns-then-is_lost-clause-cause g c =
    let v = g.S.Store.view c.args.self.now.store in
    λ clean. lost_never_clean true v _ refl clean

pub returns-then-is_lost-clause-shut : goal.returns-then-is_lost-clause-shut
returns-then-is_lost-clause-shut g c =
    let v = g.S.Store.view c.args.self.now.store in
    λ clean. lost_never_clean true v _ refl clean

pub returns-then-is_lost-clause-quiet : goal.returns-then-is_lost-clause-quiet
returns-then-is_lost-clause-quiet g c = quiet_lost g.S.Store _ _ refl (itself g.S.Store _)

pub returns-then-is_lost-clause-step : goal.returns-then-is_lost-clause-step
returns-then-is_lost-clause-step g c = steps_on g.S.Store _ _ _ refl refl (λ was. was) (λ db h. h)

pub returns-in-Err-clause-err : goal.returns-in-Err-clause-err
returns-in-Err-clause-err g c =
    let v = g.S.Store.view c.args.self.now.store in
    let w = g.S.Store.view c.release.new.self in
    fails c.args.self.now.lost true v w _ refl c.release.ensures.schema

pub returns-in-Err-clause-cause : goal.returns-in-Err-clause-cause
returns-in-Err-clause-cause g c =
    let w = g.S.Store.view c.release.new.self in
    λ clean. lost_never_clean true w _ refl clean

pub returns-in-Err-clause-shut : goal.returns-in-Err-clause-shut
returns-in-Err-clause-shut g c =
    let w = g.S.Store.view c.release.new.self in
    λ clean. lost_never_clean true w _ refl clean

pub returns-in-Err-clause-quiet : goal.returns-in-Err-clause-quiet
returns-in-Err-clause-quiet g c = quiet_lost g.S.Store _ _ refl c.release.ensures.quiet

pub returns-in-Err-clause-step : goal.returns-in-Err-clause-step
returns-in-Err-clause-step g c =
    steps_on g.S.Store _ _ _ refl refl (λ was. was) c.release.ensures.quiet.outcomes

pub returns-then-self-eq0-clause-ok : goal.returns-then-self-eq0-clause-ok
returns-then-self-eq0-clause-ok g c =
    let v = g.S.Store.view c.args.self.now.store in
    let held = c.args.self.now.held in
    λ clean. let stands = clean_kept c.args.self.now.lost v clean in none_released c.args.self.now.lost c.args.self.now.written v (subst (λ (d : ℕ). IsHeld d c.args.self.now.written v) c.if-self-eq0.true (held stands.0 stands.1))

pub returns-then-self-eq0-clause-step : goal.returns-then-self-eq0-clause-step
returns-then-self-eq0-clause-step g c = steps_on g.S.Store _ _ _ refl refl (λ was. was) (λ db h. h)

pub returns-in-Ok-clause-ok : goal.returns-in-Ok-clause-ok
returns-in-Ok-clause-ok g c =
    let v = g.S.Store.view c.args.self.now.store in
    let w = g.S.Store.view c.release.new.self in
    let s =
    sound_by c.args.self.now.lost c.args.self.now.depth v w (c.is_lost.ensures c.if-is_lost.false)
    (g.met.S.Store.broken_if_shut _) (g.met.S.Store.shut_if_dirty _) c.release.ensures.quiet.clean in
    λ clean. let f = facts c.args.self.now.lost v w s clean in releases_shown c.args.self.now.lost c.args.self.now.depth c.args.self.now.written v w (c.args.self.now.held s.none f.was_open) c.if-self-eq0.false (c.in-Ok.ensures.ok f.now_clean)

pub returns-in-Ok-clause-quiet : goal.returns-in-Ok-clause-quiet
returns-in-Ok-clause-quiet g c =
    let v = g.S.Store.view c.args.self.now.store in
    let w = g.S.Store.view c.release.new.self in
    let s =
    sound_by c.args.self.now.lost c.args.self.now.depth v w (c.is_lost.ensures c.if-is_lost.false)
    (g.met.S.Store.broken_if_shut _) (g.met.S.Store.shut_if_dirty _) c.release.ensures.quiet.clean in
    quiet_kept g.S.Store _ _ s refl c.release.ensures.quiet (λ f. release_commit c.args.self.now.lost c.args.self.now.depth c.args.self.now.written v w (c.args.self.now.held s.none f.was_open) c.if-self-eq0.false (c.in-Ok.ensures.ok f.now_clean))

pub returns-in-Ok-clause-step : goal.returns-in-Ok-clause-step
returns-in-Ok-clause-step g c =
    steps_on g.S.Store _ _ _ refl refl (λ was. was) c.release.ensures.quiet.outcomes

pub invariant_of-self-in-Ok : goal.invariant_of-self-in-Ok
invariant_of-self-in-Ok g c =
    let v = g.S.Store.view c.args.self.now.store in
    let w = g.S.Store.view c.release.new.self in
    let s =
    sound_by c.args.self.now.lost c.args.self.now.depth v w (c.is_lost.ensures c.if-is_lost.false)
    (g.met.S.Store.broken_if_shut _) (g.met.S.Store.shut_if_dirty _) c.release.ensures.quiet.clean in
    record { held = holds_release c.args.self.now.lost c.args.self.now.depth c.args.self.now.written v w s c.if-self-eq0.false c.in-Ok.ensures.ok c.args.self.now.held }
