use Rattle.std.proofs.Common.{true, ◌≡◌, refl, subst}
use Rattle.batch_store.proofs.BatchLemmas.{clean_kept, fails, itself, lost_never_clean, quiet_lost}
use Rattle.batch_store.proofs.BatchLemmas.{schema_same, steps_on}
use Rattle.batch_store.proofs.MarkLemmas.{none_left}
use Rattle.std.proofs.Common.{ℕ, ◌+◌, length}
use Rattle.batch_store.proofs.batched.BatchedStore.rollback_to.Goals as goal

pub returns-then-is_lost-clause-err : goal.returns-then-is_lost-clause-err
returns-then-is_lost-clause-err g c =
    let v = g.S.Store.view c.args.self.now.store in
    fails c.args.self.now.lost true v v _ refl (schema_same v)

pub returns-then-is_lost-clause-cause : goal.returns-then-is_lost-clause-cause
returns-then-is_lost-clause-cause g c =
    let v = g.S.Store.view c.args.self.now.store in
    λ clean. lost_never_clean true v _ refl clean

pub returns-then-is_lost-clause-shut : goal.returns-then-is_lost-clause-shut
returns-then-is_lost-clause-shut g c =
    let v = g.S.Store.view c.args.self.now.store in
    λ clean. lost_never_clean true v _ refl clean

pub returns-then-is_lost-clause-quiet : goal.returns-then-is_lost-clause-quiet
returns-then-is_lost-clause-quiet g c = quiet_lost g.S.Store _ _ refl (itself g.S.Store _)

pub returns-then-is_lost-clause-step : goal.returns-then-is_lost-clause-step
returns-then-is_lost-clause-step g c = steps_on g.S.Store _ _ _ refl refl (λ was. was) (λ db h. h)

pub returns-then-self-eq0-clause-ok : goal.returns-then-self-eq0-clause-ok
returns-then-self-eq0-clause-ok g c =
    let v = g.S.Store.view c.args.self.now.store in
    let held = c.args.self.now.held in
    λ clean some. let stands = clean_kept c.args.self.now.lost v clean in absurd (some (none_left v.marks (subst (λ (d : ℕ). length v.marks ≡ d + 1) c.if-self-eq0.true (held stands.0 stands.1).0)))

pub returns-then-self-eq0-clause-step : goal.returns-then-self-eq0-clause-step
returns-then-self-eq0-clause-step g c = steps_on g.S.Store _ _ _ refl refl (λ was. was) (λ db h. h)

pub returns-clause-quiet : goal.returns-clause-quiet
returns-clause-quiet g c = quiet_lost g.S.Store _ _ refl (itself g.S.Store _)

pub returns-clause-step : goal.returns-clause-step
returns-clause-step g c = steps_on g.S.Store _ _ _ refl refl (λ was. was) (λ db h. h)
