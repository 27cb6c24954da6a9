use Rattle.std.proofs.Common.{true, inl, refl}
use Rattle.sqlite_trees.proofs.Doubt.{clean_of}
use Rattle.batch_store.specs.Held.{is_kept}
use Rattle.batch_store.proofs.BatchLemmas.{falls_lost, gone_cause, lost_never_clean, steps_on}
use Rattle.batch_store.proofs.batched.BatchedStore.commit.Goals as goal

pub returns-then-is_lost-clause-clean : goal.returns-then-is_lost-clause-clean
returns-then-is_lost-clause-clean g c = falls_lost _

pub returns-then-is_lost-clause-cause : goal.returns-then-is_lost-clause-cause
returns-then-is_lost-clause-cause g c =
    let v = g.S.Store.view c.args.self.now.store in
    λ clean. lost_never_clean true v _ refl clean

pub returns-then-is_lost-clause-open : goal.returns-then-is_lost-clause-open
returns-then-is_lost-clause-open g c =
    let v = g.S.Store.view c.args.self.now.store in
    λ clean. lost_never_clean true v _ refl clean

pub returns-then-is_lost-clause-step : goal.returns-then-is_lost-clause-step
returns-then-is_lost-clause-step g c = steps_on g.S.Store _ _ _ refl refl (λ was. was) (λ db h. h)

pub returns-then-self-ne0-clause-clean : goal.returns-then-self-ne0-clause-clean
returns-then-self-ne0-clause-clean g c = falls_lost _

pub returns-then-self-ne0-clause-open : goal.returns-then-self-ne0-clause-open
returns-then-self-ne0-clause-open g c =
    let v = g.S.Store.view c.args.self.now.store in
    λ clean. lost_never_clean true v _ refl clean

pub returns-then-self-ne0-clause-step : goal.returns-then-self-ne0-clause-step
returns-then-self-ne0-clause-step g c = steps_on g.S.Store _ _ _ refl refl (λ was. was) (λ db h. h)

pub returns-then-is_due-clause-cause : goal.returns-then-is_due-clause-cause
returns-then-is_due-clause-cause g c =
    let now = c.commit_all.new.self in
    gone_cause _ c.commit_all.result now.lost (g.S.Store.view now.store) c.commit_all.ensures.gone

pub returns-then-is_due-clause-open : goal.returns-then-is_due-clause-open
returns-then-is_due-clause-open g c =
    let now = c.commit_all.new.self in
    λ clean stands. inl (clean_of (is_kept now.lost (g.S.Store.view now.store)) clean)

pub returns-else-is_due-clause-cause : goal.returns-else-is_due-clause-cause
returns-else-is_due-clause-cause g c =
    let now = c.keep_back.new.self in
    gone_cause _ c.keep_back.result now.lost (g.S.Store.view now.store) c.keep_back.ensures.gone

pub returns-else-is_due-clause-open : goal.returns-else-is_due-clause-open
returns-else-is_due-clause-open g c =
    let now = c.keep_back.new.self in
    λ clean stands. inl (clean_of (is_kept now.lost (g.S.Store.view now.store)) clean)
