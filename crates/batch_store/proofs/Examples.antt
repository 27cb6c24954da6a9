-- Examples of the definitions, by hand.
use Rattle.std.proofs.Common.{◌≡◌, true, false, [], ◌∷◌, refl}
use Rattle.sqlite_trees.specs.declared.store.Store.{Ghosts}
use Rattle.sqlite_trees.specs.View.{Snapshot, View}
use Rattle.batch_store.specs.Held.{shown}
use Rattle.batch_store.specs.Runs.{commits}
use Rattle.batch_store.specs.Seen.{is_due}
use Rattle.batch_store.specs.declared.batched.Batched.{Batched}

-- Held.antt

what_is_lost_shows_as_shut : (v : View) → (shown true v).is_open ≡ false
what_is_lost_shows_as_shut v = refl

what_is_lost_shows_as_broken : (v : View) → (shown true v).is_broken ≡ true
what_is_lost_shows_as_broken v = refl

what_was_written_shows : (v : View) → (shown false (record v { is_open = true })).trees ≡ v.trees
what_was_written_shows v = refl

its_own_savepoint_shows_as_committed : (v : View) (own : Snapshot)
    → (shown false (record v { is_open = true; marks = own ∷ [] })).committed ≡ own.trees
its_own_savepoint_shows_as_committed v own = refl

its_own_savepoint_is_none : (v : View) (own : Snapshot)
    → (shown false (record v { marks = own ∷ [] })).marks ≡ []
its_own_savepoint_is_none v own = refl

the_next_savepoint_shows : (v : View) (own next : Snapshot)
    → (shown false (record v { marks = own ∷ next ∷ [] })).marks ≡ next ∷ []
the_next_savepoint_shows v own next = refl

-- Runs.antt

written_and_then_not_is_a_commit : commits true false ≡ 1
written_and_then_not_is_a_commit = refl

still_written_is_none : commits true true ≡ 0
still_written_is_none = refl

never_written_is_none : commits false false ≡ 0
never_written_is_none = refl

first_write_is_none : commits false true ≡ 0
first_write_is_none = refl

-- Seen.antt

module _ {S : Type 0} (g : Ghosts S) (s : Batched S g) where
  the_last_of_so_many_is_due : s.written ≡ true → s.left ≡ 1 → is_due g s ≡ true
  the_last_of_so_many_is_due was one = rw (was, one) refl

  the_one_before_it_is_early : s.written ≡ true → s.left ≡ 2 → is_due g s ≡ false
  the_one_before_it_is_early was two = rw (was, two) refl

  a_commit_of_nothing_is_early : s.written ≡ false → s.left ≡ 1 → is_due g s ≡ false
  a_commit_of_nothing_is_early none one = rw none refl
