-- How a store that keeps commits back is seen.
use Rattle.std.specs.Prelude.{◌≡◌, ◌⊎◌, ◌≤◌, ◌+◌, ◌&&◌, nat_le, ℕ, Bool, true, false}
use Rattle.std.specs.Prelude.{IsTrue, Option, None, Result, OnOk, OnErr}
use Rattle.sqlite_trees.specs.declared.store.Store.{Ghosts}
use Rattle.sqlite_trees.specs.Tree.{Trees}
use Rattle.sqlite_trees.specs.View.{Commits, IsClean, IsRolledBack, OnlyCommits, View, doubt}
use Rattle.batch_store.specs.Held.{recovers, shown}
use Rattle.batch_store.specs.declared.batched.Batched.{Batched}

module _ {S : Type 0} (g : Ghosts S) where
  abbrev pub view_of : Batched S g → View
  view_of s = shown s.lost (g.view s.store)

  abbrev pub faults_of : Batched S g → ℕ
  faults_of s = g.faults s.store

  abbrev pub recovers_of : Batched S g → Trees → Type 0
  recovers_of s = recovers (view_of s)

  abbrev pub shielded_of : Batched S g → Type 0
  shielded_of s = g.is_shielded s.store

  -- as many commits are one by the next one
  abbrev pub is_due : Batched S g → Bool
  is_due s = s.written && nat_le s.left 1

  -- what was written since the last commit is made with those that were kept back, or kept back too
  abbrev pub IsCounted : Batched S g → Batched S g → Type 0
  IsCounted old new =
      (IsTrue (is_due old) × (new.left ≡ old.every))
      ⊎ ((is_due old ≡ false) × (new.left + 1 ≡ old.left))

  -- A crash leaves of the store below what it left before; or, where as many commits are one by
  -- then, what this call commits. A commit of what was written is counted, and no other call.
  pub record Steps (old new : Batched S g) (tree : Option ℕ) : Type 0 where
    pub outcomes : (db : Trees) → g.recovers new.store db
        → g.recovers old.store db ⊎ (IsTrue (is_due old) × (db ≡ (g.view old.store).trees))
    pub every : new.every ≡ old.every
    pub counted : old.written ≡ true → new.written ≡ false → IsCounted old new
    pub uncounted : (old.written ≡ false) ⊎ (new.written ≡ true) → new.left ≡ old.left

  abbrev pub over_batch : Ghosts (Batched S g)
  over_batch = record {
    view = view_of;
    faults = faults_of;
    recovers = recovers_of;
    is_shielded = shielded_of;
    is_step = Steps;
    blamed = λ _. None;
    names = λ _ _ _. Unit {0};
  }

  -- a commit was made or kept back, and shows as made; or all is lost
  pub record Settles {T E : Type 0} (old new : Batched S g) (result : Result T E) : Type 0 where
    pub ok : OnOk result (IsClean (view_of new) → Commits (view_of old) (view_of new))
    pub frame : OnOk result (IsClean (view_of new) → OnlyCommits (view_of old) (view_of new))
    pub err : OnErr result (IsRolledBack (view_of old) (view_of new))
    pub gone : OnErr result (new.lost ≡ true)
    pub clean : doubt (view_of old).is_clean ≤ doubt (view_of new).is_clean
    pub shield : g.is_shielded old.store → g.is_shielded new.store
    pub counts : g.faults old.store ≤ g.faults new.store
    pub step : Steps old new None
    pub crash : (db : Trees) → recovers_of new db
        → (((view_of old).is_broken ≡ false) × (db ≡ (view_of old).trees)) ⊎ recovers_of old db
