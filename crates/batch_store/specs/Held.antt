-- What a store shows that keeps some commits back, and what is true of the one below.
use Rattle.std.specs.Prelude.{◌≡◌, ◌+◌, ℕ, Bool, true, false, if◌then◌else◌, List, [], ◌∷◌, length, IsTrue}
use Rattle.std.specs.Coded.{coded_ℕ}
use base.Stored.{Coded-set}
use mathlib.Core.HLevel.{Π_prop, ×_prop}
use Rattle.sqlite_trees.specs.declared.store.Shape.{Shape}
use Rattle.sqlite_trees.specs.Props.{Snapshot-set, Trees-set}
use Rattle.sqlite_trees.specs.Tree.{Trees, no_trees}
use Rattle.sqlite_trees.specs.View.{IsClean, Snapshot, View}

-- the oldest savepoint, or else what was committed
abbrev pub first_of : List Snapshot → Snapshot → Snapshot
first_of [] none = none
first_of (s ∷ ss) none = s

abbrev pub rest_of : List Snapshot → List Snapshot
rest_of [] = []
rest_of (s ∷ ss) = ss

abbrev pub committed_in : View → Snapshot
committed_in v = record { trees = v.committed; shape = v.committed_shape; reals = v.committed_reals }

-- whether all that was kept back is still there
abbrev pub is_kept : Bool → View → Bool
is_kept lost v = if lost then false else v.is_open

-- The store below has one transaction open, with a savepoint of its own after each commit that was
-- kept back: what that goes back to shows as committed. Where what was kept back is lost, nothing is
-- shown any more.
abbrev pub shown : Bool → View → View
shown lost v = record {
  trees = if is_kept lost v then v.trees else no_trees;
  committed = if is_kept lost v then (first_of v.marks (committed_in v)).trees else no_trees;
  cursors = v.cursors;
  shape = v.shape;
  reals = v.reals;
  committed_shape = v.committed_shape;
  committed_reals = v.committed_reals;
  marks = rest_of v.marks;
  is_numbered = v.is_numbered;
  has_sums = v.has_sums;
  is_open = is_kept lost v;
  is_broken = if is_kept lost v then v.is_broken else true;
  is_clean = is_kept lost v;
}

-- as far as that is shown, a crash leaves the last commit, kept back or not
abbrev pub recovers : View → Trees → Type 0
recovers v db = IsTrue v.is_open × (db ≡ v.committed)

-- ---- what the store below holds

-- the shapes of the trees and of their columns, which no call changes
abbrev pub layout : (ℕ → Shape) → (ℕ → ℕ) → Snapshot
layout shape reals = record { trees = no_trees; shape = shape; reals = reals }

-- There are a savepoint of its own and so many others. Where nothing was written since, the trees
-- are as its own has them.
abbrev pub IsHeld : ℕ → Bool → View → Type 0
IsHeld depth written v =
    (length v.marks ≡ depth + 1)
    × ((layout v.shape v.reals ≡ layout v.committed_shape v.committed_reals)
    × (written ≡ false → v.trees ≡ (first_of v.marks (committed_in v)).trees))

pub IsHeld-prop : (depth : ℕ) (written : Bool) (v : View) → IsProp (IsHeld depth written v)
IsHeld-prop depth written v =
    ×_prop (Coded-set coded_ℕ (length v.marks) (depth + 1))
    (×_prop (Snapshot-set _ _) (Π_prop (λ _. Trees-set _ _)))

abbrev pub Holds : Bool → ℕ → Bool → View → Type 0
Holds lost depth written v = lost ≡ false → IsTrue v.is_open → IsHeld depth written v

pub Holds-prop : (lost : Bool) (depth : ℕ) (written : Bool) (v : View)
    → IsProp (Holds lost depth written v)
Holds-prop lost depth written v = Π_prop (λ _. Π_prop (λ _. IsHeld-prop depth written v))

-- what was shown, unless it was lost, is committed below
pub record Stands (v w : View) : Type 0 where
  pub kept : IsClean v
  pub trees : w.trees ≡ v.trees
  pub committed : w.committed ≡ v.trees
  pub marks : w.marks ≡ []
  pub sound : w.is_broken ≡ false
  pub numbered : w.is_numbered ≡ v.is_numbered
