-- What a crash leaves of the store below, whatever calls were made.
use Rattle.std.specs.Prelude.{◌≡◌, ◌⊎◌, ◌+◌, ◌*◌, ◌≤◌, ℕ, zero, suc, Bool, true, false, Option}
use Rattle.sqlite_trees.specs.declared.store.Store.{Ghosts}
use Rattle.sqlite_trees.specs.Tree.{Trees}
use Rattle.batch_store.specs.Seen.{Steps}
use Rattle.batch_store.specs.declared.batched.Batched.{Batched}

-- how many commits of what was written a call is: what was written before it isn't left to write
abbrev pub commits : Bool → Bool → ℕ
commits true false = 1
commits true true = 0
commits false after = 0

module _ {S : Type 0} (g : Ghosts S) where
  -- so many calls lead from the one to the other, and so many of them commit what was written
  abbrev pub Runs : ℕ → ℕ → Batched S g → Batched S g → Type 0
  Runs zero n old new = (n ≡ 0) × (new ≡ old)
  Runs (suc calls) n old new =
      (mid : Batched S g) × (m : ℕ) × (tree : Option ℕ) × Runs calls m old mid
      × Steps g mid new tree × (n ≡ m + commits mid.written new.written)

  -- what a commit made to which the number of commits is a multiple of so many
  pub record IsWhole (every : ℕ) (old : Batched S g) (db : Trees) : Type 0 where
    pub calls : ℕ
    pub before : ℕ
    pub place : Batched S g
    pub run : Runs calls before old place
    pub times : ℕ
    pub number : before + 1 ≡ times * every
    pub trees : db ≡ (g.view place.store).trees

  -- A crash leaves what it would have left at first, or what a multiple of so many commits left: of
  -- those that are one all, or none.
  abbrev pub IsTogether : Type 0
  IsTogether =
      (calls n : ℕ) (old new : Batched S g) → 1 ≤ old.every → old.left ≡ old.every
      → Runs calls n old new → (db : Trees) → g.recovers new.store db
      → g.recovers old.store db ⊎ IsWhole old.every old db
