-- The number of commits to which a crash may lead.
use Rattle.std.proofs.Common.{◌≡◌, ◌⊎◌, ◌≤◌, ◌<◌, ◌+◌, ◌*◌, ◌∙◌, ℕ, zero, suc, Bool, true, false, IsTrue, inl, inr}
use Rattle.std.proofs.Common.{ap, refl, subst, sym, arith, true≢false}
use Rattle.std.specs.Prelude.{◌&&◌, nat_le}
use Rattle.std.proofs.Math.Nat.{add-mul}
use Rattle.std.proofs.lemmas.Bool.{leb-true}
use Rattle.sqlite_trees.specs.declared.store.Store.{Ghosts}
use Rattle.sqlite_trees.specs.Tree.{Trees}
use Rattle.batch_store.specs.Runs.{IsTogether, IsWhole, Runs, commits}
use Rattle.batch_store.specs.Seen.{IsCounted, is_due}
use Rattle.batch_store.specs.declared.batched.Batched.{Batched}
use Rattle.batch_store.proofs.BatchLemmas.{early_left}

-- where the next commit is the last of so many, at most one is missing
due_left : (written : Bool) (left : ℕ) → IsTrue (written && nat_le left 1) → left ≤ 1
due_left true left due = leb-true left 1 due
due_left false left due = absurd (true≢false (sym due))

-- a commit that was counted
abbrev pub Moves : ℕ → ℕ → ℕ → Type 0
Moves left next every = ((left ≤ 1) × (next ≡ every)) ⊎ ((1 < left) × (next + 1 ≡ left))

-- how many were committed, with those that are missing for the next whole number of them
abbrev pub Count : ℕ → ℕ → ℕ → Type 0
Count n left every = (times : ℕ) × (n + left ≡ times * every) × (1 ≤ left)

moved : (m left next every : ℕ) → 1 ≤ every → Moves left next every → Count m left every
    → Count (m + 1) next every
moved m left next every some (inl (last, now)) (times, sum, more) =
    let grown : (times + 1) * every ≡ times * every + 1 * every = add-mul times 1 every in
    let one : 1 * every ≡ every = omega arith in
    (times + 1, omega (arith, grown, one, sum, last, more, now), omega (arith, now, some))
moved m left next every some (inr (early, now)) (times, sum, more) =
    (times, omega (arith, sum, now), omega (arith, early, now))

next_count : (a b : Bool) (n m left next every : ℕ) → 1 ≤ every
    → (a ≡ true → b ≡ false → Moves left next every)
    → ((a ≡ false) ⊎ (b ≡ true) → next ≡ left) → n ≡ m + commits a b → Count m left every
    → Count n next every
next_count true false n m left next every some counted same is had =
    subst (λ (k : ℕ). Count k next every) (sym is) (moved m left next every some (counted refl refl) had)
next_count true true n m left next every some counted same is (times, sum, more) =
    let still = same (inr refl) in
    (times, omega (arith, is, sum, still), omega (arith, still, more))
next_count false b n m left next every some counted same is (times, sum, more) =
    let still = same (inl refl) in
    (times, omega (arith, is, sum, still), omega (arith, still, more))

module _ {S : Type 0} (g : Ghosts S) where
  moves_by : (old new : Batched S g) → old.written ≡ true → IsCounted g old new
      → Moves old.left new.left old.every
  moves_by old new was (inl (due, now)) = inl (due_left old.written old.left due, now)
  moves_by old new was (inr (early, now)) = inr (early_left old.written old.left was early, now)

  pub counts : (calls n : ℕ) (old new : Batched S g) → 1 ≤ old.every → old.left ≡ old.every
      → Runs g calls n old new → (new.every ≡ old.every) × Count n new.left old.every
  counts zero n old new some full (none, same) =
      let is : new.every ≡ old.every = ap (λ (s : Batched S g). s.every) same in
      let left : new.left ≡ old.every = ap (λ (s : Batched S g). s.left) same ∙ full in
      (is, (1, omega (arith, none, left), omega (arith, left, some)))
  counts (suc calls) n old new some full (mid, m, tree, run, step, is) =
      let had = counts calls m old mid some full run in
      let alike : new.every ≡ old.every = step.every ∙ had.0 in
      let counted : mid.written ≡ true → new.written ≡ false → Moves mid.left new.left old.every =
      λ was none. subst (λ (k : ℕ). Moves mid.left new.left k) had.0
      (moves_by mid new was (step.counted was none)) in (
        alike,
        next_count mid.written new.written n m mid.left new.left old.every some counted
            step.uncounted is had.1,
      )

  -- what a crash leaves after one call more
  after_call : (calls m : ℕ) (old mid : Batched S g) → 1 ≤ old.every → old.left ≡ old.every
      → Runs g calls m old mid → (db : Trees)
      → (g.recovers mid.store db → g.recovers old.store db ⊎ IsWhole g old.every old db)
      → g.recovers mid.store db ⊎ (IsTrue (is_due g mid) × (db ≡ (g.view mid.store).trees))
      → g.recovers old.store db ⊎ IsWhole g old.every old db
  after_call calls m old mid some full run db before (inl was) = before was
  after_call calls m old mid some full run db before (inr (due, made)) =
      let had = (counts calls m old mid some full run).1 in
      let last = due_left mid.written mid.left due in
      inr (record {
        calls = calls;
        before = m;
        place = mid;
        run = run;
        times = had.0;
        number = omega (arith, had.1, had.2, last);
        trees = made;
      })

  pub together : IsTogether g
  together zero n old new some full (none, same) db left =
      inl (subst (λ (s : Batched S g). g.recovers s.store db) same left)
  together (suc calls) n old new some full (mid, m, tree, run, step, is) db left =
      after_call calls m old mid some full run db
      (λ was. together calls m old mid some full run db was) (step.outcomes db left)
