-- A store that was just opened, with the first savepoint of its own.
use Rattle.std.proofs.Common.{◌≡◌, ◌≤◌, ◌∙◌, ℕ, false, IsTrue, List, [], ◌∷◌, ◌++◌}
use Rattle.std.proofs.Common.{ap, refl, subst, sym, arith}
use Rattle.sqlite.specs.Steps.{IsFresh}
use Rattle.sqlite_trees.specs.declared.store.Shape.{Shape}
use Rattle.sqlite_trees.specs.Objects.{catalog_tree}
use Rattle.sqlite_trees.specs.Tree.{Trees}
use Rattle.sqlite_trees.specs.View.{IsClean, Marks, Snapshot, View, doubt, snapshot}
use Rattle.batch_store.specs.Held.{Holds, IsHeld, layout, shown}
use Rattle.batch_store.proofs.BatchLemmas.{clean_if_open, clean_kept}

-- what stands before and after that savepoint
pub record Begins (v w : View) : Type 0 where
  pub fresh : IsClean v → IsFresh v
  pub marked : IsClean w → Marks v w
  pub clean : doubt v.is_clean ≤ doubt w.is_clean
  pub dirty : w.is_clean ≡ false → w.is_open ≡ false
  pub unaltered : v.is_broken ≡ false → v.trees catalog_tree ≡ v.committed catalog_tree
      → (v.shape ≡ v.committed_shape) × (v.reals ≡ v.committed_reals)

record Begun (v w : View) : Type 0 where
  pub fresh : IsFresh v
  pub is : w ≡ record v { marks = snapshot v ∷ [] }

begun : (v w : View) → Begins v w → IsTrue w.is_open → Begun v w
begun v w b stands =
    let now : IsClean w = clean_if_open w b.dirty stands in
    let was : IsClean v = omega (arith, b.clean, now) in
    let f = b.fresh was in
    record {
      fresh = f;
      is =
          (b.marked now).is
          ∙ ap (λ (ms : List Snapshot). record v { marks = ms ++ snapshot v ∷ [] }) f.unmarked;
    }

pub holds_fresh : (v w : View) → Begins v w → Holds false 0 false w
holds_fresh v w b none stands =
    let it = begun v w b stands in
    let laid = b.unaltered it.fresh.sound (ap (λ (trees : Trees). trees catalog_tree) it.fresh.clean) in
    let same : layout v.shape v.reals ≡ layout v.committed_shape v.committed_reals =
    ap (λ (s : ℕ → Shape). layout s v.reals) laid.0
    ∙ ap (λ (r : ℕ → ℕ). layout v.committed_shape r) laid.1 in
    subst (IsHeld 0 false) (sym it.is) (refl, (same, λ _. refl))

pub fresh_shown : (v w : View) → Begins v w → IsClean (shown false w) → IsFresh (shown false w)
fresh_shown v w b clean =
    let stands = clean_kept false w clean in
    let it = begun v w b stands.1 in
    let opened : IsTrue v.is_open = subst (λ (x : View). IsTrue x.is_open) it.is stands.1 in
    subst (λ (x : View). IsFresh (shown false x)) (sym it.is) (record {
      sound = rw opened it.fresh.sound;
      numbered = it.fresh.numbered;
      clean = refl;
      unmarked = refl;
    })

pub trees_fresh : (v w : View) → Begins v w → IsClean (shown false w)
    → IsClean v × ((shown false w).trees ≡ v.trees)
trees_fresh v w b clean =
    let stands = clean_kept false w clean in
    let it = begun v w b stands.1 in
    let opened : IsTrue v.is_open = subst (λ (x : View). IsTrue x.is_open) it.is stands.1 in
    let now : IsClean w = clean_if_open w b.dirty stands.1 in
    let was : IsClean v = omega (arith, b.clean, now) in
    (was, subst (λ (x : View). (shown false x).trees ≡ v.trees) (sym it.is) (rw opened refl))
