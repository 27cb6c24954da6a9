-- What is true of each store that keeps commits back, since it is of the one below.
use Rattle.std.proofs.Common.{◌≡◌, Bool, true, false, IsTrue, if◌then◌else◌, ap, refl, subst, sym}
use Rattle.std.proofs.Common.{true≢false}
use Rattle.sqlite_trees.proofs.Doubt.{clean_of}
use Rattle.sqlite_trees.specs.declared.store.Store.{Ghosts}
use Rattle.sqlite_trees.specs.Objects.{IsListed, catalog_tree}
use Rattle.sqlite_trees.specs.Tree.{Trees, no_trees}
use Rattle.sqlite_trees.specs.View.{IsClean, IsOrdered, Snapshot, View}
use Rattle.batch_store.specs.Held.{is_kept, shown}
use Rattle.batch_store.specs.Seen.{recovers_of, view_of}
use Rattle.batch_store.specs.declared.batched.Batched.{Batched}

split : (kept broken : Bool) → (if kept then broken else true) ≡ false → IsTrue kept × (broken ≡ false)
split true broken h = (refl, h)
split false broken h = absurd (true≢false h)

-- what is kept isn't lost, and stands in a store that is open
pub kept : (lost : Bool) (v : View) → IsTrue (is_kept lost v) → (lost ≡ false) × IsTrue v.is_open
kept true v h = absurd (true≢false (sym h))
kept false v h = (refl, h)

-- a store that isn't broken has kept all
pub unbroken : (lost : Bool) (v : View) → (shown lost v).is_broken ≡ false
    → IsTrue (is_kept lost v) × (v.is_broken ≡ false)
unbroken lost v h = split (is_kept lost v) v.is_broken h

pub trees_kept : (lost : Bool) (v : View) → IsTrue (is_kept lost v) → (shown lost v).trees ≡ v.trees
trees_kept lost v h = rw h refl

module _ {S : Type 0} {g : Ghosts S} where
  pub ordered_at : ((s : S) → (g.view s).is_broken ≡ false → IsOrdered (g.view s).shape (g.view s).trees)
      → (s : Batched S g) → (view_of g s).is_broken ≡ false
      → IsOrdered (view_of g s).shape (view_of g s).trees
  ordered_at law s h =
      let is = unbroken s.lost (g.view s.store) h in
      subst (λ trees. IsOrdered (g.view s.store).shape trees)
      (sym (trees_kept s.lost (g.view s.store) is.0)) (law s.store is.1)

  pub listed_at : ((s : S) → (g.view s).is_broken ≡ false
      → IsListed ((g.view s).trees catalog_tree) (g.view s).shape (g.view s).reals)
      → (s : Batched S g) → (view_of g s).is_broken ≡ false
      → IsListed ((view_of g s).trees catalog_tree) (view_of g s).shape (view_of g s).reals
  listed_at law s h =
      let is = unbroken s.lost (g.view s.store) h in
      subst (λ (trees : Trees). IsListed (trees catalog_tree) (g.view s.store).shape (g.view s.store).reals)
      (sym (trees_kept s.lost (g.view s.store) is.0)) (law s.store is.1)

  pub shut_at : (s : Batched S g) → (view_of g s).is_clean ≡ false → (view_of g s).is_open ≡ false
  shut_at s h = h

  pub empty_at : (s : Batched S g) → (view_of g s).is_clean ≡ false
      → ((view_of g s).trees ≡ no_trees) × ((view_of g s).committed ≡ no_trees)
  empty_at s h = rw h (refl, refl)

  pub broken_at : (s : Batched S g) → (view_of g s).is_open ≡ false → IsTrue (view_of g s).is_broken
  broken_at s h = rw h refl

  pub settled_at : (s : Batched S g) (db : Trees) → IsTrue (view_of g s).is_open → recovers_of g s db
      → db ≡ (view_of g s).committed
  settled_at s db stands h = h.1

  pub stays_at : (s : Batched S g) → IsTrue (view_of g s).is_open
      → recovers_of g s (view_of g s).committed
  stays_at s stands = (stands, refl)

  pub survives_at : (s : Batched S g) → IsClean (view_of g s)
      → ∥ ((db : Trees) × recovers_of g s db) ∥₁
  survives_at s clean = ∣ ((view_of g s).committed, (clean_of (view_of g s).is_clean clean, refl)) ∣₁

  pub unaltered_at : (s : Batched S g) → (view_of g s).is_broken ≡ false
      → (view_of g s).trees catalog_tree ≡ (view_of g s).committed catalog_tree
      → ((view_of g s).shape ≡ (view_of g s).committed_shape)
      × ((view_of g s).reals ≡ (view_of g s).committed_reals)
  unaltered_at s h same =
      let is = unbroken s.lost (g.view s.store) h in
      let stands = kept s.lost (g.view s.store) is.0 in
      let laid = (s.held stands.0 stands.1).1.0 in
      (ap (λ (x : Snapshot). x.shape) laid, ap (λ (x : Snapshot). x.reals) laid)
