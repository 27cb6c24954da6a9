-- What calls of the store below do to what is shown.
use Rattle.std.proofs.Common.{◌≡◌, ◌≤◌, ◌<◌, ◌+◌, ◌^◌, ◌∙◌, ℕ, ℤ, Bool, true, false, IsTrue, List, ◌⊎◌, inl, inr}
use Rattle.std.proofs.Common.{Option, None, Result, Ok, Err, IfOk, map, take, ap, refl, subst, sym, arith}
use Rattle.std.proofs.Common.{IfErr, OnErr, ◌&&◌, nat_le}
use Rattle.std.proofs.lemmas.Bool.Decides.{leb_tells}
use Rattle.std.proofs.Common.{true≢false}
use Rattle.std.proofs.lemmas.Bool.{true_from_ne_false}
use Rattle.sqlite_value.specs.Order.{Row}
use Rattle.sqlite_trees.proofs.Doubt.{clean_of, no_doubt, only_falls}
use Rattle.sqlite_trees.specs.declared.error.StoreError.{StoreError}
use Rattle.sqlite_trees.specs.declared.store.Store.{Ghosts}
use Rattle.sqlite_trees.specs.Objects.{catalog_tree}
use Rattle.sqlite_trees.specs.Tree.{Trees, with_tree}
use Rattle.sqlite_trees.specs.View.{Advances, Finds, IsClean, IsFailure, IsQuiet, KeepsSchema, Moves}
use Rattle.sqlite_trees.specs.View.{OnlyWrites, SetsTree, Tells, View, doubt, with_cursor}
use Rattle.batch_store.specs.Held.{Holds, IsHeld, is_kept, shown}
use Rattle.batch_store.specs.Laws.{kept, trees_kept}
use Rattle.batch_store.specs.Seen.{Steps, faults_of, recovers_of, shielded_of, view_of}
use Rattle.batch_store.specs.declared.batched.Batched.{Batched}

-- ---- what is lost

-- what shows as clean isn't lost
pub clean_kept : (lost : Bool) (v : View) → IsClean (shown lost v)
    → (lost ≡ false) × IsTrue v.is_open
clean_kept lost v clean = kept lost v (clean_of (is_kept lost v) clean)

pub lost_never_clean : (lost : Bool) (v : View) (P : Type 0) → lost ≡ true → IsClean (shown lost v)
    → P
lost_never_clean lost v P is clean =
    let stands = clean_kept lost v clean in let no : true ≡ false = sym is ∙ stands.0 in absurd (true≢false no)

pub lost_not_open : (lost : Bool) (v : View) (P : Type 0) → lost ≡ true → IsTrue (is_kept lost v) → P
lost_not_open lost v P is stands =
    let no : true ≡ false = sym is ∙ (kept lost v stands).0 in absurd (true≢false no)

pub lost_holds : (lost : Bool) (depth : ℕ) (written : Bool) (v : View) → lost ≡ true
    → Holds lost depth written v
lost_holds lost depth written v is none stands =
    let no : true ≡ false = sym is ∙ none in absurd (true≢false no)

lost_broken : (lost : Bool) (v : View) (P : Type 0) → lost ≡ true → (shown lost v).is_broken ≡ false → P
lost_broken true v P is h = absurd (true≢false h)
lost_broken false v P is h = absurd (true≢false (sym is))

pub schema_on : (a b : Bool) (v w : View) → KeepsSchema v w → KeepsSchema (shown a v) (shown b w)
schema_on a b v w h = record {
  shape = h.shape;
  reals = h.reals;
  committed_shape = h.committed_shape;
  committed_reals = h.committed_reals;
  numbered = h.numbered;
}

pub schema_same : (v : View) → KeepsSchema v v
schema_same v = record {
  shape = refl;
  reals = refl;
  committed_shape = refl;
  committed_reals = refl;
  numbered = refl;
}

-- a call that loses all has failed
pub fails : (a b : Bool) (v w : View) (e : StoreError) → b ≡ true → KeepsSchema v w
    → IsFailure (shown a v) (shown b w) e
fails a b v w e is h = record {
  kept = record {
    shape = h.shape;
    reals = h.reals;
    committed_shape = h.committed_shape;
    committed_reals = h.committed_reals;
    numbered = h.numbered;
    was_open = λ stands. lost_not_open b w _ is stands;
    committed = λ stands. lost_not_open b w _ is stands;
    marks = λ stands. lost_not_open b w _ is stands;
  };
  unchanged = λ broken. lost_broken b w _ is broken;
  refused = λ clean. lost_never_clean b w _ is clean;
}

pub none_told : (e : StoreError) → Tells None e
none_told e kind is fault = cc

-- ---- what is kept

-- what stands before and after a call that kept all
pub record Facts (lost : Bool) (v w : View) : Type 0 where
  pub was_kept : IsTrue (is_kept lost v)
  pub now_kept : IsTrue (is_kept lost w)
  pub was_open : IsTrue v.is_open
  pub now_open : IsTrue w.is_open
  pub was_clean : IsClean v
  pub now_clean : IsClean w
  pub unbroken : v.is_broken ≡ false

pub either_of : {A B C : Type 0} → (A → C) → (B → C) → A ⊎ B → C
either_of f h (inl a) = f a
either_of f h (inr b) = h b

pub both_ways : (b : Bool) → b ≡ false → IsTrue b → ⊥
both_ways b isnt is = true≢false (sym is ∙ isnt)

kept_if : (lost : Bool) (v : View) → lost ≡ false → IsTrue v.is_open → IsTrue (is_kept lost v)
kept_if lost v none stands = rw none stands

pub clean_if_open : (v : View) → (v.is_clean ≡ false → v.is_open ≡ false) → IsTrue v.is_open → IsClean v
clean_if_open v law stands =
    no_doubt v.is_clean (true_from_ne_false v.is_clean (λ no. both_ways v.is_open (law no) stands))

pub open_if_sound : (v : View) → (v.is_open ≡ false → IsTrue v.is_broken) → v.is_broken ≡ false
    → IsTrue v.is_open
open_if_sound v law sound =
    true_from_ne_false v.is_open (λ no. both_ways v.is_broken sound (law no))

-- a store that is sound is kept
pub was_kept : (lost : Bool) (v : View) → (v.is_open ≡ false → IsTrue v.is_broken) → lost ≡ false
    → v.is_broken ≡ false → IsClean (shown lost v)
was_kept lost v law none sound =
    no_doubt (is_kept lost v) (kept_if lost v none (open_if_sound v law sound))

-- the laws of a store below, and that it was sound before a call unless there is doubt
pub record Sound (lost : Bool) (v w : View) : Type 0 where
  pub none : lost ≡ false
  pub sound : IsClean v → v.is_broken ≡ false
  pub shut : v.is_open ≡ false → IsTrue v.is_broken
  pub dirty : w.is_clean ≡ false → w.is_open ≡ false
  pub clean : doubt v.is_clean ≤ doubt w.is_clean

pub sound_by : (lost : Bool) (depth : ℕ) (v w : View)
    → (lost ≡ false) × (depth + 1 < 2 ^ 64) × (IsClean v → v.is_broken ≡ false)
    → (v.is_open ≡ false → IsTrue v.is_broken) → (w.is_clean ≡ false → w.is_open ≡ false)
    → doubt v.is_clean ≤ doubt w.is_clean → Sound lost v w
sound_by lost depth v w given shut dirty clean = record {
  none = given.0;
  sound = given.2;
  shut = shut;
  dirty = dirty;
  clean = clean;
}

pub facts_of : (lost : Bool) (v w : View) → Sound lost v w → IsTrue w.is_open → Facts lost v w
facts_of lost v w s stands =
    let now : IsClean w = clean_if_open w s.dirty stands in
    let was : IsClean v = omega (arith, s.clean, now) in
    let opened = open_if_sound v s.shut (s.sound was) in
    record {
      was_kept = kept_if lost v s.none opened;
      now_kept = kept_if lost w s.none stands;
      was_open = opened;
      now_open = stands;
      was_clean = was;
      now_clean = now;
      unbroken = s.sound was;
    }

pub facts : (lost : Bool) (v w : View) → Sound lost v w → IsClean (shown lost w) → Facts lost v w
facts lost v w s clean = facts_of lost v w s (clean_kept lost w clean).1

-- only cursors differ: so what is held stays
pub holds_read : (lost : Bool) (depth : ℕ) (written : Bool) (v w : View) → Sound lost v w
    → (IsClean w → w ≡ record v { cursors = w.cursors }) → Holds lost depth written v
    → Holds lost depth written w
holds_read lost depth written v w s reads held none stands =
    let f = facts_of lost v w s stands in
    subst (IsHeld depth written) (sym (reads f.now_clean)) (held none f.was_open)

-- the same of trees, once something was written
pub holds_write : (lost : Bool) (depth : ℕ) (written : Bool) (v w : View) → Sound lost v w
    → (IsClean w → OnlyWrites v w) → Holds lost depth written v → Holds lost depth true w
holds_write lost depth written v w s writes held none stands =
    let f = facts_of lost v w s stands in
    let h = held none f.was_open in
    subst (IsHeld depth true) (sym (writes f.now_clean))
    (h.0, (h.1.0, λ (no : true ≡ false). absurd (true≢false no)))

-- ---- each kind of call

pub only_cursors : (v w : View) (cursor : ℕ) (left : List Row) → w ≡ with_cursor v cursor left
    → w ≡ record v { cursors = w.cursors }
only_cursors v w cursor left e = e ∙ ap (λ (x : View). record v { cursors = x.cursors }) (sym e)

pub none_moved : (v w : View) → w ≡ v → w ≡ record v { cursors = w.cursors }
none_moved v w e = e ∙ ap (λ (x : View). record v { cursors = x.cursors }) (sym e)

pub only_moved : (v w : View) → w ≡ record v { cursors = w.cursors } → OnlyWrites v w
only_moved v w e = e ∙ ap (λ (x : View). record v { trees = x.trees; cursors = w.cursors }) (sym e)

-- a cursor was placed
pub seeks : (lost : Bool) (v w : View) (cursor : ℕ) (of_trees : Trees → List Row) → Facts lost v w
    → w ≡ with_cursor v cursor (of_trees v.trees)
    → shown lost w ≡ with_cursor (shown lost v) cursor (of_trees (shown lost v).trees)
seeks lost v w cursor of_trees f e =
    ap (shown lost) e
    ∙ ap (λ (trees : Trees). with_cursor (shown lost v) cursor (of_trees trees))
    (sym (trees_kept lost v f.was_kept))

pub advances : (lost : Bool) (v w : View) (cursor : ℕ) (row : Row) (found : Bool)
    → Advances v w cursor row found → Advances (shown lost v) (shown lost w) cursor row found
advances lost v w cursor row true (left, was, e) = (left, was, ap (shown lost) e)
advances lost v w cursor row false (was, e) = (was, ap (shown lost) e)

pub moves : (lost : Bool) (v w : View) (cursor : ℕ) → Moves v w cursor
    → Moves (shown lost v) (shown lost w) cursor
moves lost v w cursor m = record { same = ap (shown lost) m.same; others = m.others }

-- what is shown of a store whose trees and cursors are others
written_view : (lost : Bool) (v : View) (trees : Trees) (cursors : ℕ → Option (List Row))
    → IsTrue (is_kept lost v)
    → shown lost (record v { trees = trees; cursors = cursors })
    ≡ record (shown lost v) { trees = trees; cursors = cursors }
written_view lost v trees cursors is = rw is refl

pub sets : (lost : Bool) (v w : View) (tree : ℕ) (edit : List Row → List Row) → Facts lost v w
    → SetsTree v w tree edit → SetsTree (shown lost v) (shown lost w) tree edit
sets lost v w tree edit f s = record {
  sound = rw f.was_kept f.unbroken;
  is =
      ap (shown lost) s.is ∙ written_view lost v (with_tree v.trees tree (edit (v.trees tree))) w.cursors f.was_kept
      ∙ ap (λ (trees : Trees). record (shown lost v) {
        trees = with_tree trees tree (edit (trees tree));
        cursors = w.cursors;
      }) (sym (trees_kept lost v f.was_kept));
}

pub writes : (lost : Bool) (v w : View) → Facts lost v w → OnlyWrites v w
    → OnlyWrites (shown lost v) (shown lost w)
writes lost v w f e =
    ap (shown lost) e ∙ written_view lost v w.trees w.cursors f.was_kept
    ∙ ap (λ (trees : Trees). record (shown lost v) { trees = trees; cursors = w.cursors })
    (sym (trees_kept lost w f.now_kept))

pub unbroken_shown : (lost : Bool) (v w : View) → Facts lost v w → (shown lost v).is_broken ≡ false
unbroken_shown lost v w f = rw f.was_kept f.unbroken

pub finds : (lost : Bool) (v w : View) (tree : ℕ) (id : ℤ) (row : Row) (found : Bool) → Facts lost v w
    → Finds (v.trees tree) id row found → Finds ((shown lost v).trees tree) id row found
finds lost v w tree id row found f h =
    subst (λ (trees : Trees). Finds (trees tree) id row found) (sym (trees_kept lost v f.was_kept)) h

-- nothing was called
pub itself : {S : Type 0} (g : Ghosts S) (s : S)
    → IsQuiet g.view g.faults g.recovers g.is_shielded s s
itself g s = record {
  shield = λ h. h;
  clean = omega arith;
  counts = omega arith;
  closes = λ clean stands. inl stands;
  outcomes = λ db h. h;
}

module _ {S : Type 0} (g : Ghosts S) (old new : Batched S g) where
  -- a call that loses all
  pub quiet_lost : new.lost ≡ true
      → IsQuiet g.view g.faults g.recovers g.is_shielded old.store new.store
      → IsQuiet (view_of g) (faults_of g) (recovers_of g) (shielded_of g) old new
  quiet_lost is q = record {
    shield = q.shield;
    clean =
        only_falls (view_of g old).is_clean (view_of g new).is_clean
        (λ stands. lost_not_open new.lost (g.view new.store) _ is stands);
    counts = q.counts;
    closes = λ clean. lost_never_clean new.lost (g.view new.store) _ is clean;
    outcomes = λ db h. lost_not_open new.lost (g.view new.store) _ is h.0;
  }

  -- a call that keeps all, and what shows as committed
  pub quiet_kept : Sound new.lost (g.view old.store) (g.view new.store) → new.lost ≡ old.lost
      → IsQuiet g.view g.faults g.recovers g.is_shielded old.store new.store
      → (Facts new.lost (g.view old.store) (g.view new.store)
      → (view_of g new).committed ≡ (shown new.lost (g.view old.store)).committed)
      → IsQuiet (view_of g) (faults_of g) (recovers_of g) (shielded_of g) old new
  quiet_kept s same q keeps =
      let v = g.view old.store in
      let w = g.view new.store in
      let fact : IsTrue (is_kept new.lost w) → Facts new.lost v w =
      λ stands. facts_of new.lost v w s (kept new.lost w stands).1 in
      let was : IsTrue (is_kept new.lost w) → IsTrue (is_kept old.lost v) =
      λ stands. subst (λ (b : Bool). IsTrue (is_kept b v)) same (fact stands).was_kept in
      record {
        shield = q.shield;
        clean = only_falls (view_of g old).is_clean (view_of g new).is_clean was;
        counts = q.counts;
        closes = λ clean stands. inl (clean_of (is_kept new.lost w) clean);
        outcomes = λ db h. (
          was h.0,
          h.1 ∙ keeps (fact h.0)
              ∙ ap (λ (b : Bool). (shown b v).committed) same,
        );
      }

  -- a call that commits nothing
  pub steps_on : (tree : Option ℕ) → new.every ≡ old.every → new.left ≡ old.left
      → (old.written ≡ true → new.written ≡ true)
      → ((db : Trees) → g.recovers new.store db → g.recovers old.store db) → Steps g old new tree
  steps_on tree every left written outcomes = record {
    outcomes = λ db h. inl (outcomes db h);
    every = every;
    counted = λ was none. absurd (both_ways new.written none (written was));
    uncounted = λ _. left;
  }

-- where trees and cursors alone differ, what shows as committed stays
pub commit_stays : (lost : Bool) (v w : View) → OnlyWrites v w
    → (shown lost w).committed ≡ (shown lost v).committed
commit_stays lost v w e = ap (λ (x : View). (shown lost x).committed) e

-- ---- what is asked of the store below

-- whether the transaction is broken, as the store below tells it
pub broken_shown : (lost : Bool) (v : View) (told : Bool)
    → (v.is_clean ≡ false → v.is_open ≡ false) → (IsClean v → told ≡ v.is_broken)
    → IsClean (shown lost v) → told ≡ (shown lost v).is_broken
broken_shown lost v told dirty below clean =
    let is : is_kept lost v ≡ true = clean_of (is_kept lost v) clean in
    let stands = kept lost v is in
    let same = below (clean_if_open v dirty stands.1) in
    rw is same

-- its list of objects, as the store below tells it
pub objects_shown : {T E : Type 0} (lost : Bool) (v : View) (told : Result T E) (items : T → List Row)
    → (v.is_clean ≡ false → v.is_open ≡ false)
    → IfOk told (λ rows. IsClean v → items rows ≡ map (take 5) (v.trees catalog_tree))
    → IfOk told (λ rows. IsClean (shown lost v)
    → items rows ≡ map (take 5) ((shown lost v).trees catalog_tree))
objects_shown lost v (Ok rows) items dirty below = λ clean.
    let is : is_kept lost v ≡ true = clean_of (is_kept lost v) clean in
    let stands = kept lost v is in
    below (clean_if_open v dirty stands.1)
    ∙ ap (λ (trees : Trees). map (take 5) (trees catalog_tree)) (sym (trees_kept lost v is))
objects_shown lost v (Err e) items dirty below = tt

-- ---- how a call ends

-- what is lost is in doubt
pub falls_lost : (clean : Bool) → doubt clean ≤ doubt false
falls_lost clean = only_falls clean false (λ (is : false ≡ true). absurd (true≢false (sym is)))

-- a call that failed has lost all, so nothing is said of why
pub gone_cause : {T E : Type 0} (P : E → Type 0) (told : Result T E) (lost : Bool) (v : View)
    → OnErr told (lost ≡ true) → IsClean (shown lost v) → IfErr told P
gone_cause P (Ok x) lost v gone clean = tt
gone_cause P (Err e) lost v gone clean = lost_never_clean lost v _ gone clean

-- where the next commit is the last of so many, something was written, and at most one is missing
pub due_written : (written few : Bool) → IsTrue (written && few) → written ≡ true
due_written true few due = refl
due_written false few due = absurd (true≢false (sym due))

more_left : (left : ℕ) → ((nat_le left 1 ≡ true) × (left ≤ 1)) ⊎ ((nat_le left 1 ≡ false) × (1 < left))
    → nat_le left 1 ≡ false → 1 < left
more_left left (inl (is, few)) isnt = absurd (true≢false (sym is ∙ isnt))
more_left left (inr (is, more)) isnt = more

-- and else more
pub early_left : (written : Bool) (left : ℕ) → written ≡ true → (written && nat_le left 1) ≡ false
    → 1 < left
early_left true left was early = more_left left (leb_tells left 1) early
early_left false left was early = absurd (true≢false (sym was))
