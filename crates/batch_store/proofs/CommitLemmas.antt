-- Commits that are kept back, and those that are made.
use Rattle.std.proofs.Common.{◌≡◌, ◌≤◌, ◌+◌, ◌∙◌, ℕ, Bool, true, false, IsTrue, List, [], ◌∷◌, ◌++◌, ◌⊎◌, inl, inr}
use Rattle.std.proofs.Common.{nat_le, Option, None, Ok, Err, if◌then◌else◌, ap, refl, subst, sym, arith}
use Rattle.sqlite_value.specs.Order.{Row}
use Rattle.sqlite_trees.proofs.Doubt.{clean_of, only_falls}
use Rattle.sqlite_trees.specs.declared.store.Shape.{Shape}
use Rattle.sqlite_trees.specs.declared.store.Store.{Ghosts}
use Rattle.sqlite_trees.specs.Tree.{Trees, no_trees}
use Rattle.sqlite_trees.specs.View.{Commits, IsClean, IsRolledBack, KeepsSchema, Marks, OnlyCommits, Releases}
use Rattle.sqlite_trees.specs.View.{Snapshot, View, doubt, snapshot}
use Rattle.batch_store.specs.Held.{Holds, IsHeld, Stands, committed_in, first_of, is_kept, shown}
use Rattle.batch_store.specs.Laws.{kept, trees_kept}
use Rattle.batch_store.specs.Seen.{Settles, Steps, is_due, view_of}
use Rattle.batch_store.specs.declared.batched.Batched.{Batched}
use Rattle.batch_store.proofs.BatchLemmas.{Facts, Sound, clean_if_open, clean_kept, facts_of, lost_never_clean}
use Rattle.batch_store.proofs.BatchLemmas.{both_ways, due_written, either_of, lost_not_open}
use Rattle.batch_store.proofs.MarkLemmas.{none_left, only_one}

-- ---- what the store below comes to

-- its own savepoint goes, and comes again
pub kept_back : (written : Bool) (v u w : View) → IsHeld 0 written v → Releases v u → Marks u w
    → w ≡ record v { marks = snapshot v ∷ [] }
kept_back written v u w held gone again =
    let bare : u ≡ record v { marks = [] } =
    gone ∙ ap (λ (ms : List Snapshot). record v { marks = ms }) (only_one v.marks held.0) in
    again.is ∙ ap (λ (x : View). record x { marks = x.marks ++ snapshot x ∷ [] }) bare

-- all is committed, and its own savepoint comes again
pub made : (v u w : View) → Commits v u → Marks u w
    → w ≡ record v {
      committed = v.trees;
      committed_shape = v.shape;
      committed_reals = v.reals;
      cursors = u.cursors;
      marks = snapshot v ∷ [];
    }
made v u w done again =
    again.is ∙ ap (λ (x : View). record x { marks = x.marks ++ snapshot x ∷ [] }) done.is

-- ---- what is shown then

abbrev as_committed : View → (ℕ → Shape) → (ℕ → ℕ) → (ℕ → Option (List Row)) → View
as_committed v shape reals cursors = record v {
  committed = v.trees;
  committed_shape = shape;
  committed_reals = reals;
  marks = [];
  cursors = cursors;
}

with_cursors_of : (v w : View) (cursors : ℕ → Option (List Row))
    → w ≡ as_committed v v.shape v.reals cursors → w ≡ as_committed v v.shape v.reals w.cursors
with_cursors_of v w cursors e =
    e ∙ ap (λ (x : View). as_committed v v.shape v.reals x.cursors) (sym e)

back_view : (lost : Bool) (v : View) → IsTrue (is_kept lost v)
    → shown lost (record v { marks = snapshot v ∷ [] })
    ≡ as_committed (shown lost v) v.committed_shape v.committed_reals v.cursors
back_view lost v is = rw is refl

pub back_shown : (lost written : Bool) (v u w : View) → Facts lost v w → IsHeld 0 written v
    → Releases v u → Marks u w → Commits (shown lost v) (shown lost w)
back_shown lost written v u w f held gone again =
    let laid = held.1.0 in
    let shape : v.committed_shape ≡ v.shape = ap (λ (x : Snapshot). x.shape) (sym laid) in
    let reals : v.committed_reals ≡ v.reals = ap (λ (x : Snapshot). x.reals) (sym laid) in
    let path : shown lost w ≡ as_committed (shown lost v) v.shape v.reals v.cursors =
    ap (shown lost) (kept_back written v u w held gone again) ∙ back_view lost v f.was_kept
    ∙ ap (λ (s : ℕ → Shape). as_committed (shown lost v) s v.committed_reals v.cursors) shape
    ∙ ap (λ (r : ℕ → ℕ). as_committed (shown lost v) v.shape r v.cursors) reals in
    record {
      sound = rw f.was_kept f.unbroken;
      is = with_cursors_of (shown lost v) (shown lost w) v.cursors path;
    }

made_view : (lost : Bool) (v : View) (cursors : ℕ → Option (List Row)) → IsTrue (is_kept lost v)
    → shown lost (record v {
      committed = v.trees;
      committed_shape = v.shape;
      committed_reals = v.reals;
      cursors = cursors;
      marks = snapshot v ∷ [];
    }) ≡ as_committed (shown lost v) v.shape v.reals cursors
made_view lost v cursors is = rw is refl

pub made_shown : (lost : Bool) (v u w : View) → Facts lost v w → Commits v u → Marks u w
    → Commits (shown lost v) (shown lost w)
made_shown lost v u w f done again =
    let path : shown lost w ≡ as_committed (shown lost v) v.shape v.reals u.cursors =
    ap (shown lost) (made v u w done again) ∙ made_view lost v u.cursors f.was_kept in
    record {
      sound = rw f.was_kept f.unbroken;
      is = with_cursors_of (shown lost v) (shown lost w) u.cursors path;
    }

pub only_commits : (old new : View) → Commits old new → OnlyCommits old new
only_commits old new h = λ i. record (h.is i) { committed = new.committed }

-- ---- what is held then

pub holds_back : (written : Bool) (v u w : View) → IsHeld 0 written v → Releases v u → Marks u w
    → IsHeld 0 false w
holds_back written v u w held gone again =
    subst (IsHeld 0 false) (sym (kept_back written v u w held gone again)) (refl, (held.1.0, λ _. refl))

pub holds_made : (v u w : View) → Commits v u → Marks u w → IsHeld 0 false w
holds_made v u w done again =
    subst (IsHeld 0 false) (sym (made v u w done again)) (refl, (refl, λ _. refl))

-- its own savepoint went and came again over what was written, with no other open
pub held_back : (lost : Bool) (depth : ℕ) (written : Bool) (v u w : View) → Sound lost v w → depth ≡ 0
    → doubt u.is_clean ≤ doubt w.is_clean → (IsClean u → Releases v u) → (IsClean w → Marks u w)
    → Holds lost depth written v → Holds lost depth false w
held_back lost depth written v u w s bare clean gone again held none stands =
    let f = facts_of lost v w s stands in
    let between : IsClean u = omega (arith, clean, f.now_clean) in
    let h : IsHeld 0 written v = subst (λ (d : ℕ). IsHeld d written v) bare (held none f.was_open) in
    subst (λ (d : ℕ). IsHeld d false w) (sym bare)
    (holds_back written v u w h (gone between) (again f.now_clean))

pub shown_back : (lost : Bool) (depth : ℕ) (written : Bool) (v u w : View) → lost ≡ false → depth ≡ 0
    → doubt u.is_clean ≤ doubt w.is_clean → (IsClean u → Releases v u) → (IsClean w → Marks u w)
    → Holds lost depth written v → Facts lost v w → Commits (shown lost v) (shown lost w)
shown_back lost depth written v u w none bare clean gone again held f =
    let between : IsClean u = omega (arith, clean, f.now_clean) in
    let h : IsHeld 0 written v = subst (λ (d : ℕ). IsHeld d written v) bare (held none f.was_open) in
    back_shown lost written v u w f h (gone between) (again f.now_clean)

-- all was committed, and its own savepoint came again
pub held_made : (lost : Bool) (depth : ℕ) (v u w : View) → depth ≡ 0
    → (w.is_clean ≡ false → w.is_open ≡ false) → doubt u.is_clean ≤ doubt w.is_clean
    → (IsClean u → Commits v u) → (IsClean w → Marks u w) → Holds lost depth false w
held_made lost depth v u w bare dirty clean done again none stands =
    let now : IsClean w = clean_if_open w dirty stands in
    let between : IsClean u = omega (arith, clean, now) in
    subst (λ (d : ℕ). IsHeld d false w) (sym bare) (holds_made v u w (done between) (again now))

pub shown_made : (lost : Bool) (v u w : View) → doubt u.is_clean ≤ doubt w.is_clean
    → (IsClean u → Commits v u) → (IsClean w → Marks u w) → Facts lost v w
    → Commits (shown lost v) (shown lost w)
shown_made lost v u w clean done again f =
    let between : IsClean u = omega (arith, clean, f.now_clean) in
    made_shown lost v u w f (done between) (again f.now_clean)

-- what is shown is committed below at the end
pub stands_of : (lost : Bool) (v w : View) → IsClean (shown lost v) → Commits v w
    → Stands (shown lost v) w
stands_of lost v w clean done =
    let same = sym (trees_kept lost v (clean_of (is_kept lost v) clean)) in
    record {
      kept = clean;
      trees = ap (λ (x : View). x.trees) done.is ∙ same;
      committed = ap (λ (x : View). x.committed) done.is ∙ same;
      marks = ap (λ (x : View). x.marks) done.is;
      sound = ap (λ (x : View). x.is_broken) done.is ∙ done.sound;
      numbered = ap (λ (x : View). x.is_numbered) done.is;
    }

-- ---- a rollback

-- what is lost is rolled back
pub lost_back : (a b : Bool) (v w : View) → b ≡ true
    → (v.shape ≡ v.committed_shape → w.shape ≡ v.shape)
    → (v.reals ≡ v.committed_reals → w.reals ≡ v.reals) → w.committed_shape ≡ v.committed_shape
    → w.committed_reals ≡ v.committed_reals → w.is_numbered ≡ v.is_numbered
    → IsRolledBack (shown a v) (shown b w)
lost_back a b v w is shape reals committed_shape committed_reals numbered = record {
  kept = λ clean. lost_never_clean b w _ is clean;
  shape = shape;
  reals = reals;
  committed_shape = committed_shape;
  committed_reals = committed_reals;
  numbered = numbered;
  undone = λ stands. lost_not_open b w _ is stands;
}

pub schema_back : (a b : Bool) (v w : View) → b ≡ true → KeepsSchema v w
    → IsRolledBack (shown a v) (shown b w)
schema_back a b v w is h =
    lost_back a b v w is (λ _. h.shape) (λ _. h.reals) h.committed_shape h.committed_reals h.numbered

pub schema_both : (v u w : View) → KeepsSchema v u → KeepsSchema u w → KeepsSchema v w
schema_both v u w a b = record {
  shape = b.shape ∙ a.shape;
  reals = b.reals ∙ a.reals;
  committed_shape = b.committed_shape ∙ a.committed_shape;
  committed_reals = b.committed_reals ∙ a.committed_reals;
  numbered = b.numbered ∙ a.numbered;
}

-- where nothing was written there is nothing to roll back
alike_back : (lost : Bool) (v : View) → (IsClean v → v.is_broken ≡ false)
    → (v.is_clean ≡ false → v.is_open ≡ false) → Holds lost 0 false v
    → IsRolledBack (shown lost v) (shown lost v)
alike_back lost v sound dirty held = record {
  kept = λ clean.
      let stands = clean_kept lost v clean in
      let h = held stands.0 stands.1 in
      let laid = h.1.0 in
      let is : is_kept lost v ≡ true = clean_of (is_kept lost v) clean in
      let shape : v.shape ≡ (if is_kept lost v then v.committed_shape else v.shape) =
      rw is (ap (λ (x : Snapshot). x.shape) laid) in
      let reals : v.reals ≡ (if is_kept lost v then v.committed_reals else v.reals) =
      rw is (ap (λ (x : Snapshot). x.reals) laid) in
      record {
        shape = shape;
        reals = reals;
        committed_shape = refl;
        committed_reals = refl;
        numbered = refl;
        was_open = λ is_open. is_open;
        committed = λ _. refl;
        marks = λ _. none_left v.marks h.0;
      };
  shape = λ _. refl;
  reals = λ _. refl;
  committed_shape = refl;
  committed_reals = refl;
  numbered = refl;
  undone = λ stands.
      let is : is_kept lost v ≡ true = stands in
      let opened = kept lost v stands in
      let h = held opened.0 opened.1 in
      let same : (if is_kept lost v then v.trees else no_trees)
      ≡ (if is_kept lost v then (first_of v.marks (committed_in v)).trees else no_trees) =
      rw is (h.1.1 refl) in
      let whole : (if is_kept lost v then v.is_broken else true) ≡ false =
      rw is (sound (clean_if_open v dirty opened.1)) in (same, whole);
}

pub unlike_back : (lost : Bool) (depth : ℕ) (written : Bool) (v : View)
    → (depth ≡ 0) × (written ≡ false) × (IsClean v → v.is_broken ≡ false)
    → (v.is_clean ≡ false → v.is_open ≡ false) → Holds lost depth written v
    → IsRolledBack (shown lost v) (shown lost v)
unlike_back lost depth written v given dirty had =
    let held : Holds lost 0 false v =
    subst (λ (d : ℕ). Holds lost d false v) given.0
    (subst (λ (b : Bool). Holds lost depth b v) given.1 had) in
    alike_back lost v given.2 dirty held

module _ {S : Type 0} (g : Ghosts S) (old new : Batched S g) where
  -- a commit that failed loses what was kept back
  pub settles_lost : {T E : Type 0} (e : E) → new.lost ≡ true
      → IsRolledBack (view_of g old) (view_of g new)
      → (g.is_shielded old.store → g.is_shielded new.store)
      → g.faults old.store ≤ g.faults new.store → Steps g old new None
      → Settles g {T = T} {E = E} old new (Err e)
  settles_lost e is back shield counts step = record {
    ok = tt;
    frame = tt;
    err = back;
    gone = is;
    clean =
        only_falls (view_of g old).is_clean (view_of g new).is_clean
        (λ stands. lost_not_open new.lost (g.view new.store) _ is stands);
    shield = shield;
    counts = counts;
    step = step;
    crash = λ db h. lost_not_open new.lost (g.view new.store) _ is h.0;
  }

  -- one that was made, and then all is lost
  pub settles_then_lost : {T E : Type 0} (x : T) → new.lost ≡ true
      → (g.is_shielded old.store → g.is_shielded new.store)
      → g.faults old.store ≤ g.faults new.store → Steps g old new None
      → Settles g {T = T} {E = E} old new (Ok x)
  settles_then_lost x is shield counts step = record {
    ok = λ clean. lost_never_clean new.lost (g.view new.store) _ is clean;
    frame = λ clean. lost_never_clean new.lost (g.view new.store) _ is clean;
    err = tt;
    gone = tt;
    clean =
        only_falls (view_of g old).is_clean (view_of g new).is_clean
        (λ stands. lost_not_open new.lost (g.view new.store) _ is stands);
    shield = shield;
    counts = counts;
    step = step;
    crash = λ db h. lost_not_open new.lost (g.view new.store) _ is h.0;
  }

  -- one that was made or kept back
  pub settles : {T E : Type 0} (x : T) → new.lost ≡ old.lost
      → Sound new.lost (g.view old.store) (g.view new.store)
      → (Facts new.lost (g.view old.store) (g.view new.store)
      → Commits (shown new.lost (g.view old.store)) (view_of g new))
      → (g.is_shielded old.store → g.is_shielded new.store)
      → g.faults old.store ≤ g.faults new.store → Steps g old new None
      → Settles g {T = T} {E = E} old new (Ok x)
  settles x same s done shield counts step =
      let v = g.view old.store in
      let w = g.view new.store in
      let fact : IsTrue (is_kept new.lost w) → Facts new.lost v w =
      λ stands. facts_of new.lost v w s (kept new.lost w stands).1 in
      let was : IsTrue (is_kept new.lost w) → IsTrue (is_kept old.lost v) =
      λ stands. subst (λ (b : Bool). IsTrue (is_kept b v)) same (fact stands).was_kept in
      let commits : IsTrue (is_kept new.lost w) → Commits (view_of g old) (view_of g new) =
      λ stands. subst (λ (b : Bool). Commits (shown b v) (view_of g new)) same (done (fact stands)) in
      record {
        ok = λ clean. commits (clean_of (is_kept new.lost w) clean);
        frame = λ clean.
            only_commits (view_of g old) (view_of g new)
            (commits (clean_of (is_kept new.lost w) clean));
        err = tt;
        gone = tt;
        clean = only_falls (view_of g old).is_clean (view_of g new).is_clean was;
        shield = shield;
        counts = counts;
        step = step;
        crash = λ db h.
            let it = commits h.0 in
            inl (it.sound, h.1 ∙ ap (λ (x : View). x.committed) it.is);
      }

  -- as many commits are one by this one
  pub steps_made : (tree : Option ℕ) → new.every ≡ old.every → new.left ≡ old.every → new.written ≡ false
      → IsTrue (is_due g old) → ((db : Trees) → g.recovers new.store db
      → (((g.view old.store).is_broken ≡ false) × (db ≡ (g.view old.store).trees))
      ⊎ g.recovers old.store db) → Steps g old new tree
  steps_made tree every left none due crash =
      let was = due_written old.written (nat_le old.left 1) due in
      record {
        outcomes = λ db h. either_of (λ made. inr (due, made.1)) (λ stays. inl stays) (crash db h);
        every = every;
        counted = λ _ _. inl (due, left);
        uncounted =
            either_of (λ isnt. absurd (both_ways old.written isnt was))
            (λ is. absurd (both_ways new.written none is));
      }

  -- it failed, though a crash may leave it
  pub steps_failed : (tree : Option ℕ) → new.every ≡ old.every → new.left ≡ old.left
      → new.written ≡ old.written → IsTrue (is_due g old) → ((db : Trees) → g.recovers new.store db
      → (((g.view old.store).is_broken ≡ false) × (db ≡ (g.view old.store).trees))
      ⊎ g.recovers old.store db) → Steps g old new tree
  steps_failed tree every left written due crash = record {
    outcomes = λ db h. either_of (λ made. inr (due, made.1)) (λ stays. inl stays) (crash db h);
    every = every;
    counted = λ was none. absurd (both_ways new.written none (written ∙ was));
    uncounted = λ _. left;
  }

  -- what was written is kept back
  pub steps_back : (tree : Option ℕ) → new.every ≡ old.every → new.left + 1 ≡ old.left
      → old.written ≡ true → new.written ≡ false → is_due g old ≡ false
      → ((db : Trees) → g.recovers new.store db → g.recovers old.store db) → Steps g old new tree
  steps_back tree every left was none early outcomes = record {
    outcomes = λ db h. inl (outcomes db h);
    every = every;
    counted = λ _ _. inr (early, left);
    uncounted =
        either_of (λ isnt. absurd (both_ways old.written isnt was))
        (λ is. absurd (both_ways new.written none is));
  }
