-- Savepoints on the one that a store keeps for itself.
use Rattle.std.proofs.Common.{◌≡◌, ◌≢◌, ◌≤◌, ◌+◌, ◌-◌, ◌∙◌, ℕ, zero, suc, Bool, false, IsTrue, List, [], ◌∷◌, ◌++◌}
use Rattle.std.proofs.Common.{if◌then◌else◌, length, take, ap, refl, subst, sym, arith}
use Rattle.std.proofs.lemmas.List.{length-append}
use Rattle.sqlite_trees.specs.Tree.{Trees, no_trees}
use Rattle.sqlite_trees.specs.View.{IsClean, Marks, Releases, Snapshot, View, snapshot}
use Rattle.batch_store.specs.Held.{Holds, IsHeld, committed_in, first_of, is_kept, rest_of, shown}
use Rattle.batch_store.specs.Laws.{trees_kept}
use Rattle.batch_store.proofs.BatchLemmas.{Facts, Sound, facts_of}

-- ---- lists of savepoints

first_on : (ms : List Snapshot) (x none : Snapshot) (n : ℕ) → length ms ≡ n + 1
    → first_of (ms ++ x ∷ []) none ≡ first_of ms none
first_on [] x none n some = absurd (omega (arith, some))
first_on (m ∷ ms) x none n some = refl

rest_on : (ms : List Snapshot) (x : Snapshot) (n : ℕ) → length ms ≡ n + 1
    → rest_of (ms ++ x ∷ []) ≡ rest_of ms ++ x ∷ []
rest_on [] x n some = absurd (omega (arith, some))
rest_on (m ∷ ms) x n some = refl

pub none_left : (ms : List Snapshot) → length ms ≡ 0 + 1 → rest_of ms ≡ []
none_left [] some = absurd (omega (arith, some))
none_left (m ∷ []) some = refl
none_left (m ∷ k ∷ ms) some = absurd (omega (arith, some))

pub only_one : (ms : List Snapshot) → length ms ≡ 0 + 1 → take (length ms - 1) ms ≡ []
only_one ms some = let none : length ms - 1 ≡ 0 = omega (arith, some) in rw none refl

first_taken : (ms : List Snapshot) (none : Snapshot) (n : ℕ) → length ms ≡ n + 1 → n ≢ 0
    → first_of (take (length ms - 1) ms) none ≡ first_of ms none
first_taken [] none n some more = absurd (omega (arith, some))
first_taken (m ∷ []) none n some more = absurd (more (omega (arith, some)))
first_taken (m ∷ k ∷ ms) none n some more =
    let fewer : length (m ∷ k ∷ ms) - 1 ≡ suc (length ms) = omega arith in rw fewer refl

rest_taken : (ms : List Snapshot) (n : ℕ) → length ms ≡ n + 1 → n ≢ 0
    → rest_of (take (length ms - 1) ms) ≡ take (length (rest_of ms) - 1) (rest_of ms)
rest_taken [] n some more = absurd (omega (arith, some))
rest_taken (m ∷ []) n some more = absurd (more (omega (arith, some)))
rest_taken (m ∷ k ∷ ms) n some more =
    let fewer : length (m ∷ k ∷ ms) - 1 ≡ suc (length ms) = omega arith in
    let less : length (k ∷ ms) - 1 ≡ length ms = omega arith in rw (fewer, less) refl

taken_length : (k : ℕ) (ms : List Snapshot) → k ≤ length ms → length (take k ms) ≡ k
taken_length zero ms within = refl
taken_length (suc k) [] within = absurd (omega (arith, within))
taken_length (suc k) (m ∷ ms) within =
    let less : k ≤ length ms = omega (arith, within) in
    let rest = taken_length k ms less in omega (arith, rest)

-- ---- what is shown

snapshot_shown : (lost : Bool) (v : View) → IsTrue (is_kept lost v)
    → snapshot (shown lost v) ≡ snapshot v
snapshot_shown lost v is =
    ap (λ (trees : Trees). record { trees = trees; shape = v.shape; reals = v.reals })
    (trees_kept lost v is)

marked_view : (lost : Bool) (v : View) (ms : List Snapshot)
    → first_of ms (committed_in v) ≡ first_of v.marks (committed_in v)
    → shown lost (record v { marks = ms }) ≡ record (shown lost v) { marks = rest_of ms }
marked_view lost v ms e =
    ap (λ (s : Snapshot). record (shown lost v) {
      committed = if is_kept lost v then s.trees else no_trees;
      marks = rest_of ms;
    }) e

pub marks_shown : (lost : Bool) (depth : ℕ) (written : Bool) (v w : View) → Facts lost v w
    → IsHeld depth written v → Marks v w → Marks (shown lost v) (shown lost w)
marks_shown lost depth written v w f held m = record {
  sound = rw f.was_kept f.unbroken;
  is =
      ap (shown lost) m.is
      ∙ marked_view lost v (v.marks ++ snapshot v ∷ [])
      (first_on v.marks (snapshot v) (committed_in v) depth held.0)
      ∙ ap (λ (ms : List Snapshot). record (shown lost v) { marks = ms })
      (rest_on v.marks (snapshot v) depth held.0)
      ∙ ap (λ (s : Snapshot). record (shown lost v) { marks = rest_of v.marks ++ s ∷ [] })
      (sym (snapshot_shown lost v f.was_kept));
}

pub releases_shown : (lost : Bool) (depth : ℕ) (written : Bool) (v w : View)
    → IsHeld depth written v → depth ≢ 0 → Releases v w → Releases (shown lost v) (shown lost w)
releases_shown lost depth written v w held more e =
    ap (shown lost) e
    ∙ marked_view lost v (take (length v.marks - 1) v.marks)
    (first_taken v.marks (committed_in v) depth held.0 more)
    ∙ ap (λ (ms : List Snapshot). record (shown lost v) { marks = ms })
    (rest_taken v.marks depth held.0 more)

-- with no savepoint but its own there is none to release, and none to go back to
pub none_released : (lost : Bool) (written : Bool) (v : View) → IsHeld 0 written v
    → Releases (shown lost v) (shown lost v)
none_released lost written v held =
    let none = none_left v.marks held.0 in
    rw none refl

-- ---- what is held

pub holds_mark : (lost : Bool) (depth : ℕ) (written : Bool) (v w : View) → Sound lost v w
    → (IsClean w → Marks v w) → Holds lost depth written v → Holds lost (depth + 1) written w
holds_mark lost depth written v w s marked held none stands =
    let f = facts_of lost v w s stands in
    let h = held none f.was_open in
    let m = marked f.now_clean in
    let same = first_on v.marks (snapshot v) (committed_in v) depth h.0 in
    subst (IsHeld (depth + 1) written) (sym m.is) (
      omega (arith, length-append v.marks (snapshot v ∷ []), h.0),
      (h.1.0, λ (clean : written ≡ false). h.1.1 clean ∙ ap (λ (x : Snapshot). x.trees) (sym same)),
    )

pub holds_release : (lost : Bool) (depth : ℕ) (written : Bool) (v w : View) → Sound lost v w
    → depth ≢ 0 → (IsClean w → Releases v w) → Holds lost depth written v
    → Holds lost (depth - 1) written w
holds_release lost depth written v w s more released held none stands =
    let f = facts_of lost v w s stands in
    let h = held none f.was_open in
    let within : length v.marks - 1 ≤ length v.marks = omega arith in
    let taken = taken_length (length v.marks - 1) v.marks within in
    let same = first_taken v.marks (committed_in v) depth h.0 more in
    subst (IsHeld (depth - 1) written) (sym (released f.now_clean)) (
      omega (arith, taken, h.0, more),
      (h.1.0, λ (clean : written ≡ false). h.1.1 clean ∙ ap (λ (x : Snapshot). x.trees) (sym same)),
    )

-- what shows as committed stays
pub mark_commit : (lost : Bool) (depth : ℕ) (written : Bool) (v w : View) → IsHeld depth written v
    → Marks v w → (shown lost w).committed ≡ (shown lost v).committed
mark_commit lost depth written v w held m =
    ap (λ (x : View). (shown lost x).committed) m.is
    ∙ ap (λ (s : Snapshot). if is_kept lost v then s.trees else no_trees)
    (first_on v.marks (snapshot v) (committed_in v) depth held.0)

pub release_commit : (lost : Bool) (depth : ℕ) (written : Bool) (v w : View)
    → IsHeld depth written v → depth ≢ 0 → Releases v w
    → (shown lost w).committed ≡ (shown lost v).committed
release_commit lost depth written v w held more e =
    ap (λ (x : View). (shown lost x).committed) e
    ∙ ap (λ (s : Snapshot). if is_kept lost v then s.trees else no_trees)
    (first_taken v.marks (committed_in v) depth held.0 more)
