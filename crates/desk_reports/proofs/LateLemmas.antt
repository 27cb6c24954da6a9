-- Late lines of rows in the order of their due moments are those lines in due order.
use Rattle.std.proofs.Common.{◌≡◌, ◌∙◌, ◌+◌, ◌-◌, ◌<◌, ◌≤◌, ℕ, Bool, true, false, cond, List, []}
use Rattle.std.proofs.Common.{◌∷◌, ◌++◌, filter, flat_map, get_or, length, Option, Some, None, refl}
use Rattle.std.proofs.Common.{ap, ap₂, sym, suc, arith}
use Rattle.std.proofs.Common.{IsPermutation, Ordering, Less, Equal, Greater}
use Rattle.std.specs.Prelude.{IfSome, IsSorted, filter_map, nat_lt}
use Rattle.std.specs.Cmp.{IsTotalOrder, nat_cmp_total, on_total, then_total}
use Rattle.std.specs.Cmp.Lexicographic.{options_total}
use Rattle.std.specs.List.{AllByRecursion, cons_option}
use Rattle.std.specs.Option.{option_cmp}
use Rattle.std.specs.Ordering.{is_lt, nat_cmp, on, ordering_then, then_cmp}
use Rattle.std.proofs.lemmas.List.Elements.{recursion_from_All}
use Rattle.std.proofs.lemmas.List.Sorted.{ranks_by, sorted_far}
use Rattle.sqlite_trees.specs.Tree.{IsAscending}
use Rattle.sqlite_trees.proofs.ListLemmas.{IsPermutation-flat_map, ascending-filter}
use Rattle.sqlite_trees.proofs.ListLemmas.{ascending-get_or}
use Rattle.settings_core.specs.declared.settings.Settings.{Settings}
use Rattle.desk_model.specs.Readings.Overdue.{in_due_order, line_if_late}
use Rattle.desk_model.specs.Watchers.{may_show_by}
use Rattle.desk_model.specs.declared.answer.LateLine.{LateLine}
use Rattle.desk_model.specs.declared.rows.RequestRow.{RequestRow}
use Rattle.desk_model.specs.declared.rows.Watcher.{Watcher}
use Rattle.report_core.specs.Rows.{late_line_shown, late_lines_shown}
use Rattle.store_tables.specs.Contents.Request.{Dated, by_dated_id, by_due, is_due_before}
use Rattle.store_tables.specs.Kept.{itself}
use Rattle.store_tables.specs.Picked.{AreOrdered}
use Rattle.store_core.proofs.RiseLemmas.{dated_total}
use Rattle.sorted_lists.proofs.PlacedLemmas.{sort_places}
use Rattle.sorted_lists.proofs.SortedLemmas.{Apart, Rises}

-- ---- what is made of the elements of a list, where something is

module _ {X Y : Type 0} (f : X → Option Y) where
  made_flat : (xs : List X) → flat_map (λ x. cons_option (f x) []) xs ≡ filter_map f xs
  made_flat [] = refl
  made_flat (x ∷ xs) = by (f x) (made_flat xs)
    where
      by : (o : Option Y) → flat_map (λ x. cons_option (f x) []) xs ≡ filter_map f xs
          → cons_option o [] ++ flat_map (λ x. cons_option (f x) []) xs
          ≡ cons_option o (filter_map f xs)
      by None rest = rest
      by (Some y) rest = ap (λ (ys : List Y). y ∷ ys) rest

  pub made_permuted : (xs ys : List X) → IsPermutation xs ys
      → IsPermutation (filter_map f xs) (filter_map f ys)
  made_permuted xs ys same =
      rw (← made_flat xs, ← made_flat ys)
      (IsPermutation-flat_map (λ x. cons_option (f x) []) xs ys same)

  module _ (Of : X → Y → Type 0) (made : (x : X) → IfSome (f x) (Of x)) (R : X → X → Type 0)
      (Q : Y → Y → Type 0)
      (leads : (a b : X) (l m : Y) → Of a l → Of b m → R a b → Q l m) where
    all_made : (a : X) (l : Y) → Of a l → (xs : List X) → AllByRecursion (R a) xs
        → AllByRecursion (Q l) (filter_map f xs)
    all_made a l of [] all = tt
    all_made a l of (x ∷ xs) all = by (f x) (made x) (all_made a l of xs all.1)
      where
        by : (o : Option Y) → IfSome o (Of x) → AllByRecursion (Q l) (filter_map f xs)
            → AllByRecursion (Q l) (cons_option o (filter_map f xs))
        by None h rest = rest
        by (Some m) h rest = (leads a x l m of h all.0, rest)

    pub ascending_made : (xs : List X) → IsAscending R xs → IsAscending Q (filter_map f xs)
    ascending_made [] up = tt
    ascending_made (x ∷ xs) up = by (f x) (made x) (ascending_made xs up.1)
      where
        by : (o : Option Y) → IfSome o (Of x) → IsAscending Q (filter_map f xs)
            → IsAscending Q (cons_option o (filter_map f xs))
        by None h rest = rest
        by (Some l) h rest = (all_made x l h xs up.0, rest)

  -- nothing is made of those that are left out
  pub made_of_kept : (test : X → Bool) → ((x : X) → test x ≡ false → f x ≡ None) → (xs : List X)
      → filter_map f (filter test xs) ≡ filter_map f xs
  made_of_kept test none [] = refl
  made_of_kept test none (x ∷ xs) =
      let rest = made_of_kept test none xs in
      elim (test x) as (λ b. test x ≡ b
      → filter_map f (cond b (x ∷ filter test xs) (filter test xs))
      ≡ cons_option (f x) (filter_map f xs)) [
        | true ↦ λ is. ap (cons_option (f x)) rest
        | false ↦ λ is.
            rest ∙ sym (ap (λ o. cons_option o (filter_map f xs)) (none x is))
      ] refl

-- ---- an order by which none comes before an earlier one

far_apart : {X : Type 0} (lower : X → X → Bool) (xs : List X)
    → ((i j : ℕ) (d : X) → i ≤ j → j < length xs
    → lower (get_or xs j d) (get_or xs i d) ≡ false)
    → IsAscending (λ a b. lower b a ≡ false) xs
far_apart lower [] far = tt
far_apart lower (x ∷ xs) far = (
  recursion_from_All (λ b. lower b x ≡ false) xs
      (λ k d h. far 0 (suc k) d (omega arith) (omega arith)),
  far_apart lower xs (λ i j d low high. far (suc i) (suc j) d (omega arith) (omega arith)),
)

due_total : IsTotalOrder by_due
due_total = then_total (on_total (λ (p : Dated). p.1) (options_total nat_cmp_total))
    (on_total (λ (p : Dated). p.0.id) nat_cmp_total)

none_sooner : (rows : List Dated) → IsSorted by_due rows
    → IsAscending (λ a b. is_lt (by_due b a) ≡ false) rows
none_sooner rows sorted =
    far_apart (λ a b. is_lt (by_due a b)) rows
    (sorted_far (λ a b. is_lt (by_due a b)) (ranks_by due_total (λ (p : Dated). p)) rows sorted)

-- ---- late lines, by due moment and number

abbrev pair_cmp : ℕ × ℕ → ℕ × ℕ → Ordering
pair_cmp = then_cmp (on (λ (p : ℕ × ℕ). p.0) nat_cmp) (on (λ (p : ℕ × ℕ). p.1) nat_cmp)

abbrev pair_total : IsTotalOrder pair_cmp
pair_total = then_total (on_total (λ (p : ℕ × ℕ). p.0) nat_cmp_total)
    (on_total (λ (p : ℕ × ℕ). p.1) nat_cmp_total)

abbrev late_key : LateLine → ℕ × ℕ
late_key line = (line.due, line.id)

-- a line has the due moment and the number of its row
abbrev IsLineOf : Dated → LateLine → Type 0
IsLineOf dated line = (dated.1 ≡ Some line.due) × (dated.0.id ≡ line.id)

module _ (at : ℕ) (s : Settings) (person : List ℕ) (watches : List Watcher) where
  abbrev shown : Dated → Option LateLine
  shown = late_line_shown at s person watches

  line_of_row : (row : RequestRow) (due : ℕ)
      → IfSome (line_if_late at row due) (IsLineOf (row, Some due))
  line_of_row row due =
      elim (nat_lt due at) as (λ b. IfSome (cond b (Some (record {
        id = row.id;
        queue = row.queue;
        owner = row.owner;
        due = due;
        late = at - due;
      })) None) (IsLineOf (row, Some due))) [
        | true ↦ (refl, refl)
        | false ↦ tt
      ]

  line_of : (dated : Dated) → IfSome (shown dated) (IsLineOf dated)
  line_of (row, None) =
      let none : Option LateLine = None in
      elim (may_show_by s person row watches)
      as (λ b. IfSome (cond b none none) (IsLineOf (row, None))) [
        | true ↦ tt
        | false ↦ tt
      ]
  line_of (row, Some due) =
      elim (may_show_by s person row watches)
      as (λ b. IfSome (cond b (line_if_late at row due) None) (IsLineOf (row, Some due))) [
        | true ↦ line_of_row row due
        | false ↦ tt
      ]

  no_line : (dated : Dated) → is_due_before at dated ≡ false → shown dated ≡ None
  no_line (row, None) early =
      let none : Option LateLine = None in
      elim (may_show_by s person row watches) as (λ b. cond b none none ≡ none) [
        | true ↦ refl
        | false ↦ refl
      ]
  no_line (row, Some due) early =
      elim (may_show_by s person row watches)
      as (λ b. cond b (line_if_late at row due) None ≡ None) [
        | true ↦ ap (λ b. cond b (Some (record {
          id = row.id;
          queue = row.queue;
          owner = row.owner;
          due = due;
          late = at - due;
        })) None) early
        | false ↦ refl
      ]

  abbrev Differ : LateLine → LateLine → Type 0
  Differ a b = pair_cmp (late_key a) (late_key b) ≡ Equal → ⊥

  never_tied : (o : Ordering) → ordering_then o Less ≡ Equal → ⊥
  never_tied Less f = cc
  never_tied Equal f = cc
  never_tied Greater f = cc

  differ : (a b : Dated) (l m : LateLine) → IsLineOf a l → IsLineOf b m
      → by_dated_id a b ≡ Less → Differ l m
  differ a b l m of_a of_b low same =
      let less : nat_cmp l.id m.id ≡ Less = sym (ap₂ nat_cmp of_a.1 of_b.1) ∙ low in
      never_tied (nat_cmp l.due m.due)
      (ap (ordering_then (nat_cmp l.due m.due)) (sym less) ∙ same)

  in_order : (a b : Dated) (l m : LateLine) → IsLineOf a l → IsLineOf b m
      → is_lt (by_due b a) ≡ false → is_lt (pair_cmp (late_key m) (late_key l)) ≡ false
  in_order a b l m of_a of_b late =
      ap is_lt (ap₂ ordering_then
      (sym (ap₂ (option_cmp nat_cmp) of_b.0 of_a.0)) (sym (ap₂ nat_cmp of_b.1 of_a.1)))
      ∙ late

  -- of all rows, in the order of their numbers, those that are late were read in due order
  pub late_in_order : (all rows : List Dated) → Rises itself by_dated_id dated_total all
      → AreOrdered by_due (filter (is_due_before at) all) rows
      → late_lines_shown at s person watches rows
      ≡ in_due_order (late_lines_shown at s person watches all)
  late_in_order all rows rise h =
      let late = filter (is_due_before at) all in
      let lines = filter_map shown late in
      let apart : Apart late_key pair_cmp pair_total lines =
      ascending_made shown IsLineOf line_of (λ a b. by_dated_id a b ≡ Less) Differ differ late
      (ascending-filter (λ a b. by_dated_id a b ≡ Less) (is_due_before at) all rise) in
      let up = ascending_made shown IsLineOf line_of (λ a b. is_lt (by_due b a) ≡ false)
      (λ l m. is_lt (pair_cmp (late_key m) (late_key l)) ≡ false) in_order rows
      (none_sooner rows h.sorted) in
      sort_places late_key pair_cmp pair_total lines (filter_map shown rows) apart
      (made_permuted shown late rows h.same)
      (λ k d low high. ascending-get_or
      (λ l m. is_lt (pair_cmp (late_key m) (late_key l)) ≡ false) (filter_map shown rows)
      k (k + 1) d up (omega arith) high)
      ∙ ap in_due_order (made_of_kept shown (is_due_before at) no_line all)
