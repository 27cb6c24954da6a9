-- no watch before the first of the request, or after the last, is of the request
use Rattle.std.proofs.Common.{◌≡◌, ◌∙◌, ℕ, ◌<◌, ◌⊎◌, inl, inr, ◌==◌, ◌&&◌, ◌-◌, Bool, true, false}
use Rattle.std.proofs.Common.{ap, arith, drop, length, rules, slice_index_or, take}
use Rattle.std.specs.List.{list_any}
use Rattle.std.specs.Prelude.{nat_le, nat_lt}
use Rattle.std.specs.Str.{bytes_eq}
use Rattle.std.proofs.lemmas.Bool.{ltb-true}
use Rattle.std.proofs.lemmas.Bool.Decides.{eqb_tells}
use Rattle.std.proofs.lemmas.List.{take_all, length-drop}
use Rattle.std.proofs.lemmas.List.Sorted.{IsNonDecreasingBy-drop, IsNonDecreasingBy-take}
use Rattle.std.proofs.lemmas.List.Sorted.{IsPartitionPoint-from_clause}
use Rattle.std.proofs.lemmas.List.Sorted.{IsPartitionedBy-leb, IsPartitionedBy-ltb}
use Rattle.desk_model.specs.Watchers.{is_role}
use Rattle.desk_model.specs.declared.rows.Watcher.{Watcher}
use Rattle.report_core.proofs.Halves.{any_after, any_before}
use Rattle.report_core.proofs.showing.watches_of.Goals as goal

other_number : (a b : ℕ) → (a < b) ⊎ (b < a) → (a == b) ≡ false
other_number a b apart =
    elim (eqb_tells a b) [
      | inl same ↦ absurd (elim apart [
        | inl low ↦ omega (arith, same.1, low)
        | inr high ↦ omega (arith, same.1, high)
      ])
      | inr other ↦ other.0
    ]

below : (a b : ℕ) → nat_lt a b ≡ true → (a == b) ≡ false
below a b e = other_number a b (inl (ltb-true a b e))

above : (a b : ℕ) → nat_le a b ≡ false → (a == b) ≡ false
above a b e = other_number a b (inr (search (rules, e)))

pub returns : goal.returns
returns c rise person role =
    let id = c.args.id in
    let test : Watcher → Bool = λ w. w.id == id && (is_role role w.role && bytes_eq w.person person) in
    let xs = c.args.watches.now in
    let i = c.partition_point-start.result in
    let j = c.partition_point-end.result in
    let rest = take (length xs - i) (drop i xs) in
    let whole : rest ≡ drop i xs =
    take_all (length xs - i) (drop i xs) (omega (arith, length-drop i xs)) in
    let front = IsPartitionPoint-from_clause (λ w. nat_lt w.id id) xs i
    c.partition_point-start.ensures.partitioned (IsPartitionedBy-ltb (λ w. w.id) xs id rise)
    (λ a r f' k. search rules) in
    let back = IsPartitionPoint-from_clause (λ w. nat_le w.id id) rest j
    c.partition_point-end.ensures.partitioned
    (IsPartitionedBy-leb (λ w. w.id) rest id
    (IsNonDecreasingBy-take (λ w. w.id) (length xs - i) (drop i xs)
    (IsNonDecreasingBy-drop (λ w. w.id) i xs rise)))
    (λ a r f' k. search rules) in
    any_before test rest j
    (λ k d from to. let w : Watcher = slice_index_or rest k d in
    ap (λ b. b && (is_role role w.role && bytes_eq w.person person))
    (above w.id id (back.1 k d from to)))
    ∙ ap (list_any test) whole
    ∙ any_after test xs i
    (λ k d from to. let w : Watcher = slice_index_or xs k d in
    ap (λ b. b && (is_role role w.role && bytes_eq w.person person))
    (below w.id id (front.0 k d from to)))
    c.partition_point-start.ensures.bound
