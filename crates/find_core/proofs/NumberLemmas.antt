-- A row that is looked up by halving, by its number.
use Rattle.std.proofs.Common.{◌≡◌, ◌∙◌, ℕ, ◌≤◌, ◌<◌, ◌==◌, zero, suc, Bool, true, false, cond, List, []}
use Rattle.std.proofs.Common.{◌∷◌, find, length, drop, Some, None, refl, ap, sym, arith}
use Rattle.std.proofs.Common.{inl, inr, rules}
use Rattle.std.specs.Prelude.{nat_lt}
use Rattle.std.specs.List.{AllByRecursion, AllWithin, slice_get}
use Rattle.std.proofs.lemmas.Bool.{and_parts, lt-ltb, ltb-true}
use Rattle.std.proofs.lemmas.Bool.Decides.{eqb_tells}
use Rattle.sorted_lists.proofs.Rising.{Climbs, by}
use Rattle.report_core.specs.Rows.{RowsRise, numbers_rise}
use Rattle.find_core.specs.Rows.{Dated, numbered_only, row_among}

abbrev pub number : Dated → ℕ
number d = d.0.id

all_above : (n m : ℕ) (rows : List Dated) → n ≤ m → numbers_rise m rows ≡ true
    → AllByRecursion (λ d. nat_lt n (number d) ≡ true) rows
all_above n m [] low rise = tt
all_above n m (d ∷ ds) low rise =
    let parts = and_parts (nat_lt m d.0.id) (numbers_rise d.0.id ds) rise in
    let above = ltb-true m d.0.id parts.0 in (
      lt-ltb n d.0.id (omega (arith, low, above)),
      all_above n d.0.id ds (omega (arith, low, above)) parts.1,
    )

rows_climb_from : (n : ℕ) (rows : List Dated) → numbers_rise n rows ≡ true
    → Climbs (by number) rows
rows_climb_from n [] rise = tt
rows_climb_from n (d ∷ ds) rise =
    let parts = and_parts (nat_lt n d.0.id) (numbers_rise d.0.id ds) rise in
    (all_above d.0.id d.0.id ds (omega arith) parts.1, rows_climb_from d.0.id ds parts.1)

pub rows_climb : (rows : List Dated) → RowsRise rows → Climbs (by number) rows
rows_climb rows rise = rows_climb_from 0 rows rise

-- what stands before one below a number is below it
pub goes_below : (id : ℕ) (a b : Dated) → by number a b ≡ true → nat_lt (number b) id ≡ true
    → nat_lt (number a) id ≡ true
goes_below id a b lower below =
    let one = ltb-true a.0.id b.0.id lower in
    let two = ltb-true b.0.id id below in
    lt-ltb a.0.id id (omega (arith, one, two))

other_below : (n id : ℕ) → nat_lt n id ≡ true → (n == id) ≡ false
other_below n id below =
    let low = ltb-true n id below in
    elim (eqb_tells n id) [
      | inl same ↦ absurd (omega (arith, same.1, low))
      | inr other ↦ other.0
    ]

-- none has a number where all are above it
none_numbered : (id n : ℕ) (rows : List Dated) → numbers_rise n rows ≡ true → id ≤ n
    → row_among rows id ≡ None
none_numbered id n [] rise low = refl
none_numbered id n (d ∷ ds) rise low =
    let parts = and_parts (nat_lt n d.0.id) (numbers_rise d.0.id ds) rise in
    let above = ltb-true n d.0.id parts.0 in
    elim (eqb_tells d.0.id id) [
      | inl same ↦ absurd (omega (arith, same.1, above, low))
      | inr other ↦
          ap (λ b. cond b (Some d) (row_among ds id)) other.0
          ∙ none_numbered id d.0.id ds parts.1 (omega (arith, low, above))
    ]

not_below : (n id : ℕ) → nat_lt n id ≡ false → id ≤ n
not_below n id e = search (rules, e)

first_numbered : (id n : ℕ) (rows : List Dated) → numbers_rise n rows ≡ true
    → AllWithin (λ d. nat_lt (number d) id ≡ false) rows 0 (length rows)
    → numbered_only id (slice_get rows 0) ≡ row_among rows id
first_numbered id n [] rise after = refl
first_numbered id n (d ∷ ds) rise after =
    let parts = and_parts (nat_lt n d.0.id) (numbers_rise d.0.id ds) rise in
    elim (d.0.id == id)
    as (λ b. cond b (Some d) None ≡ cond b (Some d) (row_among ds id)) [
      | true ↦ refl
      | false ↦
          sym (none_numbered id d.0.id ds parts.1
          (not_below d.0.id id (after 0 d (omega arith) (omega arith))))
    ]

pub numbered_at : (id n : ℕ) (rows : List Dated) (i : ℕ) → numbers_rise n rows ≡ true
    → AllWithin (λ d. nat_lt (number d) id ≡ true) rows 0 i
    → AllWithin (λ d. nat_lt (number d) id ≡ false) rows i (length rows) → i ≤ length rows
    → numbered_only id (slice_get (drop i rows) 0) ≡ row_among rows id
numbered_at id n rows zero rise front back low = first_numbered id n rows rise back
numbered_at id n [] (suc i) rise front back low = refl
numbered_at id n (d ∷ ds) (suc i) rise front back low =
    let parts = and_parts (nat_lt n d.0.id) (numbers_rise d.0.id ds) rise in
    numbered_at id d.0.id ds i parts.1
    (λ k e from to. front (suc k) e (omega arith) (omega arith))
    (λ k e from to. back (suc k) e (omega arith) (omega arith)) (omega arith)
    ∙ ap (λ b. cond b (Some d) (row_among ds id))
    (sym (other_below d.0.id id (front 0 d (omega arith) (omega arith))))
