-- In which order requests are found, and which of them stand on a page.
use Rattle.std.specs.Prelude.{ℕ, ◌^◌, max, min, Bool, true, List, [], filter, fold, reverse, take}
use Rattle.std.specs.Prelude.{Option, Some, None, if◌then◌else◌}
use Rattle.std.specs.Option.{option_map_or}
use Rattle.std.specs.Ordering.{is_lt, nat_cmp, on, then_cmp}
use Rattle.std.specs.declared.cmp.Ordering.{Ordering}
use Rattle.desk_model.specs.Desk.{placed}
use Rattle.find_core.specs.declared.search.Found.{Found}
use Rattle.find_core.specs.declared.search.Order.{Order}
use Rattle.find_core.specs.declared.search.Order.TheVariants.{ByNumber, ByDue, ByLast}
use Rattle.find_core.specs.declared.search.Place.{Place}
use Rattle.find_core.specs.declared.search.Search.{Search}

-- what has no due moment is after all that has one
abbrev pub key_of_due : Option ℕ → ℕ
key_of_due due = option_map_or (λ moment. moment) due (2 ^ 32)

-- of a request with this number, due moment and last entry's moment
abbrev pub key_in : Order → ℕ → Option ℕ → ℕ → ℕ
key_in ByNumber id due last = id
key_in ByDue id due last = key_of_due due
key_in ByLast id due last = last

abbrev pub place_in : Order → ℕ → Option ℕ → ℕ → Place
place_in order id due last = record { key = key_in order id due last; id = id }

abbrev pub place_of : Order → Found → Place
place_of order found = place_in order found.id found.due found.last

-- by what the order asks for, then by the number
abbrev pub place_order : Place → Place → Ordering
place_order = then_cmp (on (λ p. p.key) nat_cmp) (on (λ p. p.id) nat_cmp)

-- the one place comes before the other, in the order or in the other way round
abbrev pub is_before : Bool → Place → Place → Bool
is_before descending a b = is_lt (if descending then place_order b a else place_order a b)

-- each before the first whose place comes after its own
abbrev pub in_order : {X : Type 0} → (X → Place) → List X → List X
in_order place rows = fold (placed (λ a b. is_lt (place_order (place a) (place b)))) [] rows

-- in the order, or in its reverse
abbrev pub in_direction : {X : Type 0} → Bool → (X → Place) → List X → List X
in_direction descending place rows =
    if descending then reverse (in_order place rows) else in_order place rows

abbrev pub is_after : {X : Type 0} → Bool → Option Place → (X → Place) → X → Bool
is_after descending after place row = option_map_or (λ p. is_before descending p (place row)) after true

-- those that come after a place, or all
abbrev pub rows_after : {X : Type 0} → Bool → Option Place → (X → Place) → List X → List X
rows_after descending after place rows =
    filter (is_after descending after place) (in_direction descending place rows)

-- 1 to 500
abbrev pub limit_of : ℕ → ℕ
limit_of limit = max 1 (min limit 500)

-- at most so many of them
abbrev pub page : {X : Type 0} → Bool → ℕ → Option Place → (X → Place) → List X → List X
page descending limit after place rows =
    take (limit_of limit) (rows_after descending after place rows)
