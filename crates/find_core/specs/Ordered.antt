-- Rows in the order of their numbers.
use Rattle.std.specs.Prelude.{ℕ, ◌<◌, List, Option}
use Rattle.find_core.specs.declared.search.Place.{Place}
use Rattle.sqlite_trees.specs.Tree.{IsAscending}

-- where a row stands, and when it is due
abbrev pub Placed : Type 0
Placed = Place × Option ℕ

abbrev pub AreApart : List Placed → Type 0
AreApart rows = IsAscending (λ a b. a.0.id < b.0.id) rows
