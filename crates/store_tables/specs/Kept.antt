-- What a table keeps: some values, each in a row of its own, in no order that matters.
use Rattle.std.specs.Prelude.{◌≡◌, ℕ, ℤ, pos, List, ◌∷◌, map, IsPermutation}
use Rattle.sqlite.specs.declared.types.Value.TheVariants.{Int}
use Rattle.sqlite.specs.Order.{Row}
use Rattle.sqlite_trees.specs.Tree.{IsTable}

-- what is kept has a row and a value
pub record Holds {K X : Type 0} (row : K → Row) (value : K → X) (xs : List X) (rows : List Row) :
    Type 0 where
  pub kept : List K
  pub spelt : rows ≡ map row kept
  pub table : IsTable rows
  pub same : IsPermutation (map value kept) xs

-- a value with a rowid of its own
abbrev pub filed : {X : Type 0} → (X → Row) → ℤ × X → Row
filed spell p = Int p.0 ∷ spell p.1

abbrev pub value_of : {X : Type 0} → ℤ × X → X
value_of p = p.1

abbrev pub Keeps : {X : Type 0} → (X → Row) → List X → List Row → Type 0
Keeps spell = Holds (filed spell) value_of

-- a value whose number is the rowid
abbrev pub numbered_as : {X : Type 0} → (X → ℕ) → (X → Row) → X → Row
numbered_as id spell x = Int (pos (id x)) ∷ spell x

abbrev pub itself : {X : Type 0} → X → X
itself x = x

abbrev pub Numbers : {X : Type 0} → (X → ℕ) → (X → Row) → List X → List Row → Type 0
Numbers id spell = Holds (numbered_as id spell) itself
