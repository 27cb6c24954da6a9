-- Pairs of statuses, kept under their first.
use Rattle.std.specs.Prelude.{◌≡◌, ℕ, Bool, false, ◌&&◌, List, String}
use Rattle.std.specs.HashMap.{HashMap, get_by_text}
use Rattle.std.specs.HashSet.{HashSet, contains_text}
use Rattle.std.specs.List.{list_any}
use Rattle.std.specs.Option.{option_map_or}
use Rattle.std.specs.Str.{bytes_eq}
use Rattle.lifecycle_core.specs.declared.parts.MoveRight.{MoveRight}

-- the second status is kept under the first
abbrev pub has_pair : {Y S T : Type 0}
    → HashMap (String Y) (HashSet (String Y) S) T
    → List ℕ
    → List ℕ
    → Bool
has_pair pairs from to = option_map_or (λ s. contains_text s to) (get_by_text pairs from) false

-- just the pairs of the entries are kept
abbrev pub ArePairsOf : {Y S T : Type 0}
    → List MoveRight
    → HashMap (String Y) (HashSet (String Y) S) T
    → Type 0
ArePairsOf rights pairs =
    (from to : List ℕ)
    → has_pair pairs from to ≡ list_any (λ e. bytes_eq e.from from && bytes_eq e.to to) rights
