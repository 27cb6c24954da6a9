-- Which groups list a name, and what marking them finds.
use Rattle.std.specs.Prelude.{◌≡◌, ℕ, ◌+◌, ◌<◌, Bool, false, not, List, [], ◌++◌}
use Rattle.std.specs.Prelude.{count_by, length, map, nat_eq, String, Vec, IsTrue}
use Rattle.std.specs.HashMap.{HashMap, get_by_text}
use Rattle.std.specs.List.{list_any, slice_index_or}
use Rattle.std.specs.Option.{option_map_or}
use Rattle.rights_core.specs.declared.parts.Group.{Group}
use Rattle.rights_core.specs.People.{is_among}

abbrev pub no_group : Group
no_group = record { name = []; members = [] }

-- the name of the group at the place
abbrev pub name_at : List Group → ℕ → List ℕ
name_at groups place = (slice_index_or groups place no_group).name

-- the names of the groups at the places
abbrev pub names_at : List Group → List ℕ → List (List ℕ)
names_at groups places = map (name_at groups) places

-- the group at the place lists the name
abbrev pub lists_at : List Group → ℕ → List ℕ → Bool
lists_at groups place name = is_among (slice_index_or groups place no_group).members name

-- the place is one of these
abbrev pub has_place : List ℕ → ℕ → Bool
has_place places place = list_any (nat_eq place) places

-- there is a group at each of the places
abbrev pub AreWithin : List Group → List ℕ → Type 0
AreWithin groups places = (k : ℕ) → IsTrue (has_place places k) → k < length groups

-- what is kept under the name
abbrev pub places_under : {Y Z S : Type 0} → HashMap (String Y) (Vec ℕ Z) S → List ℕ → List ℕ
places_under kept name = option_map_or (λ v. v.items) (get_by_text kept name) []

-- under each name there are the places of the groups that list it
abbrev pub IsListers : {Y Z S : Type 0} → List Group → HashMap (String Y) (Vec ℕ Z) S → Type 0
IsListers groups kept =
    (name : List ℕ) (place : ℕ)
    → has_place (places_under kept name) place ≡ lists_at groups place name

-- which of the marks are of this turn
abbrev pub marked_in : ℕ → List ℕ → List Bool
marked_in turn marks = map (nat_eq turn) marks

-- all marks are of earlier turns
abbrev pub AreBefore : ℕ → List ℕ → Type 0
AreBefore turn marks = (place : ℕ) → slice_index_or marks place 0 < turn

-- the place is there, and marked
abbrev pub is_marked : List Bool → ℕ → Bool
is_marked marks place = slice_index_or marks place false

abbrev pub unmarked_count : List Bool → ℕ
unmarked_count marks = count_by not marks

-- what is marked passes the test
abbrev pub AllMarkedPass : List Bool → (ℕ → Bool) → Type 0
AllMarkedPass marks test = (k : ℕ) → IsTrue (is_marked marks k) → IsTrue (test k)

-- the names of what is marked have been found
abbrev pub AreFound : List Group → List (List ℕ) → List Bool → Type 0
AreFound groups found marks = AllMarkedPass marks (λ k. is_among found (name_at groups k))

-- of the places, those that weren't marked are marked, and their names stand behind those found
abbrev pub Marks : List Group
    → List ℕ
    → List (List ℕ)
    → List Bool
    → List (List ℕ)
    → List Bool
    → Type 0
Marks groups places found marks found' marks' =
    (length marks' ≡ length marks)
    × (unmarked_count marks' + length found' ≡ unmarked_count marks + length found)
    × ((more : List (List ℕ)) × (found' ≡ found ++ more))
    × AllMarkedPass marks (is_marked marks')
    × ((k : ℕ) → k < length marks → IsTrue (has_place places k) → IsTrue (is_marked marks' k))
    × (AreFound groups found marks → AreFound groups found' marks')
    × ((test : List ℕ → Bool)
    → ((name : List ℕ) → IsTrue (is_among found name) → IsTrue (test name))
    → ((k : ℕ) → IsTrue (has_place places k) → IsTrue (test (name_at groups k)))
    → (name : List ℕ)
    → IsTrue (is_among found' name)
    → IsTrue (test name))
