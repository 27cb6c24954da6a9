-- What people keep beside their parts, so that they answer by look-up.
use Rattle.std.specs.Prelude.{◌≡◌, ℕ, ◌<◌, Bool, true, false, ◌&&◌, List, [], ◌∷◌, filter}
use Rattle.std.specs.Prelude.{Option, Some, is_some, length, String, Vec}
use Rattle.std.specs.HashMap as hash
use Rattle.std.specs.HashMap.{HashMap}
use Rattle.std.specs.List.{list_any}
use Rattle.std.specs.List.Sorted.{IsNonDecreasing}
use Rattle.std.specs.Option.{option_map_or}
use Rattle.std.specs.Str.{bytes_eq}
use Rattle.std.specs.BTreeMap.{BTreeMap, get_by_text}
use Rattle.rights_core.specs.Closure.{AreWithin, name_at, names_at}
use Rattle.rights_core.specs.declared.grant.Grant.{Grant}
use Rattle.rights_core.specs.declared.grant.Subject.{Subject}
use Rattle.rights_core.specs.declared.grant.Subject.TheVariants as subject
use Rattle.rights_core.specs.declared.parts.Group.{Group}
use Rattle.rights_core.specs.declared.role.Roles.{Roles}
use Rattle.rights_core.specs.People.{covers, has_role, is_among, leads}

-- each group is found under its name, and no other text is
abbrev pub IsIndex : {Y S : Type 0} → List Group → HashMap (String Y) ℕ S → Type 0
IsIndex groups index =
    ((place : ℕ) → place < length groups
    → hash.get_by_text index (name_at groups place) ≡ Some place)
    × ((name : List ℕ) (place : ℕ) → hash.get_by_text index name ≡ Some place
    → name_at groups place ≡ name)

-- the places that were found, if any were
abbrev pub places_in : {Z : Type 0} → Option (Vec ℕ Z) → List ℕ
places_in found = option_map_or (λ v. v.items) found []

-- what was found for the text are the places, in order, of the groups from which a chain leads to
-- it, where it is a person, and nothing else
abbrev pub IsFoundFor : {Z : Type 0} → List (List ℕ) → List Group → List ℕ → Option (Vec ℕ Z) → Type 0
IsFoundFor persons groups person found =
    (is_some found ≡ is_among persons person)
    × ((group : List ℕ)
    → is_among (names_at groups (places_in found)) group
    ≡ (is_among persons person && leads groups person group))
    × AreWithin groups (places_in found)
    × IsNonDecreasing (places_in found)

-- each person, and no other text, has the groups from which a chain leads to the person
abbrev pub IsMemberships : {Y Z : Type 0}
    → List (List ℕ)
    → List Group
    → BTreeMap (String Y) (Vec ℕ Z)
    → Type 0
IsMemberships persons groups kept =
    (person : List ℕ) → IsFoundFor persons groups person (get_by_text kept person)

-- the name of the person or of the group that the subject is, and else no bytes
abbrev pub subject_name : Subject → List ℕ
subject_name subject.Everyone = []
subject_name (subject.Person name) = name
subject_name (subject.Group name) = name
subject_name (subject.Role _) = []

-- the grants that are kept under the name
abbrev pub grants_to : {Y Z S : Type 0} → HashMap (String Y) (Vec Grant Z) S → List ℕ → List Grant
grants_to kept name = option_map_or (λ v. v.items) (hash.get_by_text kept name) []

-- the grants that are kept under the right and the name
abbrev pub grants_under : {Y Z S T : Type 0}
    → HashMap (String Y) (HashMap (String Y) (Vec Grant Z) S) T
    → List ℕ
    → List ℕ
    → List Grant
grants_under kept right name =
    option_map_or (λ m. grants_to m name) (hash.get_by_text kept right) []

-- the grant is of the right, and for the person or the group of that name
abbrev pub is_of : List ℕ → List ℕ → Grant → Bool
is_of right name grant = bytes_eq right grant.right && bytes_eq name (subject_name grant.subject)

-- under each right and each name there are the grants of it
abbrev pub IsGrantsByRight : {Y Z S T : Type 0}
    → List Grant
    → HashMap (String Y) (HashMap (String Y) (Vec Grant Z) S) T
    → Type 0
IsGrantsByRight grants kept =
    (right name : List ℕ) → grants_under kept right name ≡ filter (is_of right name) grants

-- the person, who is a member of these groups and has these roles, is meant by the subject
abbrev pub is_meant_in : List (List ℕ) → List ℕ → Roles → Subject → Bool
is_meant_in groups person roles subject.Everyone = true
is_meant_in groups person roles (subject.Person name) = bytes_eq name person
is_meant_in groups person roles (subject.Group name) = is_among groups name
is_meant_in groups person roles (subject.Role role) = has_role roles role

-- the grant covers the queue and means that person
abbrev pub meets : List ℕ → List ℕ → List (List ℕ) → Roles → Grant → Bool
meets queue person groups roles grant =
    covers grant queue && is_meant_in groups person roles grant.subject

-- one of the grants that are kept under no name, the person's or a group's meets the person
abbrev pub meets_to : {Y Z S : Type 0}
    → HashMap (String Y) (Vec Grant Z) S
    → List ℕ
    → List ℕ
    → List (List ℕ)
    → Roles
    → Bool
meets_to kept queue person groups roles =
    list_any
    (λ name. list_any (meets queue person groups roles) (grants_to kept name))
    ([] ∷ person ∷ groups)

-- the same of what is kept under the right
abbrev pub meets_under : {Y Z S T : Type 0}
    → HashMap (String Y) (HashMap (String Y) (Vec Grant Z) S) T
    → List ℕ
    → List ℕ
    → List ℕ
    → List (List ℕ)
    → Roles
    → Bool
meets_under kept right queue person groups roles =
    option_map_or (λ m. meets_to m queue person groups roles) (hash.get_by_text kept right) false
