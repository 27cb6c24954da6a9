-- What people keep, and the words that it answers.
use Rattle.std.proofs.Common.{◌≡◌, ℕ, ◌+◌, ◌<◌, Bool, true, false, cond, ◌&&◌, ◌||◌, List, [], ◌∷◌}
use Rattle.std.proofs.Common.{length, get_or, take, filter, Option, Some, None, refl, sym, ap, subst}
use Rattle.std.proofs.Common.{append-nil, ◌∙◌, ⊎_elim}
use Rattle.std.specs.Prelude.{String, Vec, is_some, ◌↔◌, IsTrue, if◌then◌else◌, ◌++◌}
use Rattle.std.specs.BTreeMap.{BTreeMap, get_by_text}
use Rattle.std.specs.Cmp.Lexicographic.{nat_list_eq_equiv}
use Rattle.std.specs.HashMap as hash
use Rattle.std.specs.HashMap.{HashMap}
use Rattle.std.specs.Option.{option_map_or}
use Rattle.std.specs.List.{list_any}
use Rattle.std.specs.List.Sorted.{IsNonDecreasing}
use Rattle.std.specs.Map.{update}
use Rattle.std.specs.Str.{bytes_eq}
use Rattle.std.proofs.lemmas.Bool.{and_from, and_parts, cases_Bool, or_left, or_right}
use Rattle.std.proofs.lemmas.List.Elements.{filter_more}
use Rattle.std.proofs.lemmas.List.Folds.{list_any_more}
use Rattle.std.proofs.lemmas.Slice.Eq.{bytes_eq-Decides}
use Rattle.rights_core.specs.declared.grant.Grant.{Grant}
use Rattle.rights_core.specs.declared.grant.Subject.{Subject}
use Rattle.rights_core.specs.declared.grant.Subject.TheVariants as subject
use Rattle.rights_core.specs.declared.parts.Group.{Group}
use Rattle.rights_core.specs.declared.parts.Parts.{Parts}
use Rattle.rights_core.specs.declared.role.Roles.{Roles}
use Rattle.rights_core.specs.Index.{IsMemberships, IsGrantsByRight, grants_to, grants_under}
use Rattle.rights_core.specs.Closure.{AreWithin, names_at}
use Rattle.rights_core.specs.Index.{is_meant_in, places_in}
use Rattle.rights_core.specs.Index.{is_of, meets, meets_under, subject_name}
use Rattle.rights_core.specs.People.{is_among, knows, leads, is_member, IsChain, holds, gives}
use Rattle.rights_core.specs.People.{covers, is_meant}
use Rattle.rights_core.specs.Right.{super_user}
use Rattle.rights_core.proofs.Chains.{leads_along, chain_within}
use Rattle.rights_core.proofs.Lists.{any_by_name, any_filtered, any_never, any_same}

-- one more person, with the groups that lead there
pub one_more_person : {Y Z : Type 0} (persons : List (List ℕ)) (groups : List Group) (i : ℕ)
    → (person : List ℕ) (places : Vec ℕ Z)
    → (old new : BTreeMap (String Y) (Vec ℕ Z))
    → i < length persons
    → person ≡ get_or persons i []
    → ((group : List ℕ) → is_among (names_at groups places.items) group ≡ leads groups person group)
    → AreWithin groups places.items
    → IsNonDecreasing places.items
    → ((q : List ℕ) → get_by_text new q ≡ update bytes_eq (get_by_text old) person (Some places) q)
    → IsMemberships (take i persons) groups old
    → IsMemberships (take (i + 1) persons) groups new
one_more_person {Y} {Z} persons groups i person places old new inside here leading within rising updates before q =
    let more : is_among (take (i + 1) persons) q
    ≡ (is_among (take i persons) q || bytes_eq person q) =
    list_any_more (λ t. bytes_eq t q) persons i [] inside
    ∙ ap (λ p. is_among (take i persons) q || bytes_eq p q) (sym here) in
    ⊎_elim
    (λ same.
    let now : get_by_text new q ≡ Some places =
    updates q ∙ ap (λ b. cond b (Some places) (get_by_text old q)) same in
    let known : is_among (take (i + 1) persons) q ≡ true =
    more ∙ ap (λ b. is_among (take i persons) q || b) same
    ∙ or_true (is_among (take i persons) q) in (
      ap is_some now ∙ sym known,
      λ group.
          ap (λ o. is_among (names_at groups (places_in o)) group) now
          ∙ leading group
          ∙ ap (λ p. leads groups p group) ((bytes_eq-Decides person q).0 same)
          ∙ sym (ap (λ b. b && leads groups q group) known),
      subst (λ (o : Option (Vec ℕ Z)). AreWithin groups (places_in o)) (sym now) within,
      subst (λ (o : Option (Vec ℕ Z)). IsNonDecreasing (places_in o)) (sym now) rising,
    ))
    (λ other.
    let now : get_by_text new q ≡ get_by_text old q =
    updates q ∙ ap (λ b. cond b (Some places) (get_by_text old q)) other in
    let known : is_among (take (i + 1) persons) q ≡ is_among (take i persons) q =
    more ∙ ap (λ b. is_among (take i persons) q || b) other
    ∙ or_false (is_among (take i persons) q) in (
      ap is_some now ∙ (before q).0 ∙ sym known,
      λ group.
          ap (λ o. is_among (names_at groups (places_in o)) group) now
          ∙ (before q).1 group
          ∙ sym (ap (λ b. b && leads groups q group) known),
      subst (λ (o : Option (Vec ℕ Z)). AreWithin groups (places_in o)) (sym now) (before q).2,
      subst (λ (o : Option (Vec ℕ Z)). IsNonDecreasing (places_in o)) (sym now) (before q).3,
    ))
    (cases_Bool (bytes_eq person q))
  where
    or_true : (b : Bool) → (b || true) ≡ true
    or_true true = refl
    or_true false = refl

    or_false : (b : Bool) → (b || false) ≡ b
    or_false true = refl
    or_false false = refl

-- the places that are kept for a person are those of the groups that it is a member of
pub member_kept : {Y Z : Type 0} (people : Parts) (kept : BTreeMap (String Y) (Vec ℕ Z))
    → IsMemberships people.persons people.groups kept
    → (person : List ℕ) (places : Vec ℕ Z)
    → get_by_text kept person ≡ Some places
    → (group : List ℕ)
    → is_among (names_at people.groups places.items) group ≡ is_member people person group
unfolding is_member
member_kept people kept sound person places found group =
    sym (ap (λ o. is_among (names_at people.groups (places_in o)) group) found)
    ∙ (sound person).1 group

pub within_kept : {Y Z : Type 0} (people : Parts) (kept : BTreeMap (String Y) (Vec ℕ Z))
    → IsMemberships people.persons people.groups kept
    → (person : List ℕ) (places : Vec ℕ Z)
    → get_by_text kept person ≡ Some places
    → AreWithin people.groups places.items × IsNonDecreasing places.items
within_kept {Y} {Z} people kept sound person places found = (
  subst (λ (o : Option (Vec ℕ Z)). AreWithin people.groups (places_in o)) found (sound person).2,
  subst (λ (o : Option (Vec ℕ Z)). IsNonDecreasing (places_in o)) found (sound person).3,
)

pub known_kept : {Y Z : Type 0} (people : Parts) (kept : BTreeMap (String Y) (Vec ℕ Z))
    → IsMemberships people.persons people.groups kept
    → (person : List ℕ) (o : Option (Vec ℕ Z))
    → get_by_text kept person ≡ o
    → is_some o ≡ knows people person
known_kept people kept sound person o found = sym (ap is_some found) ∙ (sound person).0

-- whom the people don't know is no member
pub no_member : (people : Parts) (person group : List ℕ) → false ≡ knows people person
    → false ≡ is_member people person group
unfolding is_member
no_member people person group unknown = ap (λ b. b && leads people.groups person group) unknown

-- a member is known, and a chain of groups leads there
pub member_chain : (people : Parts) (person group : List ℕ)
    → IsTrue (is_member people person group)
    ↔ (IsTrue (knows people person)
    × ((others : List (List ℕ)) × IsChain people.groups group others person))
unfolding is_member
member_chain people person group = (
  (λ member.
      let parts = and_parts (knows people person) (leads people.groups person group) member in
      (parts.0, chain_within (length people.groups) people.groups person group parts.1)),
  (λ chain. and_from
      (knows people person)
      (leads people.groups person group)
      chain.0
      (leads_along people.groups person chain.1.0 group chain.1.1)),
)

-- the people of those parts, in the words of a look-up that found nobody
pub nobody_kept : {Y Z : Type 0} (people : Parts) (kept : BTreeMap (String Y) (Vec ℕ Z))
    → IsMemberships people.persons people.groups kept
    → (person : List ℕ)
    → get_by_text kept person ≡ None
    → false ≡ knows people person
nobody_kept people kept sound person found = known_kept people kept sound person None found

-- the same test of either list
any_either : {X : Type 0} (p q : X → Bool) (xs : List X)
    → (list_any p xs || list_any q xs) ≡ list_any (λ x. p x || q x) xs
any_either p q [] = refl
any_either p q (x ∷ xs) =
    rw (← any_either p q xs) (swapped (p x) (list_any p xs) (q x) (list_any q xs))
  where
    swapped : (a b c d : Bool) → ((a || b) || (c || d)) ≡ ((a || c) || (b || d))
    swapped true b c d = refl
    swapped false true true d = refl
    swapped false true false d = refl
    swapped false false c d = refl

meant_kept : (people : Parts) (person : List ℕ) (names : List (List ℕ)) (roles : Roles)
    → ((group : List ℕ) → is_among names group ≡ is_member people person group)
    → (s : Subject)
    → is_meant_in names person roles s ≡ is_meant people person roles s
meant_kept people person names roles same subject.Everyone = refl
meant_kept people person names roles same (subject.Person name) = refl
meant_kept people person names roles same (subject.Group name) = same name
meant_kept people person names roles same (subject.Role role) = refl

-- one more grant
pub grant_more : (old new : List ℕ → List ℕ → List Grant) (grants : List Grant) (i : ℕ)
    → (grant : Grant)
    → i < length grants
    → grant ≡ get_or grants i grant
    → ((r n : List ℕ) → new r n ≡ (if is_of r n grant then old r n ++ grant ∷ [] else old r n))
    → ((r n : List ℕ) → old r n ≡ filter (is_of r n) (take i grants))
    → (r n : List ℕ)
    → new r n ≡ filter (is_of r n) (take (i + 1) grants)
grant_more old new grants i grant inside here puts before r n =
    puts r n
    ∙ ap (λ gs. if is_of r n grant then gs ++ grant ∷ [] else gs) (before r n)
    ∙ one (is_of r n grant) (filter (is_of r n) (take i grants))
    ∙ ap (λ g. filter (is_of r n) (take i grants) ++ cond (is_of r n g) (g ∷ []) []) here
    ∙ sym (filter_more (is_of r n) grants i grant inside)
  where
    one : (b : Bool) (gs : List Grant)
        → (if b then gs ++ grant ∷ [] else gs) ≡ gs ++ cond b (grant ∷ []) []
    one true gs = refl
    one false gs = sym (append-nil gs)

-- whom a grant means stands under no name, the person's or a group's
named_among : (person : List ℕ) (names : List (List ℕ)) (roles : Roles) (s : Subject)
    → is_meant_in names person roles s ≡ true
    → is_among ([] ∷ person ∷ names) (subject_name s) ≡ true
named_among person names roles subject.Everyone meant = refl
named_among person names roles (subject.Person name) meant =
    or_right
    (bytes_eq [] name)
    (bytes_eq person name || is_among names name)
    (or_left (bytes_eq person name) (is_among names name)
    (nat_list_eq_equiv.symm person name ∙ meant))
named_among person names roles (subject.Group name) meant =
    or_right
    (bytes_eq [] name)
    (bytes_eq person name || is_among names name)
    (or_right (bytes_eq person name) (is_among names name) meant)
named_among person names roles (subject.Role role) meant = refl

-- what is kept for a right, if anything is
any_kept : {Y Z S : Type 0} (p : Grant → Bool) (names : List (List ℕ))
    → (o : Option (HashMap (String Y) (Vec Grant Z) S))
    → option_map_or (λ m. list_any (λ name. list_any p (grants_to m name)) names) o false
    ≡ list_any (λ name. list_any p (option_map_or (λ m. grants_to m name) o [])) names
any_kept p names (Some m) = refl
any_kept p names None = sym (any_never names)

-- so what is kept under these is all there is of the right
under_right : {Y Z S T : Type 0} (grants : List Grant)
    → (kept : HashMap (String Y) (HashMap (String Y) (Vec Grant Z) S) T)
    → IsGrantsByRight grants kept
    → (right queue person : List ℕ) (names : List (List ℕ)) (roles : Roles)
    → meets_under kept right queue person names roles
    ≡ list_any (λ g. bytes_eq right g.right && meets queue person names roles g) grants
under_right grants kept sound right queue person names roles =
    any_kept meet keys (hash.get_by_text kept right)
    ∙ any_same
    (λ name. list_any meet (grants_under kept right name))
    (λ name. list_any (λ g. bytes_eq right g.right && meet g)
    (filter (λ g. bytes_eq name (subject_name g.subject)) grants))
    (λ name.
    ap (list_any meet) (sound right name)
    ∙ any_filtered (is_of right name) meet grants
    ∙ any_same
    (λ g. is_of right name g && meet g)
    (λ g. bytes_eq name (subject_name g.subject) && (bytes_eq right g.right && meet g))
    (λ g. moved (bytes_eq right g.right) (bytes_eq name (subject_name g.subject)) (meet g))
    grants
    ∙ sym
    (any_filtered
    (λ g. bytes_eq name (subject_name g.subject))
    (λ g. bytes_eq right g.right && meet g)
    grants))
    keys
    ∙ any_by_name
    (λ g. bytes_eq right g.right && meet g)
    (λ g. subject_name g.subject)
    keys
    grants
    (λ g passes.
    let parts = and_parts (bytes_eq right g.right) (meet g) passes in
    let meant = and_parts (covers g queue) (is_meant_in names person roles g.subject) parts.1 in
    named_among person names roles g.subject meant.1)
  where
    meet : Grant → Bool
    meet = meets queue person names roles

    keys : List (List ℕ)
    keys = [] ∷ person ∷ names

    moved : (a b c : Bool) → ((a && b) && c) ≡ (b && (a && c))
    moved true true c = refl
    moved true false c = refl
    moved false true c = refl
    moved false false c = refl

-- what the grants under the right and those under a super user's give a person whom the people know
pub granted_kept : {Y Z S T : Type 0} (people : Parts)
    → (kept : HashMap (String Y) (HashMap (String Y) (Vec Grant Z) S) T)
    → IsGrantsByRight people.grants kept
    → (person right queue : List ℕ) (roles : Roles) (names : List (List ℕ))
    → true ≡ knows people person
    → ((group : List ℕ) → is_among names group ≡ is_member people person group)
    → (meets_under kept right queue person names roles
    || meets_under kept super_user queue person names roles)
    ≡ holds people person right queue roles
unfolding holds
granted_kept people kept sound person right queue roles names known same =
    let meet : Grant → Bool = meets queue person names roles in
    ap
    (λ b. b || meets_under kept super_user queue person names roles)
    (under_right people.grants kept sound right queue person names roles)
    ∙ ap
    (λ b. list_any (λ g. bytes_eq right g.right && meet g) people.grants || b)
    (under_right people.grants kept sound super_user queue person names roles)
    ∙ any_either
    (λ g. bytes_eq right g.right && meet g)
    (λ g. bytes_eq super_user g.right && meet g)
    people.grants
    ∙ any_same
    (λ g. (bytes_eq right g.right && meet g) || (bytes_eq super_user g.right && meet g))
    (λ g. gives g right && covers g queue && is_meant people person roles g.subject)
    (λ g. rw
    (meant_kept people person names roles same g.subject)
    (shared (bytes_eq right g.right) (bytes_eq super_user g.right) (covers g queue)
    (is_meant people person roles g.subject)))
    people.grants
    ∙ ap
    (λ b. b && list_any
    (λ g. gives g right && covers g queue && is_meant people person roles g.subject) people.grants)
    known
  where
    shared : (a b c d : Bool) → ((a && (c && d)) || (b && (c && d))) ≡ (((a || b) && c) && d)
    shared true b true true = refl
    shared true true true false = refl
    shared true false true false = refl
    shared true true false d = refl
    shared true false false d = refl
    shared false true true d = refl
    shared false true false d = refl
    shared false false c d = refl

pub unknown_holds_nothing : (people : Parts) (person right queue : List ℕ) (roles : Roles)
    → false ≡ knows people person
    → false ≡ holds people person right queue roles
unfolding holds
unknown_holds_nothing people person right queue roles unknown =
    ap
    (λ b. b && list_any
    (λ g. gives g right && covers g queue && is_meant people person roles g.subject) people.grants)
    unknown
