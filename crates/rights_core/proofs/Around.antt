-- The groups around a person, found by way of those that list what was found.
use Rattle.std.proofs.Common.{◌≡◌, ℕ, ◌+◌, ◌<◌, ◌≤◌, Bool, true, false, ◌&&◌, List, [], length}
use Rattle.std.proofs.Common.{replicate, get_or, refl, sym, ap, subst, ⊎_elim, arith}
use Rattle.std.proofs.Common.{IsTrue, ◌∙◌}
use Rattle.std.specs.HashMap.{HashMap}
use Rattle.std.specs.Prelude.{String, Vec}
use Rattle.std.specs.Str.{bytes_eq}
use Rattle.std.proofs.lemmas.Bool.{and_from, cases_lt, false≢true}
use Rattle.std.proofs.lemmas.Bool.Decides.{same_from_decides}
use Rattle.std.proofs.lemmas.Grind.{common_steps}
use Rattle.std.proofs.lemmas.List.{get_or_default, get_or_past, length-replicate}
use Rattle.std.proofs.lemmas.List.Folds.{Any-from_list_any, list_any_at}
use Rattle.std.proofs.lemmas.Slice.Eq.{bytes_eq-Decides}
use Rattle.rights_core.specs.declared.parts.Group.{Group}
use Rattle.rights_core.specs.Closure.{name_at, lists_at, no_group, places_under}
use Rattle.rights_core.specs.Closure.{AreFound, IsListers, Marks, is_marked}
use Rattle.rights_core.specs.People.{is_among, lists, leads}
use Rattle.rights_core.proofs.Chains.{leads_direct, leads_further, leads_least, lister}

same_text : (text : List ℕ) → bytes_eq text text ≡ true
same_text text = (bytes_eq-Decides text text).1 refl

-- only a group lists a name
listed_within : (groups : List Group) (place : ℕ) (name : List ℕ)
    → IsTrue (lists_at groups place name)
    → place < length groups
listed_within groups place name listed =
    ⊎_elim
    (λ inside. inside)
    (λ past.
    let none : lists_at groups place name ≡ false =
    rw (get_or_past groups place no_group past) refl in
    absurd (false≢true (sym none ∙ listed)))
    (cases_lt place (length groups))

-- the group at a place lists what stands in its list
lists_there : (groups : List Group) (place : ℕ) (name : List ℕ)
    → IsTrue (lists_at groups place name)
    → lists groups (name_at groups place) name ≡ true
lists_there groups place name listed =
    list_any_at
    (λ g. bytes_eq g.name (name_at groups place) && is_among g.members name)
    groups
    place
    no_group
    (listed_within groups place name listed)
    (and_from _ (lists_at groups place name) (same_text (name_at groups place)) listed)

-- a group that lists a name has a place
place_of : (groups : List Group) (group name : List ℕ)
    → lists groups group name ≡ true
    → (place : ℕ) × (name_at groups place ≡ group) × IsTrue (lists_at groups place name)
place_of groups group name listed =
    let at = lister groups group name listed in
    let there : get_or groups at.0 no_group ≡ at.1 =
    get_or_default groups at.0 no_group at.1 at.2 ∙ at.3 in
    let P : Group → Type 0 = λ g. IsTrue (is_among g.members name) in
    (at.0, ap (λ (g : Group). g.name) there ∙ at.4.0, subst P (sym there) at.4.1)

-- what has been found once the groups that list the person, and those that list the first of what
-- was found, have been marked
abbrev pub IsSearch : List Group → List ℕ → ℕ → List (List ℕ) → List Bool → Type 0
IsSearch groups person next found marks =
    (length marks ≡ length groups)
    × (next ≤ length found)
    × ((place : ℕ) → IsTrue (lists_at groups place person) → IsTrue (is_marked marks place))
    × AreFound groups found marks
    × ((k : ℕ) → k < next → (place : ℕ) → IsTrue (lists_at groups place (get_or found k []))
    → IsTrue (is_marked marks place))
    × ((group : List ℕ) → IsTrue (is_among found group) → IsTrue (leads groups person group))

-- the groups that list the person have been marked
pub search_start : {Y Z S : Type 0} (groups : List Group) (kept : HashMap (String Y) (Vec ℕ Z) S)
    → (person : List ℕ) (none found : List (List ℕ)) (unmarked marks : List Bool)
    → IsListers groups kept
    → none ≡ []
    → unmarked ≡ replicate (length groups) false
    → Marks groups (places_under kept person) none unmarked found marks
    → IsSearch groups person 0 found marks
search_start groups kept person none found unmarked marks listers empty clear m =
    let size : length unmarked ≡ length groups =
    ap length clear ∙ length-replicate (length groups) false in (
      m.0 ∙ size,
      omega arith,
      (λ place listed.
          m.4
          place
          (rw size (listed_within groups place person listed))
          (listers person place ∙ listed)),
      m.5 (λ k marked. absurd (false≢true (sym (not_yet k) ∙ marked))),
      (λ k less. absurd (omega (arith, less))),
      m.6
          (leads groups person)
          (λ name is. absurd (false≢true (sym (nothing name) ∙ is)))
          (λ k has.
          leads_direct
          groups
          person
          (name_at groups k)
          (lists_there groups k person (sym (listers person k) ∙ has))),
    )
  where
    fresh : (k : ℕ) → is_marked (replicate (length groups) false) k ≡ false
    fresh k = grind (arith, common_steps)

    not_yet : (k : ℕ) → is_marked unmarked k ≡ false
    not_yet k = ap (λ bs. is_marked bs k) clear ∙ fresh k

    nothing : (name : List ℕ) → is_among none name ≡ false
    nothing name = ap (λ names. is_among names name) empty

-- so have those that list one more of what was found
pub search_more : {Y Z S : Type 0} (groups : List Group) (kept : HashMap (String Y) (Vec ℕ Z) S)
    → (person : List ℕ)
    → (next : ℕ) (found found' : List (List ℕ)) (marks marks' : List Bool)
    → IsListers groups kept
    → IsSearch groups person next found marks
    → next < length found
    → Marks groups (places_under kept (get_or found next [])) found marks found' marks'
    → IsSearch groups person (next + 1) found' marks'
search_more groups kept person next found found' marks marks' listers s inside m =
    let here = get_or found next [] in
    let longer : length found' ≡ length found + length m.2.0 =
    rw m.2.1 (grind (arith, common_steps)) in
    let stays : (k : ℕ) → k < length found → get_or found' k [] ≡ get_or found k [] =
    λ k less. rw m.2.1 (grind (arith, common_steps)) in (
      m.0 ∙ s.0,
      omega (arith, longer, inside),
      (λ place listed. m.3 place (s.2 place listed)),
      m.5 s.3,
      (λ k less place listed.
          ⊎_elim
          (λ before.
          m.3
          place
          (s.4 k before place (rw (← stays k (omega (arith, before, inside))) listed)))
          (λ now.
          let this : k ≡ next = omega arith in
          let listed' : IsTrue (lists_at groups place here) =
          ap (lists_at groups place) (sym (ap (λ j. get_or found' j []) this ∙ stays next inside))
          ∙ listed in
          m.4
          place
          (rw s.0 (listed_within groups place here listed'))
          (listers here place ∙ listed'))
          (cases_lt k next)),
      m.6
          (leads groups person)
          s.5
          (λ k has.
          leads_further
          groups
          person
          (name_at groups k)
          here
          (lists_there groups k here (sym (listers here k) ∙ has))
          (s.5 here (list_any_at (λ t. bytes_eq t here) found next [] inside (same_text here)))),
    )

-- all have
pub search_done : (groups : List Group) (person : List ℕ) (found : List (List ℕ))
    → (marks : List Bool)
    → IsSearch groups person (length found) found marks
    → (group : List ℕ)
    → is_among found group ≡ leads groups person group
search_done groups person found marks s group =
    same_from_decides
    {P = leads groups person group ≡ true}
    (is_among found group)
    (leads groups person group) (
      (λ is. s.5 group is),
      (λ leading.
          leads_least
          (length groups)
          groups
          person
          (is_among found)
          (λ outer listed.
          let at = place_of groups outer person listed in
          found_at at.0 outer at.1 (s.2 at.0 at.2))
          (λ outer next listed is. from_list outer next listed is)
          group
          leading),
    )
    ((λ leading. leading), (λ leading. leading))
  where
    found_at : (place : ℕ) (outer : List ℕ)
        → name_at groups place ≡ outer
        → IsTrue (is_marked marks place)
        → is_among found outer ≡ true
    found_at place outer named marked =
        let P : List ℕ → Type 0 = λ t. is_among found t ≡ true in
        subst P named (s.3 place marked)

    from_list : (outer next : List ℕ)
        → lists groups outer next ≡ true
        → is_among found next ≡ true
        → is_among found outer ≡ true
    from_list outer next listed is =
        let at = place_of groups outer next listed in
        let place = Any-from_list_any (λ t. bytes_eq t next) found is in
        let there : get_or found place.0 [] ≡ next =
        get_or_default found place.0 [] place.1 place.2
        ∙ place.3
        ∙ (bytes_eq-Decides place.1 next).0 place.4 in
        found_at at.0 outer at.1
        (s.4 place.0 place.2 at.0 (ap (lists_at groups at.0) there ∙ at.2))
