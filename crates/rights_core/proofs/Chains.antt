-- The bounded search for a chain of groups: what it finds is a chain, and it finds one where there
-- is any.
use Rattle.std.proofs.Common.{◌≡◌, ℕ, zero, suc, ◌<◌, Bool, true, ◌&&◌, ◌⊎◌, List, [], ◌∷◌, length}
use Rattle.std.proofs.Common.{inl, inr, ⊎_elim, subst, sym, arith}
use Rattle.std.specs.List.{list_any, Any, count_by}
use Rattle.std.specs.Str.{bytes_eq}
use Rattle.std.proofs.lemmas.Bool.{and_from, and_parts, or_cases, or_left, or_right}
use Rattle.std.proofs.lemmas.List.Folds.{Any-from_list_any, list_any-from_Any}
use Rattle.std.proofs.lemmas.List.Sums.{count_by-le-length}
use Rattle.std.proofs.lemmas.Slice.Eq.{bytes_eq-Decides}
use Rattle.rights_core.specs.declared.parts.Group.{Group}
use Rattle.rights_core.specs.People.{is_among, lists, leads_within, leads, IsChain}
use Rattle.rights_core.proofs.Lists.{any_weaker, same_or_more}

-- the group lists a group from which at most n more lead to the person
abbrev goes_on : ℕ → List Group → List ℕ → List ℕ → Group → Bool
goes_on n groups person group next =
    lists groups group next.name && leads_within n groups person next.name

direct : (n : ℕ) (groups : List Group) (person group : List ℕ)
    → lists groups group person ≡ true
    → leads_within (suc n) groups person group ≡ true
unfolding leads_within
direct n groups person group listed =
    or_left _ (list_any (goes_on n groups person group) groups) listed

further : (n : ℕ) (groups : List Group) (person group : List ℕ)
    → list_any (goes_on n groups person group) groups ≡ true
    → leads_within (suc n) groups person group ≡ true
unfolding leads_within
further n groups person group found = or_right (lists groups group person) _ found

both_ways : (n : ℕ) (groups : List Group) (person group : List ℕ)
    → leads_within (suc n) groups person group ≡ true
    → (lists groups group person ≡ true) ⊎ (list_any (goes_on n groups person group) groups ≡ true)
unfolding leads_within
both_ways n groups person group found =
    or_cases (lists groups group person) (list_any (goes_on n groups person group) groups) found

none_within_zero : (groups : List Group) (person group : List ℕ)
    → leads_within zero groups person group ≡ true → ⊥
unfolding leads_within
none_within_zero groups person group found = cc

-- from the one bound to the other, where the rest of a chain may go so too
onward : (m n : ℕ) (groups : List Group) (person : List ℕ)
    → ((next : List ℕ) → leads_within m groups person next ≡ true
    → leads_within n groups person next ≡ true)
    → (group : List ℕ)
    → leads_within (suc m) groups person group ≡ true
    → leads_within (suc n) groups person group ≡ true
onward m n groups person rest group found =
    ⊎_elim
    (λ listed. direct n groups person group listed)
    (λ request. further
    n
    groups
    person
    group
    (any_weaker
    (goes_on m groups person group)
    (goes_on n groups person group)
    groups
    (λ next passes.
    let parts =
    and_parts (lists groups group next.name) (leads_within m groups person next.name) passes in
    and_from (lists groups group next.name) (leads_within n groups person next.name) parts.0
    (rest next.name parts.1))
    request))
    (both_ways m groups person group found)

longer : (n : ℕ) (groups : List Group) (person group : List ℕ)
    → leads_within n groups person group ≡ true
    → leads_within (suc n) groups person group ≡ true
longer zero groups person group found = absurd (none_within_zero groups person group found)
longer (suc n) groups person group found =
    onward n (suc n) groups person (λ next. longer n groups person next) group found

-- one group more finds no other chain
abbrev IsSettled : ℕ → List Group → List ℕ → Type 0
IsSettled n groups person =
    (group : List ℕ) → leads_within (suc n) groups person group ≡ true
    → leads_within n groups person group ≡ true

-- a group that lists something is one of the groups
pub lister : (groups : List Group) (group name : List ℕ)
    → lists groups group name ≡ true
    → Any (λ g. (g.name ≡ group) × (is_among g.members name ≡ true)) groups
lister groups group name listed =
    let at =
    Any-from_list_any (λ g. bytes_eq g.name group && is_among g.members name) groups listed in
    let parts = and_parts (bytes_eq at.1.name group) (is_among at.1.members name) at.4 in
    (at.0, at.1, at.2, at.3, ((bytes_eq-Decides at.1.name group).0 parts.0, parts.1))

leader : (n : ℕ) (groups : List Group) (person group : List ℕ)
    → leads_within (suc n) groups person group ≡ true
    → Any (λ g. g.name ≡ group) groups
leader n groups person group found =
    ⊎_elim
    (λ listed. let at = lister groups group person listed in (at.0, at.1, at.2, at.3, at.4.0))
    (λ request.
    let next = Any-from_list_any (goes_on n groups person group) groups request in
    let parts =
    and_parts (lists groups group next.1.name) (leads_within n groups person next.1.name) next.4 in
    let at = lister groups group next.1.name parts.0 in
    (at.0, at.1, at.2, at.3, at.4.0))
    (both_ways n groups person group found)

abbrev count_within : ℕ → List Group → List ℕ → ℕ
count_within n groups person = count_by (λ g. leads_within n groups person g.name) groups

settled_or_more : (n : ℕ) (groups : List Group) (person : List ℕ)
    → IsSettled n groups person
    ⊎ (count_within n groups person < count_within (suc n) groups person)
settled_or_more n groups person =
    ⊎_elim
    (λ same. inl (λ group found.
    let at = leader n groups person group found in
    let P : Group → Type 0 =
    λ g. leads_within (suc n) groups person g.name ≡ true → leads_within n groups person g.name
    ≡ true in
    let here : P at.1 = subst P at.3 (same at.0 at.1 at.2) in
    let Q : List ℕ → Type 0 =
    λ name. leads_within (suc n) groups person name ≡ true → leads_within n groups person name
    ≡ true in
    subst Q at.4 here found))
    (λ more. inr more)
    (same_or_more
    (λ g. leads_within n groups person g.name)
    (λ g. leads_within (suc n) groups person g.name)
    groups
    (λ g. longer n groups person g.name))

-- each bound is settled, or lets more groups lead to the person than it has
settled_or_many : (n : ℕ) (groups : List Group) (person : List ℕ)
    → IsSettled n groups person ⊎ (n < count_within (suc n) groups person)
settled_or_many zero groups person =
    ⊎_elim inl (λ more. inr (omega arith)) (settled_or_more zero groups person)
settled_or_many (suc n) groups person =
    ⊎_elim
    (λ settled. inl (λ group found. onward (suc n) n groups person settled group found))
    (λ many. ⊎_elim inl (λ more. inr (omega arith)) (settled_or_more (suc n) groups person))
    (settled_or_many n groups person)

settled : (groups : List Group) (person : List ℕ) → IsSettled (length groups) groups person
settled groups person =
    ⊎_elim
    (λ settled. settled)
    (λ many. absurd
    (omega (
      arith,
      count_by-le-length
          (λ g. leads_within (suc (length groups)) groups person g.name) groups,
    )))
    (settled_or_many (length groups) groups person)

-- a group that lists the person leads to the person
pub leads_direct : (groups : List Group) (person group : List ℕ)
    → lists groups group person ≡ true
    → leads groups person group ≡ true
leads_direct groups person group listed =
    settled groups person group (direct (length groups) groups person group listed)

-- so does a group that lists one which does
pub leads_further : (groups : List Group) (person group next : List ℕ)
    → lists groups group next ≡ true
    → leads groups person next ≡ true
    → leads groups person group ≡ true
leads_further groups person group next listed found =
    let at =
    leader (length groups) groups person next (longer (length groups) groups person next found) in
    let P : List ℕ → Type 0 =
    λ name. (lists groups group name && leads_within (length groups) groups person name) ≡ true in
    let passes : P at.1.name =
    subst P (sym at.4)
    (and_from (lists groups group next)
    (leads_within (length groups) groups person next) listed found) in
    settled
    groups
    person
    group
    (further
    (length groups)
    groups
    person
    group
    (list_any-from_Any (goes_on (length groups) groups person group) groups
    (at.0, at.1, at.2, at.3, passes)))

-- and no other group: a test that these pass is passed by each group that leads to the person
pub leads_least : (n : ℕ) (groups : List Group) (person : List ℕ) (test : List ℕ → Bool)
    → ((group : List ℕ) → lists groups group person ≡ true → test group ≡ true)
    → ((group next : List ℕ) → lists groups group next ≡ true → test next ≡ true → test group
    ≡ true)
    → (group : List ℕ)
    → leads_within n groups person group ≡ true
    → test group ≡ true
leads_least zero groups person test first then group found =
    absurd (none_within_zero groups person group found)
leads_least (suc n) groups person test first then group found =
    ⊎_elim
    (λ listed. first group listed)
    (λ request.
    let next = Any-from_list_any (goes_on n groups person group) groups request in
    let parts =
    and_parts (lists groups group next.1.name) (leads_within n groups person next.1.name) next.4 in
    then group next.1.name parts.0
    (leads_least n groups person test first then next.1.name parts.1))
    (both_ways n groups person group found)

-- a chain is found
pub leads_along : (groups : List Group) (person : List ℕ) (others : List (List ℕ)) (group : List ℕ)
    → IsChain groups group others person
    → leads groups person group ≡ true
leads_along groups person [] group chain = leads_direct groups person group chain
leads_along groups person (next ∷ others) group chain =
    leads_further groups person group next chain.0 (leads_along groups person others next chain.1)

-- what is found is a chain
pub chain_within : (n : ℕ) (groups : List Group) (person group : List ℕ)
    → leads_within n groups person group ≡ true
    → (others : List (List ℕ)) × IsChain groups group others person
chain_within zero groups person group found = absurd (none_within_zero groups person group found)
chain_within (suc n) groups person group found =
    ⊎_elim
    (λ listed. ([], listed))
    (λ request.
    let next = Any-from_list_any (goes_on n groups person group) groups request in
    let parts =
    and_parts (lists groups group next.1.name) (leads_within n groups person next.1.name) next.4 in
    let rest = chain_within n groups person next.1.name parts.1 in
    (next.1.name ∷ rest.0, (parts.0, rest.1)))
    (both_ways n groups person group found)
