-- Groups at their places: a place among others, a name by its place, and the index of all names.
use Rattle.std.proofs.Common.{◌≡◌, ℕ, zero, suc, ◌+◌, ◌<◌, Bool, true, false, ◌||◌, cond}
use Rattle.std.proofs.Common.{List, [], ◌∷◌, ◌++◌, length, get_or, nat_eq, Option, Some, None}
use Rattle.std.proofs.Common.{Result, Ok, Err, refl, sym, ap, ⊎_elim, arith, ◌∙◌}
use Rattle.std.specs.HashMap.{HashMap, get_by_text}
use Rattle.std.specs.List.Sorted.{IsBinarySearchResult, IsNonDecreasing, IsPermutation}
use Rattle.std.specs.Map.{update}
use Rattle.std.specs.Ordering.{nat_cmp}
use Rattle.std.specs.Option.{option_or}
use Rattle.std.specs.Prelude.{String, is_ok, not}
use Rattle.std.specs.Str.{bytes_eq}
use Rattle.std.proofs.lemmas.Bool.{cases_Bool, cases_lt, eq-eqb, false≢true, or_cases}
use Rattle.std.proofs.lemmas.Bool.Decides.{same_from_decides}
use Rattle.std.proofs.lemmas.Grind.{common_steps}
use Rattle.std.proofs.lemmas.List.Folds.{Any-from_list_any, list_any-append, list_any-from_Any}
use Rattle.std.proofs.lemmas.List.Folds.{list_any_at}
use Rattle.std.proofs.lemmas.List.Sorted.{list_any-IsPermutation, searched}
use Rattle.std.proofs.lemmas.Slice.Eq.{bytes_eq-Decides}
use Rattle.rights_core.specs.Closure.{AreWithin, has_place, name_at, names_at}
use Rattle.rights_core.specs.Closure.{no_group}
use Rattle.rights_core.specs.Index.{IsIndex}
use Rattle.rights_core.specs.RightsFaults.{fault_of, group_names, when}
use Rattle.rights_core.specs.declared.fault.RightsFault.{RightsFault}
use Rattle.rights_core.specs.declared.fault.RightsFault.TheVariants.{BadName, Repeated}
use Rattle.rights_core.specs.declared.parts.Group.{Group}
use Rattle.rights_core.specs.declared.parts.Parts.{Parts}
use Rattle.rights_core.proofs.Lists.{any_mapped}
use Rattle.text_core.specs.Texts.{is_among, repeats_text}
use Rattle.text_core.proofs.Repeats.{repeats_text-append}

equal : (m n : ℕ) → nat_eq m n ≡ true → m ≡ n
equal m n e = grind (arith, common_steps)

-- a place is among those in order just where it is found by halving
pub has_searched : (places : List ℕ) (place : ℕ) (r : Result ℕ ℕ) → IsNonDecreasing places
    → IsBinarySearchResult (λ y. nat_cmp y place) places r
    → is_ok r ≡ has_place places place
has_searched places place (Ok i) rising search =
    let at = searched places place (Ok i) search (λ i j. rising i j 0) in
    sym (list_any_at (nat_eq place) places i 0 at.0 (eq-eqb place (get_or places i 0) (sym at.1)))
has_searched places place (Err i) rising search =
    let at = searched places place (Err i) search (λ i j. rising i j 0) in
    ⊎_elim
    (λ found.
    let k = Any-from_list_any (nat_eq place) places found in
    let here : get_or places k.0 k.1 ≡ place = k.3 ∙ sym (equal place k.1 k.4) in
    let same : get_or places k.0 0 ≡ place = grind (arith, common_steps) in
    ⊎_elim
    (λ before. absurd (omega (arith, at.1 k.0 before, same)))
    (λ after. absurd (omega (arith, at.2 k.0 after k.2, same)))
    (cases_lt k.0 i))
    (λ none. sym none)
    (cases_Bool (has_place places place))

-- a name at one of the places is found in the index, and stands there
place_named : {Y S : Type 0} (groups : List Group) (index : HashMap (String Y) ℕ S)
    → (places : List ℕ) (name : List ℕ)
    → IsIndex groups index
    → AreWithin groups places
    → is_among (names_at groups places) name ≡ true
    → (k : ℕ) × (has_place places k ≡ true) × (get_by_text index name ≡ Some k)
place_named groups index places name sound within among =
    let at = Any-from_list_any (λ q. bytes_eq (name_at groups q) name) places
    (sym (any_mapped (λ t. bytes_eq t name) (name_at groups) places) ∙ among) in
    let has : has_place places at.1 ≡ true =
    list_any-from_Any (nat_eq at.1) places (at.0, at.1, at.2, at.3, eq-eqb at.1 at.1 refl) in
    let named : name_at groups at.1 ≡ name = (bytes_eq-Decides (name_at groups at.1) name).0 at.4 in (
      at.1,
      has,
      ap (get_by_text index) (sym named) ∙ sound.0 at.1 (within at.1 has),
    )

same_place : (m n : ℕ) → Some m ≡ Some n → m ≡ n
same_place m n e = grind (arith, e)

-- so a name that the index has is among the names at the places just where its place is one
pub found_named : {Y S : Type 0} (groups : List Group) (index : HashMap (String Y) ℕ S)
    → (places : List ℕ) (name : List ℕ) (place : ℕ)
    → IsIndex groups index
    → AreWithin groups places
    → get_by_text index name ≡ Some place
    → has_place places place ≡ is_among (names_at groups places) name
found_named groups index places name place sound within found =
    same_from_decides
    {P = is_among (names_at groups places) name ≡ true}
    (has_place places place)
    (is_among (names_at groups places) name)
    (forth, back)
    ((λ among. among), (λ among. among))
  where
    forth : has_place places place ≡ true → is_among (names_at groups places) name ≡ true
    forth has =
        let at = Any-from_list_any (nat_eq place) places has in
        let named : name_at groups at.1 ≡ name =
        ap (name_at groups) (sym (equal place at.1 at.4)) ∙ sound.1 name place found in
        any_mapped (λ t. bytes_eq t name) (name_at groups) places
        ∙ list_any-from_Any (λ q. bytes_eq (name_at groups q) name) places
        (at.0, at.1, at.2, at.3, (bytes_eq-Decides (name_at groups at.1) name).1 named)

    back : is_among (names_at groups places) name ≡ true → has_place places place ≡ true
    back among =
        let at = place_named groups index places name sound within among in
        ap (has_place places) (same_place place at.0 (sym found ∙ at.2)) ∙ at.1

some_none : (n : ℕ) → Some n ≡ None → ⊥
some_none n e = cc

-- and one that it hasn't isn't
pub none_named : {Y S : Type 0} (groups : List Group) (index : HashMap (String Y) ℕ S)
    → (places : List ℕ) (name : List ℕ)
    → IsIndex groups index
    → AreWithin groups places
    → get_by_text index name ≡ None
    → false ≡ is_among (names_at groups places) name
none_named groups index places name sound within found =
    ⊎_elim
    (λ among.
    let at = place_named groups index places name sound within among in
    absurd (some_none at.0 (sym at.2 ∙ found)))
    (λ none. sym none)
    (cases_Bool (is_among (names_at groups places) name))

-- ---- names that don't repeat

left_false : (a b : Bool) → (a || b) ≡ false → a ≡ false
left_false true b e = cc
left_false false b e = refl

right_false : (a b : Bool) → (a || b) ≡ false → b ≡ false
right_false true b e = cc
right_false false b e = e

-- so groups at two places have two names
apart : (groups : List Group) (k i : ℕ) → repeats_text (group_names groups) ≡ false
    → k < i → i < length groups
    → bytes_eq (name_at groups i) (name_at groups k) ≡ false
apart [] k i once less inside = absurd (omega (arith, inside))
apart (g ∷ gs) k zero once less inside = absurd (omega (arith, less))
apart (g ∷ gs) zero (suc i) once less inside =
    ⊎_elim
    (λ same.
    let among : is_among (group_names gs) g.name ≡ true =
    any_mapped (λ t. bytes_eq t g.name) (λ (h : Group). h.name) gs
    ∙ list_any_at (λ h. bytes_eq h.name g.name) gs i no_group (omega (arith, inside)) same in
    absurd (false≢true (sym (left_false _ (repeats_text (group_names gs)) once) ∙ among)))
    (λ other. other)
    (cases_Bool (bytes_eq (name_at gs i) g.name))
apart (g ∷ gs) (suc k) (suc i) once less inside =
    apart gs k i (right_false (is_among (group_names gs) g.name) _ once) (omega (arith, less))
    (omega (arith, inside))

-- what the index of the groups before a place is
pub record IsIndexBefore {Y S : Type 0} (end : ℕ) (groups : List Group)
    (index : HashMap (String Y) ℕ S) : Type 0 where
  pub there : (place : ℕ) → place < end → get_by_text index (name_at groups place) ≡ Some place
  pub named : (name : List ℕ) (place : ℕ) → get_by_text index name ≡ Some place
      → name_at groups place ≡ name

-- one more group
pub group_more : {Y S : Type 0} (groups : List Group) (i : ℕ) (name : List ℕ)
    → (old new : HashMap (String Y) ℕ S)
    → repeats_text (group_names groups) ≡ false
    → i < length groups
    → name ≡ name_at groups i
    → ((q : List ℕ) → get_by_text new q ≡ update bytes_eq (get_by_text old) name (Some i) q)
    → IsIndexBefore i groups old
    → IsIndexBefore (i + 1) groups new
group_more groups i name old new once inside here puts before = record {
  there = λ place less.
      ⊎_elim
      (λ earlier.
      puts (name_at groups place)
      ∙ ap (λ b. cond b (Some i) (get_by_text old (name_at groups place)))
      (ap (λ n. bytes_eq n (name_at groups place)) here ∙ apart groups place i once earlier inside)
      ∙ before.there place earlier)
      (λ last.
      let this : place ≡ i = omega (arith, less, last) in
      puts (name_at groups place)
      ∙ ap (λ b. cond b (Some i) (get_by_text old (name_at groups place)))
      ((bytes_eq-Decides name (name_at groups place)).1 (here ∙ ap (name_at groups) (sym this)))
      ∙ ap Some (sym this))
      (cases_lt place i);
  named = λ text place found.
      ⊎_elim
      (λ same.
      let this : Some i ≡ Some place =
      sym (puts text ∙ ap (λ b. cond b (Some i) (get_by_text old text)) same) ∙ found in
      ap (name_at groups) (sym (same_place i place this)) ∙ sym here
      ∙ (bytes_eq-Decides name text).0 same)
      (λ other.
      before.named text place
      (sym (puts text ∙ ap (λ b. cond b (Some i) (get_by_text old text)) other) ∙ found))
      (cases_Bool (bytes_eq name text));
}

-- people without a fault have groups of different names
pub names_once : (parts : Parts) → fault_of parts ≡ None
    → repeats_text (group_names parts.groups) ≡ false
unfolding fault_of
names_once parts none =
    let neither = second_none _ _ _ none in
    right_false (repeats_text parts.persons) _
    (left_false _ _ (sym (repeats_text-append parts.persons (group_names parts.groups)) ∙ neither))
  where
    second_none : (a b : Bool) (rest : Option RightsFault)
        → option_or (when BadName (not a)) (option_or (when Repeated b) rest) ≡ None
        → b ≡ false
    second_none true true rest e = cc
    second_none true false rest e = refl
    second_none false b rest e = cc

-- ---- places that are found

pub within_more : (groups : List Group) (found : List ℕ) (place : ℕ) → place < length groups
    → AreWithin groups found → AreWithin groups (found ++ place ∷ [])
within_more groups found place inside before k has =
    ⊎_elim
    (λ earlier. before k earlier)
    (λ last. ⊎_elim
    (λ this. let same = equal k place this in omega (arith, same, inside))
    (λ no. absurd (false≢true no))
    (or_cases (nat_eq k place) false last))
    (or_cases (has_place found k) (nat_eq k place || false)
    (sym (list_any-append (nat_eq k) found (place ∷ [])) ∙ has))

pub none_within : (groups : List Group) (found : List ℕ) → found ≡ [] → AreWithin groups found
none_within groups [] none k has = absurd (false≢true has)
none_within groups (place ∷ places) none k has = absurd (cc)

-- in another order they are the same groups
pub same_names : (groups : List Group) (found sorted : List ℕ) (name : List ℕ)
    → IsPermutation found sorted
    → is_among (names_at groups sorted) name ≡ is_among (names_at groups found) name
same_names groups found sorted name moved =
    any_mapped (λ t. bytes_eq t name) (name_at groups) sorted
    ∙ sym (list_any-IsPermutation (λ q. bytes_eq (name_at groups q) name) found sorted moved)
    ∙ sym (any_mapped (λ t. bytes_eq t name) (name_at groups) found)

pub same_within : (groups : List Group) (found sorted : List ℕ) → IsPermutation found sorted
    → AreWithin groups found → AreWithin groups sorted
same_within groups found sorted moved within k has =
    within k (list_any-IsPermutation (nat_eq k) found sorted moved ∙ has)
