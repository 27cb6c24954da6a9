-- What marking one more place does.
use Rattle.std.proofs.Common.{◌≡◌, ℕ, ◌+◌, ◌<◌, Bool, true, false, not, cond, ◌||◌, List, []}
use Rattle.std.proofs.Common.{◌∷◌, suc, replicate}
use Rattle.std.proofs.Common.{◌++◌, length, get_or, take, nat_eq, ⊎_elim, refl, sym, ap, subst}
use Rattle.std.proofs.Common.{arith}
use Rattle.std.proofs.Common.{get_or-set_same, get_or-set_other, IsTrue, ◌⊎◌, inl, inr, append-nil}
use Rattle.std.proofs.Common.{append_assoc, ◌∙◌}
use Rattle.std.proofs.Math.ListN.{set}
use Rattle.std.proofs.lemmas.Bool.{cases_eq, false≢true, ne_eqb, or_cases, or_left, or_right}
use Rattle.std.proofs.lemmas.Grind.{common_steps}
use Rattle.std.proofs.lemmas.List.Folds.{list_any-append, list_any_more}
use Rattle.std.proofs.lemmas.List.Sums.{sum_by-set}
use Rattle.std.proofs.lemmas.Slice.Eq.{bytes_eq-Decides}
use Rattle.std.specs.List.{sum_by}
use Rattle.std.specs.Str.{bytes_eq}
use Rattle.rights_core.specs.declared.parts.Group.{Group}
use Rattle.rights_core.specs.Closure.{is_marked, unmarked_count, has_place, name_at}
use Rattle.rights_core.specs.Closure.{AllMarkedPass, AreBefore, Marks, marked_in}
use Rattle.text_core.specs.Texts.{is_among}

marked_kept : (marks : List Bool) (i : ℕ)
    → i < length marks
    → AllMarkedPass marks (is_marked (set marks i true))
marked_kept marks i inside k marked =
    ⊎_elim
    (λ same.
    let e : get_or (set marks i true) i false ≡ true = get_or-set_same marks i true false inside in
    rw same e)
    (λ other. rw (get_or-set_other marks i k true false other) marked)
    (cases_eq k i)

one_fewer : (marks : List Bool) (i : ℕ)
    → i < length marks
    → get_or marks i false ≡ false
    → unmarked_count (set marks i true) + 1 ≡ unmarked_count marks
one_fewer marks i inside unmarked =
    let weight : Bool → ℕ = λ b. cond (not b) 1 0 in
    let moved : sum_by weight (set marks i true) + weight (get_or marks i false)
    ≡ sum_by weight marks + 0 =
    sum_by-set weight marks i true false inside in
    let one : weight (get_or marks i false) ≡ 1 = rw unmarked refl in
    let fewer : sum_by weight (set marks i true) + 1 ≡ sum_by weight marks = omega arith in
    fewer

-- a place is among one more if it is among them or is that one
more_places : (places : List ℕ) (i place k : ℕ)
    → i < length places
    → place ≡ get_or places i 0
    → has_place (take (i + 1) places) k ≡ (has_place (take i places) k || nat_eq k place)
more_places places i place k inside here =
    list_any_more (nat_eq k) places i 0 inside
    ∙ ap (λ p. has_place (take i places) k || nat_eq k p) (sym here)

equal : (m n : ℕ) → nat_eq m n ≡ true → m ≡ n
equal m n e = grind (arith, common_steps)

same : (n : ℕ) → nat_eq n n ≡ true
same n = grind (arith, common_steps)

-- what holds at the places so far and at one more holds at all
at_more : (P : ℕ → Type 0) (places : List ℕ) (i place : ℕ)
    → i < length places
    → place ≡ get_or places i 0
    → ((k : ℕ) → IsTrue (has_place (take i places) k) → P k)
    → P place
    → (k : ℕ)
    → IsTrue (has_place (take (i + 1) places) k)
    → P k
at_more P places i place inside here before now k found =
    ⊎_elim
    (λ old. before k old)
    (λ one. subst P (sym (equal k place one)) now)
    (or_cases
    (has_place (take i places) k)
    (nat_eq k place)
    (sym (more_places places i place k inside here) ∙ found))

so_far : (places : List ℕ) (i place k : ℕ)
    → i < length places
    → place ≡ get_or places i 0
    → IsTrue (has_place (take i places) k)
    → IsTrue (has_place (take (i + 1) places) k)
so_far places i place k inside here found =
    more_places places i place k inside here
    ∙ or_left (has_place (take i places) k) (nat_eq k place) found

this_one : (places : List ℕ) (i place : ℕ)
    → i < length places
    → place ≡ get_or places i 0
    → IsTrue (has_place (take (i + 1) places) place)
this_one places i place inside here =
    more_places places i place place inside here
    ∙ or_right (has_place (take i places) place) (nat_eq place place) (same place)

pub none_marked : (groups : List Group) (found : List (List ℕ)) (marks : List Bool)
    → Marks groups [] found marks found marks
none_marked groups found marks = (
  refl,
  refl,
  ([], sym (append-nil found)),
  (λ k marked. marked),
  (λ k inside none. absurd (false≢true none)),
  (λ are. are),
  (λ test old new name among. old name among),
)

-- a place that isn't there, or is marked already
pub mark_none : (groups : List Group) (places : List ℕ) (found : List (List ℕ)) (marks : List Bool)
    → (found' : List (List ℕ)) (marks' : List Bool) (i : ℕ)
    → i < length places
    → (get_or places i 0 < length marks' → IsTrue (is_marked marks' (get_or places i 0)))
    → Marks groups (take i places) found marks found' marks'
    → Marks groups (take (i + 1) places) found marks found' marks'
mark_none groups places found marks found' marks' i inside already m =
    let place = get_or places i 0 in (
      m.0,
      m.1,
      m.2,
      m.3,
      (λ k within among.
          at_more
          (λ p. p < length marks → IsTrue (is_marked marks' p))
          places
          i
          place
          inside
          refl
          (λ p earlier less. m.4 p less earlier)
          (λ less. already (rw m.0 less))
          k
          among
          within),
      m.5,
      (λ test old new name among.
          m.6 test old
          (λ k earlier. new k (so_far places i place k inside refl earlier)) name among),
    )

-- a place that wasn't marked
pub mark_one : (groups : List Group) (places : List ℕ) (found : List (List ℕ)) (marks : List Bool)
    → (found' : List (List ℕ)) (marks' : List Bool) (i : ℕ)
    → i < length places
    → get_or places i 0 < length marks'
    → get_or marks' (get_or places i 0) false ≡ false
    → Marks groups (take i places) found marks found' marks'
    → Marks
    groups
    (take (i + 1) places)
    found
    marks
    (found' ++ name_at groups (get_or places i 0) ∷ [])
    (set marks' (get_or places i 0) true)
mark_one groups places found marks found' marks' i inside within unmarked m =
    let place = get_or places i 0 in
    let name = name_at groups place in
    let kept : AllMarkedPass marks' (is_marked (set marks' place true)) =
    marked_kept marks' place within in
    let size : length (set marks' place true) ≡ length marks' = grind (arith, common_steps) in
    let longer : length (found' ++ name ∷ []) ≡ length found' + 1 = grind (arith, common_steps) in (
      size ∙ m.0,
      omega (arith, longer, one_fewer marks' place within unmarked, m.1),
      (m.2.0 ++ name ∷ [], ap (λ f. f ++ name ∷ []) m.2.1 ∙ append_assoc found m.2.0 (name ∷ [])),
      (λ k marked. kept k (m.3 k marked)),
      (λ k less among.
          at_more
          (λ p. p < length marks → IsTrue (is_marked (set marks' place true) p))
          places
          i
          place
          inside
          refl
          (λ p earlier fits. kept p (m.4 p fits earlier))
          (λ fits. get_or-set_same marks' place true false within)
          k
          among
          less),
      (λ are k marked.
          ⊎_elim
          (λ one. last_found found' name (name_at groups k) (ap (name_at groups) (sym one)))
          (λ other.
          earlier_found
          found'
          name
          (name_at groups k)
          (m.5 are k (rw (← get_or-set_other marks' place k true false other) marked)))
          (cases_eq k place)),
      (λ test old new text among.
          ⊎_elim
          (λ earlier. m.6 test old
          (λ k so. new k (so_far places i place k inside refl so)) text earlier)
          (λ last.
          let P : List ℕ → Type 0 = λ t. IsTrue (test t) in
          subst
          P
          ((bytes_eq-Decides name text).0 last)
          (new place (this_one places i place inside refl)))
          (found_cases found' name text among)),
    )
  where
    with_last : (names : List (List ℕ)) (name text : List ℕ)
        → is_among (names ++ name ∷ []) text
        ≡ (is_among names text || (bytes_eq name text || false))
    with_last names name text = list_any-append (λ t. bytes_eq t text) names (name ∷ [])

    last_found : (names : List (List ℕ)) (name text : List ℕ)
        → name ≡ text
        → IsTrue (is_among (names ++ name ∷ []) text)
    last_found names name text e =
        with_last names name text
        ∙ or_right
        (is_among names text)
        (bytes_eq name text || false)
        (or_left (bytes_eq name text) false ((bytes_eq-Decides name text).1 e))

    earlier_found : (names : List (List ℕ)) (name text : List ℕ)
        → IsTrue (is_among names text)
        → IsTrue (is_among (names ++ name ∷ []) text)
    earlier_found names name text e =
        with_last names name text ∙ or_left (is_among names text) (bytes_eq name text || false) e

    found_cases : (names : List (List ℕ)) (name text : List ℕ)
        → IsTrue (is_among (names ++ name ∷ []) text)
        → (is_among names text ≡ true) ⊎ (bytes_eq name text ≡ true)
    found_cases names name text e =
        ⊎_elim
        inl
        (λ last. ⊎_elim inr (λ no. absurd (false≢true no))
        (or_cases (bytes_eq name text) false last))
        (or_cases (is_among names text) (bytes_eq name text || false)
        (sym (with_last names name text) ∙ e))

-- ---- marks that tell the turn

-- those of earlier turns aren't of this one
pub none_in : (turn : ℕ) (marks : List ℕ) → AreBefore turn marks
    → marked_in turn marks ≡ replicate (length marks) false
none_in turn [] before = refl
none_in turn (m ∷ marks) before =
    let less : m < turn = before 0 in
    let other : nat_eq turn m ≡ false = ne_eqb turn m (λ e. omega (arith, less, e)) in
    rw (other, none_in turn marks (λ k. before (suc k))) refl

-- none is of a later one, with one more of this
pub before_more : (turn : ℕ) (marks : List ℕ) (i : ℕ)
    → i < length marks
    → AreBefore (turn + 1) marks
    → AreBefore (turn + 1) (set marks i turn)
before_more turn marks i inside before k =
    ⊎_elim
    (λ here.
    omega (
      arith,
      ap (λ j. get_or (set marks i turn) j 0) here,
      get_or-set_same marks i turn 0 inside,
    ))
    (λ other. rw (get_or-set_other marks i k turn 0 other) (before k))
    (cases_eq k i)
