-- The rows of requests with their due moments, without them, and where one is set.
use Rattle.std.proofs.Common.{arith, ◌≡◌, ◌++◌, Bool, List, ◌∷◌, inl, inr, refl, subst, true, fold}
use Rattle.std.proofs.Common.{IsPermutation, false, filter, Option, if◌then◌else◌, map-id}
use Rattle.std.proofs.Common.{[], ap, map, not, sym, ◌∙◌, ℕ}
use Rattle.std.proofs.lemmas.Bool.{not-true}
use Rattle.std.proofs.lemmas.List.Sorted.{IsPermutation-filter_both, IsPermutation-map}
use Rattle.std.proofs.lemmas.List.Sorted.{IsPermutation-sym}
use Rattle.sqlite_rules.specs.Lists.{Has}
use Rattle.sqlite_rules.proofs.ListLemmas.{has_filtered, has_kept}
use Rattle.sqlite_rules.proofs.ProbeLemmas.{has_mapped}
use Rattle.sqlite_trees.proofs.ListLemmas.{map-map}
use Rattle.desk_model.specs.Desk.{Desk}
use Rattle.desk_model.specs.declared.rows.RequestRow.{RequestRow}
use Rattle.store_tables.specs.Contents.{contents_of, request_rows, requests, set_each_due}
use Rattle.store_tables.specs.Contents.Request.{dated_by, due_but, dues_but, is_numbered, row_of}

-- ---- of a desk with due moments

-- without them its rows are left
pub rows_dated : (due : RequestRow → Option ℕ) (desk : Desk)
    → requests (contents_of due desk) ≡ request_rows desk
rows_dated due desk = map-map row_of (dated_by due) (request_rows desk) ∙ map-id (request_rows desk)

-- those that are set are of the due moments
pub dues_on_desk : (dues : List (ℕ × Option ℕ)) (due : RequestRow → Option ℕ) (desk : Desk)
    → fold set_each_due (contents_of due desk) dues ≡ contents_of (dues_but dues due) desk
dues_on_desk [] due desk = refl
dues_on_desk (p ∷ ps) due desk =
    ap (λ ds. fold set_each_due (record (contents_of due desk) { dated = ds }) ps)
    (map-map (λ q. (q.0, if is_numbered p.0 q.0 then p.1 else q.1)) (dated_by due)
    (request_rows desk)) ∙ dues_on_desk ps (due_but p.0 p.1 due) desk

-- each element is so
abbrev pub AreEach : {X : Type 0} → (X → Type 0) → List X → Type 0
AreEach {X} P xs = (x : X) → Has xs x → P x

map_same : {X : Type 0} (f : X → X) (xs : List X) → AreEach (λ x. f x ≡ x) xs → map f xs ≡ xs
map_same f [] each = refl
map_same f (x ∷ xs) each = rw (each x (inl refl), map_same f xs (λ y has. each y (inr has)))

-- where what a test doesn't pass stays as it is
module _ {X : Type 0} (f : X → X) (p : X → Bool) (stays : (x : X) → p x ≡ false → f x ≡ x) where
  -- where none passes, all stay
  pub none_moved : (xs : List X) → filter p xs ≡ [] → map f xs ≡ xs
  none_moved xs none = map_same f xs (λ x has.
      let in_none = λ (here : p x ≡ true). subst (λ l. Has l x) none (has_kept p xs x has here) in
      stays x (grind (arith, in_none)))

  -- where one passes, that one gives way
  pub one_moved : (xs : List X) (x : X) → filter p xs ≡ x ∷ []
      → IsPermutation (f x ∷ filter (λ y. not (p y)) xs) (map f xs)
  one_moved xs x one =
      let others = filter (λ y. not (p y)) xs in
      let parts = IsPermutation-filter_both p (λ y. not (p y)) (λ y. refl) xs in
      let whole = subst (λ l. IsPermutation xs (l ++ others)) one parts in
      IsPermutation-sym _ _ (subst (IsPermutation (map f xs)) (ap (λ l. f x ∷ l) (map_same f others
      (λ y has. stays y (not-true (p y) (has_filtered (λ z. not (p z)) xs y has).1))))
      (IsPermutation-map f _ _ whole))

-- what passes is the one that does
pub passes_one : {X : Type 0} (p : X → Bool) (xs : List X) (x : X) → filter p xs ≡ x ∷ []
    → p x ≡ true
passes_one p xs x one = (has_filtered p xs x (subst (λ l. Has l x) (sym one) (inl refl))).1

-- what is so of each is so of what becomes of it
pub each_moved : {X : Type 0} (f : X → X) (P : X → Type 0) → ((x : X) → P x → P (f x))
    → (xs : List X) → AreEach P xs → AreEach P (map f xs)
each_moved f P goes xs each x has =
    let q = has_mapped f xs x has in subst P (sym q.2) (goes q.0 (each q.0 q.1))
