-- What holds of every element of a list.
use Rattle.std.proofs.Common.{◌≡◌, ◌∙◌, Bool, true, false, ◌&&◌, cond, List}
use Rattle.std.proofs.Common.{[], ◌∷◌, map, filter, find, Some, refl, subst}
use Rattle.std.proofs.lemmas.Bool.{and_from, and_parts}
use Rattle.std.proofs.lemmas.List.Folds.{list_all-map}
use Rattle.std.specs.List.{list_all}
use Rattle.desk_model.specs.Desk.{placed}

-- where one test follows from the other
pub every_so : {X : Type 0} (test so : X → Bool) (xs : List X)
    → ((x : X) → test x ≡ true → so x ≡ true)
    → list_all test xs ≡ true → list_all so xs ≡ true
every_so test so [] follows all = refl
every_so test so (x ∷ xs) follows all =
    let parts = and_parts (test x) (list_all test xs) all in
    and_from (so x) (list_all so xs) (follows x parts.0) (every_so test so xs follows parts.1)

pub every_mapped : {X : Type 0} (test so : X → Bool) (f : X → X) (xs : List X)
    → ((x : X) → test x ≡ true → so (f x) ≡ true)
    → list_all test xs ≡ true → list_all so (map f xs) ≡ true
every_mapped test so f xs follows all =
    list_all-map so f xs ∙ every_so test (λ x. so (f x)) xs follows all

pub every_both : {X : Type 0} (one two : X → Bool) (xs : List X) → list_all one xs ≡ true
    → list_all two xs ≡ true
    → list_all (λ x. one x && two x) xs ≡ true
every_both one two [] first second = refl
every_both one two (x ∷ xs) first second =
    let a = and_parts (one x) (list_all one xs) first in
    let b = and_parts (two x) (list_all two xs) second in
    and_from (one x && two x) (list_all (λ y. one y && two y) xs) (and_from (one x) (two x) a.0 b.0)
    (every_both one two xs a.1 b.1)

pub every_placed : {X : Type 0} (test : X → Bool) (lower : X → X → Bool) (xs : List X) (x : X)
    → test x ≡ true
    → list_all test xs ≡ true → list_all test (placed lower xs x) ≡ true
every_placed test lower [] x one all = and_from (test x) true one refl
every_placed test lower (y ∷ ys) x one all =
    let parts = and_parts (test y) (list_all test ys) all in
    elim (lower x y) as (λ b. list_all test (cond b (x ∷ y ∷ ys) (y ∷ placed lower ys x)) ≡ true) [
      | true ↦ and_from (test x) (list_all test (y ∷ ys)) one all
      | false ↦ and_from (test y) (list_all test (placed lower ys x)) parts.0
          (every_placed test lower ys x one parts.1)
    ]

pub every_filtered : {X : Type 0} (test keep : X → Bool) (xs : List X) → list_all test xs ≡ true
    → list_all test (filter keep xs) ≡ true
every_filtered test keep [] all = refl
every_filtered test keep (x ∷ xs) all =
    let parts = and_parts (test x) (list_all test xs) all in
    let rest = every_filtered test keep xs parts.1 in
    elim (keep x) as (λ b. list_all test (cond b (x ∷ filter keep xs) (filter keep xs)) ≡ true) [
      | true ↦ and_from (test x) (list_all test (filter keep xs)) parts.0 rest
      | false ↦ rest
    ]

-- what holds of every one holds of the one that is found
pub every_found : {X : Type 0} (test look : X → Bool) (xs : List X) (x : X)
    → list_all test xs ≡ true → find look xs ≡ Some x
    → test x ≡ true
every_found test look [] x all there = cc
every_found {X} test look (y ∷ ys) x all there =
    let parts = and_parts (test y) (list_all test ys) all in
    elim (look y) as (λ b. cond b (Some y) (find look ys) ≡ Some x → test x ≡ true) [
      | true ↦ λ one. let is : y ≡ x = cc in subst (λ (z : X). test z ≡ true) is parts.0
      | false ↦ λ further. every_found test look ys x parts.1 further
    ] there
