-- What holds of each request after a change, where it held before.
use Rattle.std.proofs.Common.{◌≡◌, ◌∙◌, ℕ, ◌+◌, ◌<◌, ◌≤◌, ◌==◌, true, false, cond}
use Rattle.std.proofs.Common.{List, [], ◌∷◌, ◌++◌, map, find, length, Option, Some, None, refl}
use Rattle.std.proofs.Common.{inl, inr, ap, sym, subst, arith}
use Rattle.std.specs.List.{All}
use Rattle.std.proofs.lemmas.Bool.{and_parts, eq-eqb, eqb-false, eqb-true}
use Rattle.std.proofs.lemmas.Bool.Decides.{eqb_tells}
use Rattle.std.proofs.lemmas.List.{map-append}
use Rattle.std.proofs.lemmas.List.Elements.{All-nil, All-cons, All-head, All-tail}
use Rattle.desk_model.specs.Change.{applied, filed, request_filed}
use Rattle.desk_model.specs.Desk.{Desk, Request, request_at}
use Rattle.desk_model.specs.IsDesk.{IsDesk, are_numbered}
use Rattle.desk_model.specs.declared.change.Change.{Change}
use Rattle.desk_model.specs.declared.rows.RequestRow.{RequestRow}
use Rattle.desk_core.proofs.Changed.{OnlyOf, changed, requests_after, spared}

pub each_mapped : {X : Type 0} (P Q : X → Type 0) (f : X → X) (xs : List X)
    → ((x : X) → P x → Q (f x)) → All P xs → All Q (map f xs)
each_mapped P Q f [] follows all = All-nil Q
each_mapped P Q f (x ∷ xs) follows all =
    All-cons Q (f x) (map f xs) (follows x (All-head P x xs all))
    (each_mapped P Q f xs follows (All-tail P x xs all))

pub each_so : {X : Type 0} (P Q : X → Type 0) (xs : List X)
    → ((x : X) → P x → Q x) → All P xs → All Q xs
each_so P Q [] follows all = All-nil Q
each_so P Q (x ∷ xs) follows all =
    All-cons Q x xs (follows x (All-head P x xs all))
    (each_so P Q xs follows (All-tail P x xs all))

pub each_both : {X : Type 0} (P Q : X → Type 0) (xs : List X) → All P xs → All Q xs
    → All (λ x. P x × Q x) xs
each_both P Q [] one two = All-nil (λ x. P x × Q x)
each_both P Q (x ∷ xs) one two =
    All-cons (λ x. P x × Q x) x xs (All-head P x xs one, All-head Q x xs two)
    (each_both P Q xs (All-tail P x xs one) (All-tail Q x xs two))

pub each_more : {X : Type 0} (P : X → Type 0) (xs : List X) (x : X) → All P xs → P x
    → All P (xs ++ x ∷ [])
each_more P [] x all one = All-cons P x [] one (All-nil P)
each_more P (y ∷ ys) x all one =
    All-cons P y (ys ++ x ∷ []) (All-head P y ys all)
    (each_more P ys x (All-tail P y ys all) one)

-- the numbers of numbered requests lie between the first and the number after the last
pub numbers_lie : (low high n : ℕ) (xs : List Request) → low ≤ n → n + length xs ≤ high
    → are_numbered n (map (λ r. r.row.id) xs) ≡ true
    → All (λ r. (low ≤ r.row.id) × (r.row.id < high)) xs
numbers_lie low high n [] from to numbered =
    All-nil (λ r. (low ≤ r.row.id) × (r.row.id < high))
numbers_lie low high n (y ∷ ys) from to numbered =
    let parts = and_parts (y.row.id == n)
    (are_numbered (n + 1) (map (λ r. r.row.id) ys)) numbered in
    let number : y.row.id ≡ n = eqb-true y.row.id n parts.0 in
    All-cons (λ r. (low ≤ r.row.id) × (r.row.id < high)) y ys (omega arith, omega arith)
    (numbers_lie low high (n + 1) ys (omega arith) (omega arith) parts.1)

-- the request that is found is the only one of its number
lone : (id n : ℕ) (xs : List Request) (r : Request)
    → are_numbered n (map (λ x. x.row.id) xs) ≡ true
    → find (λ x. x.row.id == id) xs ≡ Some r → All (λ x. x.row.id ≡ id → x ≡ r) xs
lone id n [] r numbered there = All-nil (λ x. x.row.id ≡ id → x ≡ r)
lone id n (y ∷ ys) r numbered there =
    let parts = and_parts (y.row.id == n)
    (are_numbered (n + 1) (map (λ x. x.row.id) ys)) numbered in
    let number : y.row.id ≡ n = eqb-true y.row.id n parts.0 in
    elim (y.row.id == id)
    as (λ b. (y.row.id == id) ≡ b → cond b (Some y) (find (λ x. x.row.id == id) ys) ≡ Some r
    → All (λ x. x.row.id ≡ id → x ≡ r) (y ∷ ys)) [
      | true ↦ λ same one.
          let is : y ≡ r = cc in
          let its : y.row.id ≡ id = eqb-true y.row.id id same in
          All-cons (λ x. x.row.id ≡ id → x ≡ r) y ys (λ e. is)
          (each_so (λ x. (n + 1 ≤ x.row.id) × (x.row.id < n + 1 + length ys))
          (λ x. x.row.id ≡ id → x ≡ r) ys
          (λ x lies e. absurd (omega (arith, lies.0, e)))
          (numbers_lie (n + 1) (n + 1 + length ys) (n + 1) ys (omega arith) (omega arith) parts.1))
      | false ↦ λ other further.
          All-cons (λ x. x.row.id ≡ id → x ≡ r) y ys
          (λ e. absurd (eqb-false y.row.id id other e))
          (lone id (n + 1) ys r parts.1 further)
    ] refl there

-- each of requests that are numbered is the one that is found at its number
pub found_each : (n : ℕ) (xs : List Request)
    → are_numbered n (map (λ x. x.row.id) xs) ≡ true
    → All (λ r. find (λ x. x.row.id == r.row.id) xs ≡ Some r) xs
found_each n [] numbered = All-nil (λ r. find (λ x. x.row.id == r.row.id) [] ≡ Some r)
found_each n (y ∷ ys) numbered =
    let parts = and_parts (y.row.id == n)
    (are_numbered (n + 1) (map (λ x. x.row.id) ys)) numbered in
    let number : y.row.id ≡ n = eqb-true y.row.id n parts.0 in
    All-cons (λ r. find (λ x. x.row.id == r.row.id) (y ∷ ys) ≡ Some r) y ys
    (rw (eq-eqb y.row.id y.row.id refl) refl)
    (each_so (λ r. ((n + 1 ≤ r.row.id) × (r.row.id < n + 1 + length ys))
    × (find (λ x. x.row.id == r.row.id) ys ≡ Some r))
    (λ r. find (λ x. x.row.id == r.row.id) (y ∷ ys) ≡ Some r) ys
    (λ r h. elim (eqb_tells y.row.id r.row.id) [
      | inl same ↦ absurd (omega (arith, same.1, h.0.0, number))
      | inr other ↦ rw other.0 h.1
    ])
    (each_both (λ r. (n + 1 ≤ r.row.id) × (r.row.id < n + 1 + length ys))
    (λ r. find (λ x. x.row.id == r.row.id) ys ≡ Some r) ys
    (numbers_lie (n + 1) (n + 1 + length ys) (n + 1) ys (omega arith) (omega arith) parts.1)
    (found_each (n + 1) ys parts.1)))

unfiled : (change : Change) (desk : Desk) → change.filed ≡ None
    → (request_filed change.filed desk).requests ≡ desk.requests
unfiled change desk none = ap (λ o. (request_filed o desk).requests) none

-- after a change of one request
pub each_on_request : (Q : Request → Type 0) (change : Change) (desk : Desk) (id : ℕ) (r : Request)
    → IsDesk desk → request_at desk id ≡ Some r → OnlyOf id change → change.filed ≡ None
    → (Q r → Q (changed change r))
    → All Q desk.requests → All Q (applied change desk).requests
each_on_request Q change desk id r is there only none keeps all =
    subst (λ (xs : List Request). All Q xs)
    (sym (requests_after change desk ∙ ap (map (changed change)) (unfiled change desk none)))
    (each_mapped (λ x. (x.row.id ≡ id → x ≡ r) × Q x) Q (changed change) desk.requests
    (λ x h. elim (x.row.id == id) as (λ b. (x.row.id == id) ≡ b → Q (changed change x)) [
      | true ↦ λ e.
          let one : x ≡ r = h.0 (eqb-true x.row.id id e) in
          subst (λ (y : Request). Q (changed change y)) (sym one)
          (keeps (subst (λ (y : Request). Q y) one h.1))
      | false ↦ λ e.
          subst (λ (y : Request). Q y) (sym (spared change id x only (eqb-false x.row.id id e))) h.1
    ] refl)
    (each_both (λ x. x.row.id ≡ id → x ≡ r) Q desk.requests
    (lone id 1 desk.requests r is.requests there) all))

-- of a request that is filed this holds
abbrev pub HoldsFiled : (Request → Type 0) → Change → Option RequestRow → Type 0
HoldsFiled Q change None = Unit {0}
HoldsFiled Q change (Some row) = Q (changed change (filed row))

each_with_filed : (Q : Request → Type 0) (change : Change) (o : Option RequestRow) (desk : Desk)
    → HoldsFiled Q change o → All Q (map (changed change) desk.requests)
    → All Q (map (changed change) (request_filed o desk).requests)
each_with_filed Q change None desk holds all = all
each_with_filed Q change (Some row) desk holds all =
    subst (λ (xs : List Request). All Q xs)
    (sym (map-append (changed change) desk.requests (filed row ∷ [])))
    (each_more Q (map (changed change) desk.requests) (changed change (filed row)) all holds)

-- after a change of no request that was there
pub each_on_queue : (Q : Request → Type 0) (change : Change) (desk : Desk) (n : ℕ)
    → IsDesk desk → n ≡ length desk.requests + 1 → OnlyOf n change
    → HoldsFiled Q change change.filed
    → All Q desk.requests → All Q (applied change desk).requests
each_on_queue Q change desk n is next only holds all =
    let high = 1 + length desk.requests in
    subst (λ (xs : List Request). All Q xs) (sym (requests_after change desk))
    (each_with_filed Q change change.filed desk holds
    (each_mapped (λ x. ((1 ≤ x.row.id) × (x.row.id < high)) × Q x) Q (changed change) desk.requests
    (λ x h. subst (λ (y : Request). Q y)
    (sym (spared change n x only (λ e. omega (arith, h.0.1, e, next)))) h.1)
    (each_both (λ x. (1 ≤ x.row.id) × (x.row.id < high)) Q desk.requests
    (numbers_lie 1 high 1 desk.requests (omega arith) (omega arith) is.requests) all)))
