-- From rows by key to the facts of a desk.
use Rattle.std.proofs.Common.{◌≡◌, ◌∙◌, ℕ, ◌+◌, ◌<◌, Bool, true, false, cond, List, [], ◌∷◌, map}
use Rattle.std.proofs.Common.{◌==◌, flat_map, option_map, option_to_list, nat_cmp, filter}
use Rattle.std.proofs.Common.{find, length, Option, inl, inr, refl, sym, ap, append-nil}
use Rattle.std.proofs.Common.{arith, is_some, Less, bytes_eq}
use Rattle.std.specs.List.{AllByRecursion, list_any}
use Rattle.std.specs.Option.{option_map_or}
use Rattle.std.proofs.lemmas.Bool.Decides.{nat_tests}
use Rattle.std.proofs.lemmas.List.Elements.{filter-append}
use Rattle.std.proofs.lemmas.Map.Text.{is_eq-slice_cmp}
use Rattle.sqlite_trees.specs.Tree.{IsAscending}
use Rattle.sqlite_rules.specs.Lists.{Has}
use Rattle.sqlite_trees.proofs.ListLemmas.{all_of, all_weaker, filter_all, filter_none}
use Rattle.desk_model.specs.declared.rows.QueueRow.{QueueRow}
use Rattle.desk_model.specs.declared.rows.RequestRow.{RequestRow}
use Rattle.desk_model.specs.Desk.{Desk, Request}
use Rattle.desk_model.specs.IsDesk.{IsDesk, are_numbered}
use Rattle.store_tables.specs.Picked.{IsGreatest}
use Rattle.store_tables.specs.Contents.Queue.{is_named}
use Rattle.store_tables.specs.Contents.Request.{is_numbered}
use Rattle.store_core.specs.Found.{has_number}
use Rattle.store_core.proofs.RiseLemmas.{all_later, ids_rise}

-- ---- what is found first

pub find-map : {X Y : Type 0} (p : Y → Bool) (f : X → Y) (xs : List X)
    → find p (map f xs) ≡ option_map f (find (λ x. p (f x)) xs)
find-map p f [] = refl
find-map p f (x ∷ xs) = grind (arith, find-map p f xs)

-- what is all that a test passes is the first that it passes
found_first : {X : Type 0} (p q : X → Bool) → ((x : X) → p x ≡ q x) → (xs : List X)
    (o : Option X) → option_to_list o ≡ filter p xs → o ≡ find q xs
found_first p q same [] o h = grind arith
found_first p q same (x ∷ xs) o h = grind (arith, same x, found_first p q same xs o)

any_found : {X : Type 0} (p : X → Bool) (xs : List X) → is_some (find p xs) ≡ list_any p xs
any_found p [] = refl
any_found p (x ∷ xs) = grind (arith, any_found p xs)

pub some_found : {X : Type 0} (p q : X → Bool) → ((x : X) → p x ≡ q x) → (xs : List X)
    (o : Option X) → option_to_list o ≡ filter p xs → is_some o ≡ list_any q xs
some_found p q same xs o h = ap is_some (found_first p q same xs o h) ∙ any_found q xs

pub found_queue : (name : List ℕ) (queues : List QueueRow) (q : Option QueueRow)
    → option_to_list q ≡ filter (is_named name) queues → q ≡ find (λ x. bytes_eq x.name name) queues
found_queue name = found_first (is_named name) _ (λ x. is_eq-slice_cmp x.name name)

pub found_row : (id : ℕ) (rs : List Request) (o : Option RequestRow)
    → option_to_list o ≡ filter (is_numbered id) (map (λ r. r.row) rs)
    → o ≡ option_map (λ r. r.row) (find (has_number id) rs)
found_row id [] o h = grind arith
found_row id (r ∷ rs) o h = grind (arith, found_row id rs o)

-- ---- the parts of requests, each of which tells its request's number

pub all_or_none : {X : Type 0} (p : X → Bool) (b : Bool) (xs : List X)
    → AllByRecursion (λ x. p x ≡ b) xs → filter p xs ≡ cond b xs []
all_or_none p true = filter_all p
all_or_none p false = filter_none p

pub each_alike : {X : Type 0} (b : Bool) (xs : List X) → filter (λ _. b) xs ≡ cond b xs []
each_alike b xs = all_or_none (λ _. b) b xs (all_of _ (λ _. refl) xs)

module _ {E : Type 0} (part : Request → List E) (of : E → ℕ) where
  abbrev Own : Request → Type 0
  Own r = AllByRecursion (λ e. of e ≡ r.row.id) (part r)

  -- the part of the request with that number among these
  abbrev among : ℕ → List Request → List E
  among id rs = option_map_or part (find (has_number id) rs) []

  part_among : (id : ℕ) (rs : List Request)
      → IsAscending (λ a b. nat_cmp a.row.id b.row.id ≡ Less) rs → AllByRecursion Own rs
      → filter (λ e. of e == id) (flat_map part rs) ≡ among id rs
  part_among id [] up own = refl
  part_among id (r ∷ rs) up own =
      let here = all_or_none (λ e. of e == id) (r.row.id == id) (part r)
      (all_weaker _ _ (λ e is. ap (λ n. n == id) is) (part r) own.0) in
      let later = λ (is : (r.row.id == id) ≡ true). filter_none (λ e. of e == id) (flat_map part rs)
      (all_weaker (λ e. nat_cmp r.row.id (of e) ≡ Less) _ (λ e low. grind (arith, nat_tests)) _
      (all_later part (λ (r : Request). r.row.id) of r.row.id rs up.0 own.1)) in
      rw (filter-append, here) (grind (arith, later, append-nil, part_among id rs up.1 own.1))

  pub part_is : (desk : Desk) → IsDesk desk → AllByRecursion Own desk.requests → (id : ℕ)
      → filter (λ e. of e == id) (flat_map part desk.requests) ≡ among id desk.requests
  part_is desk is own id = part_among id desk.requests (ids_rise desk is) own

-- ---- numbers from 1 on: the greatest is the count

pub below_next : {X : Type 0} (key : X → ℕ) (next : ℕ) (xs : List X)
    → are_numbered next (map key xs) ≡ true → (x : X) → Has xs x → key x < next + length xs
below_next key next [] h x has = absurd has
below_next key next (y ∷ ys) h x (inl same) = grind (arith, nat_tests, ap key same)
below_next key next (y ∷ ys) h x (inr later) =
    omega (arith, below_next key (next + 1) ys (grind arith) x later)

reaches_last : {X : Type 0} (key : X → ℕ) (next : ℕ) (x : X) (xs : List X)
    → are_numbered next (map key (x ∷ xs)) ≡ true
    → (y : X) × Has (x ∷ xs) y × (key y + 1 ≡ next + length (x ∷ xs))
reaches_last key next x [] h = (x, inl refl, grind (arith, nat_tests))
reaches_last key next x (y ∷ ys) h =
    let it = reaches_last key (next + 1) y ys (grind arith) in
    (it.0, inr it.1, omega (arith, it.2))

pub greatest_counts : {X : Type 0} (key : X → ℕ) (xs : List X) (n : ℕ)
    → are_numbered 1 (map key xs) ≡ true → IsGreatest key xs n → n ≡ length xs
greatest_counts key xs n numbered (inl none) = none.1 ∙ sym (ap length none.0)
greatest_counts key [] n numbered (inr it) = absurd it.1
greatest_counts key (x ∷ xs) n numbered (inr it) =
    let last = reaches_last key 1 x xs numbered in
    omega (arith, below_next key 1 (x ∷ xs) numbered it.0 it.1, last.2, it.3 last.0 last.1, it.2)
