-- What is looked up by halving is what looking through all of a list would find.
use Rattle.std.proofs.Common.{◌≡◌, ◌∙◌, ℕ, ◌≤◌, zero, suc, Bool, true, false, ◌||◌, cond}
use Rattle.std.proofs.Common.{List, [], ◌∷◌, find, length, take, drop, Some, None}
use Rattle.std.proofs.Common.{refl, ap, sym, arith, slice_index_or, Ordering, Less, Equal, Greater}
use Rattle.std.specs.List.{AllByRecursion, AllWithin, list_any, slice_get}
use Rattle.std.specs.List.Sorted.{IsPartitionedBy}
use Rattle.std.specs.Cmp.Lexicographic.{nat_list_cmp_total, texts_ties}
use Rattle.std.specs.Ordering.{is_eq, is_lt, ordering_reverse}
use Rattle.std.specs.Str.{bytes_eq}
use Rattle.std.proofs.lemmas.List.Elements.{All-from_recursion}
use Rattle.desk_model.specs.Desk.{has_lower_name}
use Rattle.desk_model.specs.Names.{text_order}
use Rattle.desk_model.specs.declared.rows.QueueRow.{QueueRow}
use Rattle.sorted_lists.proofs.Rising.{Climbs, lesser, orders_go_on}
use Rattle.report_core.specs.Rows.{named_only, queue_among}

-- where none in front passes a test, one passes it exactly where one does after them
pub any_after : {X : Type 0} (test : X → Bool) (xs : List X) (n : ℕ)
    → AllWithin (λ x. test x ≡ false) xs 0 n → n ≤ length xs
    → list_any test (drop n xs) ≡ list_any test xs
any_after test xs zero none low = refl
any_after test [] (suc n) none low = refl
any_after test (x ∷ xs) (suc n) none low =
    any_after test xs n (λ k d from to. none (suc k) d (omega arith) (omega arith)) (omega arith)
    ∙ ap (λ b. b || list_any test xs) (sym (none 0 x (omega arith) (omega arith)))

-- where none from there on passes a test, one passes it exactly where one does before them
pub any_before : {X : Type 0} (test : X → Bool) (xs : List X) (n : ℕ)
    → AllWithin (λ x. test x ≡ false) xs n (length xs)
    → list_any test (take n xs) ≡ list_any test xs
any_before test [] zero none = refl
any_before test [] (suc n) none = refl
any_before test (x ∷ xs) zero none =
    any_before test xs zero (λ k d from to. none (suc k) d (omega arith) (omega arith))
    ∙ ap (λ b. b || list_any test xs) (sym (none 0 x (omega arith) (omega arith)))
any_before test (x ∷ xs) (suc n) none =
    ap (λ b. test x || b)
    (any_before test xs n (λ k d from to. none (suc k) d (omega arith) (omega arith)))

-- a test that splits what rises: what passes it stands in front
pub parted : {X : Type 0} (test : X → Bool) (lower : X → X → Bool)
    → ((x y : X) → lower x y ≡ true → test y ≡ true → test x ≡ true)
    → (xs : List X) → Climbs lower xs → IsPartitionedBy test xs
parted test lower back [] climbs i j d le lt passes = absurd (omega arith)
parted test lower back (x ∷ xs) climbs zero zero d le lt passes = passes
parted test lower back (x ∷ xs) climbs zero (suc j) d le lt passes =
    back x (slice_index_or xs j d)
    (All-from_recursion (λ y. lower x y ≡ true) xs climbs.0 j d (omega arith)) passes
parted test lower back (x ∷ xs) climbs (suc i) zero d le lt passes = absurd (omega arith)
parted test lower back (x ∷ xs) climbs (suc i) (suc j) d le lt passes =
    parted test lower back xs climbs.1 i j d (omega arith) (omega arith) passes

-- a queue whose name comes before this one
abbrev pub is_before : List ℕ → QueueRow → Bool
is_before name queue = is_lt (text_order queue.name name)

pub not_named_below : (a b : List ℕ) → is_lt (text_order a b) ≡ true → bytes_eq a b ≡ false
not_named_below a b less =
    texts_ties a b ∙ ap is_eq (lesser (text_order a b) less)

pub not_named_above : (a b : List ℕ) → is_lt (text_order b a) ≡ true → bytes_eq a b ≡ false
not_named_above a b less =
    texts_ties a b
    ∙ ap is_eq (nat_list_cmp_total.antisymm a b ∙ ap ordering_reverse
    (lesser (text_order b a) less))

pub goes_before : (name : List ℕ) (x y : QueueRow) → has_lower_name x y ≡ true
    → is_before name y ≡ true → is_before name x ≡ true
goes_before name x y lower before =
    orders_go_on nat_list_cmp_total x.name y.name name lower before

-- no queue is named so where all come after one that doesn't come before that name
none_named : (name : List ℕ) (q : QueueRow) (qs : List QueueRow)
    → AllByRecursion (λ y. has_lower_name q y ≡ true) qs → is_before name q ≡ false
    → find (λ y. bytes_eq y.name name) qs ≡ None
none_named name q [] above after = refl
none_named name q (y ∷ ys) above after =
    rw (not_named_above y.name name (later (text_order q.name name) refl))
    (none_named name q ys above.1 after)
  where
    later : (o : Ordering) → text_order q.name name ≡ o → is_lt (text_order name y.name) ≡ true
    later Less e = absurd (let no : true ≡ false = sym (ap is_lt e) ∙ after in cc)
    later Equal e =
        ap is_lt (sym (nat_list_cmp_total.congr q.name name y.name e)) ∙ above.0
    later Greater e =
        orders_go_on nat_list_cmp_total name q.name y.name
        (ap is_lt (nat_list_cmp_total.antisymm name q.name ∙ ap ordering_reverse e)) above.0

-- the queue of that name, if the first of these has it
first_named : (name : List ℕ) (qs : List QueueRow) → Climbs has_lower_name qs
    → AllWithin (λ q. is_before name q ≡ false) qs 0 (length qs)
    → named_only name (slice_get qs 0) ≡ queue_among qs name
first_named name [] climbs after = refl
first_named name (q ∷ qs) climbs after =
    elim (bytes_eq q.name name)
    as (λ b. cond b (Some q) None ≡ cond b (Some q) (find (λ y. bytes_eq y.name name) qs)) [
      | true ↦ refl
      | false ↦ sym (none_named name q qs climbs.0 (after 0 q (omega arith) (omega arith)))
    ]

pub found_at : (name : List ℕ) (qs : List QueueRow) (i : ℕ) → Climbs has_lower_name qs
    → AllWithin (λ q. is_before name q ≡ true) qs 0 i
    → AllWithin (λ q. is_before name q ≡ false) qs i (length qs) → i ≤ length qs
    → named_only name (slice_get (drop i qs) 0) ≡ queue_among qs name
found_at name qs zero climbs front back low = first_named name qs climbs back
found_at name [] (suc i) climbs front back low = refl
found_at name (q ∷ qs) (suc i) climbs front back low =
    found_at name qs i climbs.1
    (λ k d from to. front (suc k) d (omega arith) (omega arith))
    (λ k d from to. back (suc k) d (omega arith) (omega arith)) (omega arith)
    ∙ ap (λ b. cond b (Some q) (find (λ y. bytes_eq y.name name) qs))
    (sym (not_named_below q.name name (front 0 q (omega arith) (omega arith))))
