-- The counts of owners, with one request more.
use Rattle.std.proofs.Common.{◌≡◌, ◌∙◌, ℕ, ◌+◌, ◌-◌, ◌^◌, ◌≤◌, ◌<◌, Bool, true, false, ◌||◌, ◌&&◌, cond}
use Rattle.std.proofs.Common.{List, [], ◌∷◌, ◌++◌, filter, fold, length, map, Option, Some, None}
use Rattle.std.proofs.Common.{get_or, take, refl, ap, ap₂, subst, sym, arith, rules, Ordering, Less, Equal}
use Rattle.std.proofs.Common.{Greater, suc, zero}
use Rattle.std.specs.Prelude.{IsSome, min, nat_lt, unwrap_or}
use Rattle.std.specs.BTreeMap.{insert_entry, is_at}
use Rattle.std.specs.BTreeSet.{insert_key}
use Rattle.std.specs.Cmp.{IsTotalOrder}
use Rattle.std.specs.Cmp.Lexicographic.{nat_list_cmp_total}
use Rattle.std.specs.List.{AllByRecursion, list_any}
use Rattle.std.specs.List.Sorted.{IsStrictlySortedBy}
use Rattle.std.specs.Map.{keys_of, lookup, set_value}
use Rattle.std.specs.Ordering.{is_eq, is_lt, match_ordering, ordering_reverse}
use Rattle.std.proofs.lemmas.Bool.{and_from, and_parts, lt-ltb, ltb-true}
use Rattle.std.proofs.lemmas.List.Elements.{filter-append, filter_agree}
use Rattle.std.proofs.lemmas.List.{length-append, length-map, length-take-le, map-append, take_more}
use Rattle.settings_core.specs.declared.settings.Settings.{Settings}
use Rattle.desk_model.specs.Readings.Workload.{is_owned_by, owner_order, owners}
use Rattle.desk_model.specs.Told.{Told, is_late}
use Rattle.desk_model.specs.declared.rows.QueueRow.{QueueRow}
use Rattle.desk_model.specs.declared.rows.RequestRow.{RequestRow}
use Rattle.sorted_lists.proofs.Rising.{Climbs, all_keyed_rise, climbs, orders_go_on}
use Rattle.report_core.specs.Rows.{counted, counts_of, entries_of, live_among, no_counts}
use Rattle.report_core.specs.Rows.{numbers_rise, told_among, with_counts}
use Rattle.report_core.specs.declared.load.Counts.{Counts}

abbrev Owner : Type 0
Owner = Option (List ℕ)

owners_total : IsTotalOrder owner_order
owners_total = record {
  antisymm = λ x y. search (rules, nat_list_cmp_total.antisymm);
  trans = λ x y z. search (rules, nat_list_cmp_total.trans);
  congr = λ x y z. search (rules, nat_list_cmp_total.congr);
}

-- ---- rows whose numbers rise

-- from above a lower number too
pub rise_from : (low n : ℕ) (rows : List (RequestRow × Option ℕ)) → low ≤ n
    → numbers_rise n rows ≡ true → numbers_rise low rows ≡ true
rise_from low n [] below rise = refl
rise_from low n (dated ∷ rest) below rise =
    let parts = and_parts (nat_lt n dated.0.id) (numbers_rise dated.0.id rest) rise in
    let above = ltb-true n dated.0.id parts.0 in
    and_from (nat_lt low dated.0.id) (numbers_rise dated.0.id rest)
    (lt-ltb low dated.0.id (omega (arith, below, above))) parts.1

-- with some taken away
pub fewer_rise : (test : RequestRow × Option ℕ → Bool) (n : ℕ)
    (rows : List (RequestRow × Option ℕ))
    → numbers_rise n rows ≡ true → numbers_rise n (filter test rows) ≡ true
fewer_rise test n [] rise = refl
fewer_rise test n (dated ∷ rest) rise =
    let parts = and_parts (nat_lt n dated.0.id) (numbers_rise dated.0.id rest) rise in
    let above = ltb-true n dated.0.id parts.0 in
    let kept = filter test rest in
    let rises = fewer_rise test dated.0.id rest parts.1 in
    elim (test dated) as (λ b. numbers_rise n (cond b (dated ∷ kept) kept) ≡ true) [
      | true ↦ and_from (nat_lt n dated.0.id) (numbers_rise dated.0.id kept) parts.0 rises
      | false ↦ rise_from n dated.0.id kept (omega (arith, above)) rises
    ]

-- a row's number is above its place
pub above_place : (n : ℕ) (rows : List (RequestRow × Option ℕ)) (i : ℕ)
    (d : RequestRow × Option ℕ)
    → numbers_rise n rows ≡ true → i < length rows → n + i < (get_or rows i d).0.id
above_place n [] i d rise low = absurd (omega (arith, low))
above_place n (dated ∷ rest) zero d rise low =
    let parts = and_parts (nat_lt n dated.0.id) (numbers_rise dated.0.id rest) rise in
    omega (arith, ltb-true n dated.0.id parts.0)
above_place n (dated ∷ rest) (suc i) d rise low =
    let parts = and_parts (nat_lt n dated.0.id) (numbers_rise dated.0.id rest) rise in
    let above = ltb-true n dated.0.id parts.0 in
    let later = above_place dated.0.id rest i d parts.1 (omega (arith, low)) in
    omega (arith, above, later)

-- ---- owners that compare as one

back : (x y : Owner) (o : Ordering) → owner_order x y ≡ o → owner_order y x ≡ ordering_reverse o
back x y o e = owners_total.antisymm y x ∙ ap ordering_reverse e

own : (x : Owner) → is_eq (owner_order x x) ≡ true
own x = by (owner_order x x) refl
  where
    by : (o : Ordering) → owner_order x x ≡ o → is_eq o ≡ true
    by Less e = let no : Less ≡ Greater = sym e ∙ back x x Less e in cc
    by Equal e = refl
    by Greater e = let no : Greater ≡ Less = sym e ∙ back x x Greater e in cc

-- to what compares as one, each third compares alike
alike : (x y z : Owner) → owner_order x y ≡ Equal → owner_order z x ≡ owner_order z y
alike x y z e =
    owners_total.antisymm z x
    ∙ ap ordering_reverse (owners_total.congr x y z e)
    ∙ sym (owners_total.antisymm z y)

apart_back : (k y : Owner) → (owner_order k y ≡ Equal → ⊥) → is_eq (owner_order y k) ≡ false
apart_back k y apart = by (owner_order k y) refl
  where
    by : (o : Ordering) → owner_order k y ≡ o → is_eq (owner_order y k) ≡ false
    by Less e = ap is_eq (back k y Less e)
    by Equal e = absurd (apart e)
    by Greater e = ap is_eq (back k y Greater e)

-- ---- counts with one request more

abbrev one_if : Bool → ℕ
one_if b = cond b 1 0

length_more : (test : Told → Bool) (ts : List Told) (t : Told)
    → length (filter test (ts ++ t ∷ [])) ≡ length (filter test ts) + one_if (test t)
length_more test ts t =
    ap length (filter-append test ts (t ∷ []))
    ∙ length-append (filter test ts) (cond (test t) (t ∷ []) [])
    ∙ ap (λ n. length (filter test ts) + n)
    (elim (test t) as (λ b. length (cond b (t ∷ []) []) ≡ one_if b) [ true ↦ refl | false ↦ refl ])

fewer : (test : Told → Bool) (ts : List Told) → length (filter test ts) ≤ length ts
fewer test [] = omega arith
fewer test (t ∷ ts) =
    let rest = fewer test ts in
    elim (test t) as (λ b. length (cond b (t ∷ filter test ts) (filter test ts))
    ≤ length (t ∷ ts)) [
      | true ↦ omega arith
      | false ↦ omega arith
    ]

abbrev late_of : ℕ → Owner → Told → Bool
late_of at owner t = is_owned_by owner t && is_late at t

abbrev counts : ℕ → ℕ → Counts
counts live overdue = record { live = live; overdue = overdue }

counts_more : (at : ℕ) (ts : List Told) (t : Told) (y : Owner)
    → counts_of at (ts ++ t ∷ []) y
    ≡ counts (length (filter (is_owned_by y) ts) + one_if (is_owned_by y t))
    (length (filter (late_of at y) ts) + one_if (late_of at y t))
counts_more at ts t y =
    ap₂ counts (length_more (is_owned_by y) ts t) (length_more (late_of at y) ts t)

-- the counts of another owner stay
other_stays : (at : ℕ) (ts : List Told) (t : Told) (y : Owner)
    → (owner_order t.row.owner y ≡ Equal → ⊥)
    → counts_of at (ts ++ t ∷ []) y ≡ counts_of at ts y
other_stays at ts t y apart =
    counts_more at ts t y
    ∙ ap (λ b. counts (length (filter (is_owned_by y) ts) + one_if b)
    (length (filter (late_of at y) ts) + one_if (b && is_late at t)))
    (apart_back t.row.owner y apart)
    ∙ ap₂ counts (omega arith) (omega arith)

-- owners that compare as one have the same counts
same_counts : (at : ℕ) (ts : List Told) (k y : Owner) → owner_order k y ≡ Equal
    → counts_of at ts y ≡ counts_of at ts k
same_counts at ts k y e =
    let same : (t : Told) → is_owned_by y t ≡ is_owned_by k t =
    λ t. ap is_eq (sym (owners_total.congr k y t.row.owner e)) in
    ap₂ counts (ap length (filter_agree (is_owned_by y) (is_owned_by k) same ts))
    (ap length (filter_agree (late_of at y) (late_of at k) (λ t. ap (λ b. b && is_late at t) (same t))
    ts))

smallest : (n : ℕ) → n + 1 < 2 ^ 32 → min (n + 1) (2 ^ 32 - 1) ≡ n + 1
smallest n low = omega arith

-- the counts of the owner of the request that comes
own_more : (at : ℕ) (ts : List Told) (t : Told) → length ts + 1 < 2 ^ 32
    → counts_of at (ts ++ t ∷ []) t.row.owner
    ≡ counted (is_late at t) (counts_of at ts t.row.owner)
own_more at ts t small =
    let k = t.row.owner in
    let live = length (filter (is_owned_by k) ts) in
    let overdue = length (filter (late_of at k) ts) in
    let few = fewer (is_owned_by k) ts in
    let late_few = fewer (late_of at k) ts in
    counts_more at ts t k
    ∙ ap (λ b. counts (live + one_if b) (overdue + one_if (b && is_late at t))) (own k)
    ∙ ap₂ counts (sym (smallest live (omega (arith, few, small))))
    (elim (is_late at t) as (λ b. overdue + one_if b
    ≡ cond b (min (overdue + 1) (2 ^ 32 - 1)) overdue) [
      | true ↦ sym (smallest overdue (omega (arith, late_few, small)))
      | false ↦ omega arith
    ])

-- ---- owners that are there

-- a key is there once it is put
any_key : (k x : Owner) (keys : List Owner)
    → list_any (λ y. is_eq (owner_order k y)) (insert_key owner_order keys x)
    ≡ (is_eq (owner_order k x) || list_any (λ y. is_eq (owner_order k y)) keys)
any_key k x [] = refl
any_key k x (y ∷ ys) =
    elim (owner_order x y) as (λ o. owner_order x y ≡ o
    → list_any (λ z. is_eq (owner_order k z))
    (match_ordering o (x ∷ y ∷ ys) (y ∷ ys) (y ∷ insert_key owner_order ys x))
    ≡ (is_eq (owner_order k x) || (is_eq (owner_order k y)
    || list_any (λ z. is_eq (owner_order k z)) ys))) [
      | Less ↦ λ e. refl
      | Equal ↦ λ e.
          doubled (is_eq (owner_order k x)) (is_eq (owner_order k y)) _
          (ap is_eq (alike x y k e))
      | Greater ↦ λ e.
          ap (λ b. is_eq (owner_order k y) || b) (any_key k x ys)
          ∙ swapped (is_eq (owner_order k y)) (is_eq (owner_order k x)) _
    ] refl
  where
    doubled : (a b c : Bool) → a ≡ b → (b || c) ≡ (a || (b || c))
    doubled true true c e = refl
    doubled false false c e = refl
    doubled true false c e = cc
    doubled false true c e = cc

    swapped : (a b c : Bool) → (a || (b || c)) ≡ (b || (a || c))
    swapped true true c = refl
    swapped true false c = refl
    swapped false true c = refl
    swapped false false c = refl

any_of_all : (k : Owner) (xs acc : List Owner)
    → list_any (λ y. is_eq (owner_order k y)) (fold (insert_key owner_order) acc xs)
    ≡ (list_any (λ y. is_eq (owner_order k y)) xs
    || list_any (λ y. is_eq (owner_order k y)) acc)
any_of_all k [] acc = refl
any_of_all k (x ∷ xs) acc =
    any_of_all k xs (insert_key owner_order acc x)
    ∙ ap (λ b. list_any (λ y. is_eq (owner_order k y)) xs || b) (any_key k x acc)
    ∙ swapped (list_any (λ y. is_eq (owner_order k y)) xs) (is_eq (owner_order k x)) _
  where
    swapped : (a b c : Bool) → (a || (b || c)) ≡ ((b || a) || c)
    swapped true true c = refl
    swapped true false c = refl
    swapped false true c = refl
    swapped false false c = refl

-- an owner who isn't there has no request
none_there : (at : ℕ) (k : Owner) (ts : List Told)
    → list_any (λ y. is_eq (owner_order k y)) (map (λ t. t.row.owner) ts) ≡ false
    → counts_of at ts k ≡ no_counts
none_there at k [] none = refl
none_there at k (t ∷ ts) none =
    by (is_owned_by k t) refl (none_there at k ts) none
  where
    by : (b : Bool) → is_owned_by k t ≡ b
        → (list_any (λ y. is_eq (owner_order k y)) (map (λ x. x.row.owner) ts) ≡ false
        → counts_of at ts k ≡ no_counts)
        → (b || list_any (λ y. is_eq (owner_order k y)) (map (λ x. x.row.owner) ts)) ≡ false
        → counts_of at (t ∷ ts) k ≡ no_counts
    by true e rest none_so = cc
    by false e rest none_so =
        ap (λ b. counts (length (cond b (t ∷ filter (is_owned_by k) ts) (filter (is_owned_by k) ts)))
        (length (cond (b && is_late at t) (t ∷ filter (late_of at k) ts) (filter (late_of at k) ts))))
        e
        ∙ rest none_so

-- ---- a map with the counts

abbrev with : (Owner → Counts) → Owner → Owner × Counts
with f y = (y, f y)

looked_up : (f : Owner → Counts) (k : Owner)
    → ((y : Owner) → owner_order k y ≡ Equal → f y ≡ f k) → (keys : List Owner)
    → lookup (is_at (owner_order k)) (map (with f) keys)
    ≡ cond (list_any (λ y. is_eq (owner_order k y)) keys) (Some (f k)) None
looked_up f k same [] = refl
looked_up f k same (y ∷ ys) =
    elim (owner_order k y) as (λ o. owner_order k y ≡ o
    → cond (is_eq o) (Some (f y)) (lookup (is_at (owner_order k)) (map (with f) ys))
    ≡ cond (is_eq o || list_any (λ z. is_eq (owner_order k z)) ys) (Some (f k)) None) [
      | Less ↦ λ e. looked_up f k same ys
      | Equal ↦ λ e. ap Some (same y e)
      | Greater ↦ λ e. looked_up f k same ys
    ] refl

-- what is found of an owner are the counts so far
found_counts : (at : ℕ) (ts : List Told) (k : Owner)
    → unwrap_or (lookup (is_at (owner_order k)) (entries_of at ts)) no_counts
    ≡ counts_of at ts k
found_counts at ts k =
    let there : Bool = list_any (λ y. is_eq (owner_order k y)) (map (λ t. t.row.owner) ts) in
    ap (λ o. unwrap_or o no_counts)
    (looked_up (counts_of at ts) k (λ y e. same_counts at ts k y e) (owners ts))
    ∙ ap (λ b. unwrap_or (cond b (Some (counts_of at ts k)) None) no_counts)
    (any_of_all k (map (λ t. t.row.owner) ts) [] ∙ or_none there)
    ∙ by there refl
  where
    or_none : (b : Bool) → (b || false) ≡ b
    or_none true = refl
    or_none false = refl

    by : (b : Bool)
        → list_any (λ y. is_eq (owner_order k y)) (map (λ t. t.row.owner) ts) ≡ b
        → unwrap_or (cond b (Some (counts_of at ts k)) None) no_counts ≡ counts_of at ts k
    by true e = refl
    by false e = sym (none_there at k ts e)

others_stay : (f g : Owner → Counts) (k : Owner)
    → ((y : Owner) → (owner_order k y ≡ Equal → ⊥) → g y ≡ f y) → (ys : List Owner)
    → AllByRecursion (λ y. is_lt (owner_order k y) ≡ true) ys
    → map (with f) ys ≡ map (with g) ys
others_stay f g k stays [] above = refl
others_stay f g k stays (y ∷ ys) above =
    ap₂ (λ (v : Counts) (rest : List (Owner × Counts)). (y, v) ∷ rest)
    (sym (stays y (λ e. let no : true ≡ false = sym above.0 ∙ ap is_lt e in cc)))
    (others_stay f g k stays ys above.1)

above_all : (k y : Owner) (ys : List Owner) → is_lt (owner_order k y) ≡ true
    → AllByRecursion (λ z. is_lt (owner_order y z) ≡ true) ys
    → AllByRecursion (λ z. is_lt (owner_order k z) ≡ true) ys
above_all k y [] low above = tt
above_all k y (z ∷ zs) low above =
    (orders_go_on owners_total k y z low above.0, above_all k y zs low above.1)

put_counts : (f g : Owner → Counts) (k : Owner)
    → ((y : Owner) → (owner_order k y ≡ Equal → ⊥) → g y ≡ f y)
    → ((y : Owner) → owner_order k y ≡ Equal → g y ≡ g k)
    → (ys : List Owner) → Climbs (λ a b. is_lt (owner_order a b)) ys
    → insert_entry owner_order (map (with f) ys) k (g k)
    ≡ map (with g) (insert_key owner_order ys k)
put_counts f g k stays same [] climbs = refl
put_counts f g k stays same (y ∷ ys) climbs =
    by (put_counts f g k stays same ys climbs.1) (owner_order k y) refl
  where
    by : insert_entry owner_order (map (with f) ys) k (g k)
        ≡ map (with g) (insert_key owner_order ys k)
        → (o : Ordering) → owner_order k y ≡ o
        → match_ordering o ((k, g k) ∷ (y, f y) ∷ map (with f) ys)
        ((y, g k) ∷ map (with f) ys)
        ((y, f y) ∷ insert_entry owner_order (map (with f) ys) k (g k))
        ≡ map (with g)
        (match_ordering o (k ∷ y ∷ ys) (y ∷ ys) (y ∷ insert_key owner_order ys k))
    by rest Less e =
        ap (λ (entries : List (Owner × Counts)). (k, g k) ∷ entries)
        (others_stay f g k stays (y ∷ ys) (ap is_lt e, above_all k y ys (ap is_lt e) climbs.0))
    by rest Equal e =
        ap₂ (λ (v : Counts) (entries : List (Owner × Counts)). (y, v) ∷ entries) (sym (same y e))
        (others_stay f g k stays ys (tied ys climbs.0))
      where
        tied : (zs : List Owner) → AllByRecursion (λ z. is_lt (owner_order y z) ≡ true) zs
            → AllByRecursion (λ z. is_lt (owner_order k z) ≡ true) zs
        tied [] above = tt
        tied (z ∷ zs) above =
            (ap is_lt (owners_total.congr k y z e) ∙ above.0, tied zs above.1)
    by rest Greater e =
        ap₂ (λ (v : Counts) (entries : List (Owner × Counts)). (y, v) ∷ entries)
        (sym (stays y (λ same_as. let no : Greater ≡ Equal = sym e ∙ same_as in cc))) rest

owners_more : (ts : List Told) (t : Told)
    → owners (ts ++ t ∷ []) ≡ insert_key owner_order (owners ts) t.row.owner
owners_more ts t =
    ap (fold (insert_key owner_order) []) (map-append (λ x. x.row.owner) ts (t ∷ []))
    ∙ folded (map (λ x. x.row.owner) ts) [] t.row.owner
  where
    folded : (xs acc : List Owner) (k : Owner)
        → fold (insert_key owner_order) acc (xs ++ k ∷ [])
        ≡ insert_key owner_order (fold (insert_key owner_order) acc xs) k
    folded [] acc k = refl
    folded (x ∷ xs) acc k = folded xs (insert_key owner_order acc x) k

-- the counts of the owners, with one request more
pub counted_more : (at : ℕ) (ts : List Told) (t : Told) → length ts + 1 < 2 ^ 32
    → insert_entry owner_order (entries_of at ts) t.row.owner (counted (is_late at t)
    (unwrap_or (lookup (is_at (owner_order t.row.owner)) (entries_of at ts)) no_counts))
    ≡ entries_of at (ts ++ t ∷ [])
counted_more at ts t small =
    let k = t.row.owner in
    let more = ts ++ t ∷ [] in
    ap (insert_entry owner_order (entries_of at ts) k)
    (ap (counted (is_late at t)) (found_counts at ts k) ∙ sym (own_more at ts t small))
    ∙ put_counts (counts_of at ts) (counts_of at more) k (λ y apart. other_stays at ts t y apart)
    (λ y e. same_counts at more k y e) (owners ts)
    (climbs (λ a b. is_lt (owner_order a b)) (owners ts) (orders_go_on owners_total)
    (all_keyed_rise owner_order owners_total (map (λ x. x.row.owner) ts) [] refl))
    ∙ ap (map (with_counts at more)) (sym (owners_more ts t))

-- ---- an owner who is there

apart_if_lower : (o : Ordering) → is_lt o ≡ true → is_eq o ≡ false
apart_if_lower Less low = refl
apart_if_lower Equal low = cc
apart_if_lower Greater low = cc

-- who comes before all isn't among them
not_after : (k y : Owner) (es : List (Owner × Counts)) → is_lt (owner_order k y) ≡ true
    → AllByRecursion (λ z. owner_order y z ≡ Less) (keys_of es)
    → IsSome (lookup (is_at (owner_order k)) es) → ⊥
not_after k y [] low above there = cc
not_after k y (e ∷ es) low above there =
    let lower = orders_go_on owners_total k y e.0 low (ap is_lt above.0) in
    not_after k y es low above.1
    (subst (λ (b : Bool). IsSome (cond b (Some e.1) (lookup (is_at (owner_order k)) es)))
    (apart_if_lower (owner_order k e.0) lower) there)

-- to write new counts of an owner who is there is to put them
pub written_where_found : (k : Owner) (w : Counts) (es : List (Owner × Counts))
    → IsStrictlySortedBy owner_order (keys_of es)
    → IsSome (lookup (is_at (owner_order k)) es)
    → set_value (is_at (owner_order k)) es w ≡ insert_entry owner_order es k w
unfolding IsStrictlySortedBy
written_where_found k w [] rise there = cc
written_where_found k w (e ∷ es) rise there =
    by (owner_order k e.0) refl there (written_where_found k w es rise.1)
  where
    by : (o : Ordering) → owner_order k e.0 ≡ o
        → IsSome (cond (is_eq o) (Some e.1) (lookup (is_at (owner_order k)) es))
        → (IsSome (lookup (is_at (owner_order k)) es)
        → set_value (is_at (owner_order k)) es w ≡ insert_entry owner_order es k w)
        → cond (is_eq o) ((e.0, w) ∷ es) (e ∷ set_value (is_at (owner_order k)) es w)
        ≡ match_ordering o ((k, w) ∷ e ∷ es) ((e.0, w) ∷ es) (e ∷ insert_entry owner_order es k w)
    by Less is found rest = absurd (not_after k e.0 es (ap is_lt is) rise.0 found)
    by Equal is found rest = refl
    by Greater is found rest =
        ap (λ (entries : List (Owner × Counts)). e ∷ entries) (rest found)

-- what is live among the rows, with one more
pub live_more : (settings : Settings) (queues : List QueueRow)
    (rows : List (RequestRow × Option ℕ)) (i : ℕ) (row : RequestRow × Option ℕ)
    → i < length rows → row ≡ get_or rows i row
    → live_among settings queues (take (i + 1) rows)
    ≡ live_among settings queues (take i rows)
    ++ cond (told_among settings queues row).is_live (told_among settings queues row ∷ []) []
live_more settings queues rows i row low is =
    let one = told_among settings queues in
    ap (λ xs. filter (λ t. t.is_live) (map one xs)) (take_more rows i row low)
    ∙ ap (filter (λ t. t.is_live)) (map-append one (take i rows) (get_or rows i row ∷ []))
    ∙ filter-append (λ t. t.is_live) (map one (take i rows)) (one (get_or rows i row) ∷ [])
    ∙ ap (λ (x : RequestRow × Option ℕ). live_among settings queues (take i rows)
    ++ cond (one x).is_live (one x ∷ []) []) (sym is)

-- no more is live than there are rows
pub live_fewer : (settings : Settings) (queues : List QueueRow)
    (rows : List (RequestRow × Option ℕ)) (i : ℕ)
    → i ≤ length rows → length (live_among settings queues (take i rows)) ≤ i
live_fewer settings queues rows i low =
    omega (
      arith,
      fewer (λ t. t.is_live) (map (told_among settings queues) (take i rows)),
      length-map (take i rows) (told_among settings queues),
      length-take-le i rows low,
    )
