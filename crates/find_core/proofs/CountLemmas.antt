-- What queues have open, with one row more.
use Rattle.std.proofs.Common.{◌≡◌, ◌∙◌, ℕ, ◌+◌, ◌-◌, ◌^◌, ◌<◌, ◌≤◌, zero, suc, Bool, true, false}
use Rattle.std.proofs.Common.{◌&&◌, cond, List, [], ◌∷◌, get_or, length, map, take, refl, ap, ap₂, sym}
use Rattle.std.proofs.Common.{arith, Ordering, Less, Equal, Greater}
use Rattle.std.specs.Prelude.{min}
use Rattle.std.specs.Cmp.Lexicographic.{nat_list_cmp_total, texts_ties}
use Rattle.std.specs.List.{AllByRecursion, AllWithin, count_by}
use Rattle.std.specs.Ordering.{is_eq, is_lt, ordering_reverse}
use Rattle.std.specs.Str.{bytes_eq}
use Rattle.std.proofs.Math.ListN.{set}
use Rattle.std.proofs.lemmas.List.Sums.{count_by-le-length, count_by_more_no, count_by_more_yes}
use Rattle.std.proofs.lemmas.List.{length-take-le}
use Rattle.std.proofs.lemmas.Slice.Eq.{bytes_eq-Decides}
use Rattle.sqlite_trees.proofs.ListLemmas.{all_weaker}
use Rattle.desk_model.specs.Desk.{has_lower_name}
use Rattle.desk_model.specs.Names.{text_order}
use Rattle.desk_model.specs.declared.rows.QueueRow.{QueueRow}
use Rattle.sorted_lists.proofs.Rising.{Climbs, climbs, orders_go_on}
use Rattle.report_core.proofs.Halves.{not_named_above, not_named_below}
use Rattle.find_core.specs.Conditions.{is_due}
use Rattle.find_core.specs.Loads.{LoadsRise, counted, counted_in, is_counted, load_of}
use Rattle.find_core.specs.Rows.{Dated}
use Rattle.find_core.specs.declared.loads.QueueLoad.{QueueLoad}

-- ---- the counts of a queue

abbrev one_if : Bool → ℕ
one_if b = cond b 1 0

more_by : (test : Dated → Bool) (rows : List Dated) (i : ℕ) (row : Dated) → i < length rows
    → row ≡ get_or rows i row
    → count_by test (take (i + 1) rows) ≡ count_by test (take i rows) + one_if (test row)
more_by test rows i row low is = by (test row) refl
  where
    by : (b : Bool) → test row ≡ b
        → count_by test (take (i + 1) rows) ≡ count_by test (take i rows) + one_if b
    by true e = count_by_more_yes test rows i row low (sym (ap test is) ∙ e)
    by false e = omega (arith, count_by_more_no test rows i row low (sym (ap test is) ∙ e))

abbrev as_load : QueueRow → ℕ → ℕ → QueueLoad
as_load queue all late = record { queue = queue; «open» = all; late = late }

smallest : (n : ℕ) → n + 1 < 2 ^ 32 → min (n + 1) (2 ^ 32 - 1) ≡ n + 1
smallest n low = omega arith

-- a load with one row more
counted_as : (queue : QueueRow) (all late : ℕ) (here is_late : Bool) → all + 1 < 2 ^ 32
    → late + 1 < 2 ^ 32
    → as_load queue (all + one_if here) (late + one_if (is_late && here))
    ≡ cond here (counted is_late (as_load queue all late)) (as_load queue all late)
counted_as queue all late true true few late_few =
    ap₂ (as_load queue) (sym (smallest all few)) (sym (smallest late late_few))
counted_as queue all late true false few late_few =
    ap₂ (as_load queue) (sym (smallest all few)) (omega arith)
counted_as queue all late false true few late_few =
    ap₂ (as_load queue) (omega arith) (omega arith)
counted_as queue all late false false few late_few =
    ap₂ (as_load queue) (omega arith) (omega arith)

few_of : (test : Dated → Bool) (rows : List Dated) (i : ℕ) → i ≤ length rows → i + 1 < 2 ^ 32
    → count_by test (take i rows) + 1 < 2 ^ 32
few_of test rows i low small =
    omega (arith, count_by-le-length test (take i rows), length-take-le i rows low)

one_more : (at : ℕ) (rows : List Dated) (i : ℕ) (row : Dated) → i < length rows
    → row ≡ get_or rows i row → i + 1 < 2 ^ 32 → (queue : QueueRow)
    → counted_in row.0.queue (is_due at true row.1) (load_of at (take i rows) queue)
    ≡ load_of at (take (i + 1) rows) queue
one_more at rows i row low is small queue =
    let all = is_counted at false queue.name in
    let late = is_counted at true queue.name in
    sym (ap₂ (as_load queue) (more_by all rows i row low is) (more_by late rows i row low is)
    ∙ counted_as queue (count_by all (take i rows)) (count_by late (take i rows))
    (bytes_eq row.0.queue queue.name) (is_due at true row.1)
    (few_of all rows i (omega arith) small) (few_of late rows i (omega arith) small))

-- what all have with one row more
pub loads_more : (at : ℕ) (rows : List Dated) (i : ℕ) (row : Dated) → i < length rows
    → row ≡ get_or rows i row → i + 1 < 2 ^ 32 → (queues : List QueueRow)
    → map (counted_in row.0.queue (is_due at true row.1)) (map (load_of at (take i rows)) queues)
    ≡ map (load_of at (take (i + 1) rows)) queues
loads_more at rows i row low is small [] = refl
loads_more at rows i row low is small (q ∷ qs) =
    ap₂ (λ (l : QueueLoad) (ls : List QueueLoad). l ∷ ls) (one_more at rows i row low is small q)
    (loads_more at rows i row low is small qs)

-- ---- the queue of a row, by halving

abbrev pub lower : QueueLoad → QueueLoad → Bool
lower a b = has_lower_name a.queue b.queue

abbrev pub is_before : List ℕ → QueueLoad → Bool
is_before name load = is_lt (text_order load.queue.name name)

pub goes_before : (name : List ℕ) (x y : QueueLoad) → lower x y ≡ true
    → is_before name y ≡ true → is_before name x ≡ true
goes_before name x y low before =
    orders_go_on nat_list_cmp_total x.queue.name y.queue.name name low before

pub loads_climb : (ls : List QueueLoad) → LoadsRise ls → Climbs lower ls
loads_climb ls rise =
    climbs lower ls
    (λ x y z one two. orders_go_on nat_list_cmp_total x.queue.name y.queue.name z.queue.name one two)
    rise

module _ (name : List ℕ) (is_late : Bool) where
  abbrev one : QueueLoad → QueueLoad
  one = counted_in name is_late

  abbrev Above : QueueLoad → Type 0
  Above l = is_lt (text_order name l.queue.name) ≡ true

  stays : (l : QueueLoad) → bytes_eq name l.queue.name ≡ false → one l ≡ l
  stays l other = ap (λ b. cond b (counted is_late l) l) other

  stays_before : (l : QueueLoad) → is_before name l ≡ true → one l ≡ l
  stays_before l before = stays l (not_named_above name l.queue.name before)

  all_stay : (ls : List QueueLoad) → AllByRecursion Above ls → map one ls ≡ ls
  all_stay [] above = refl
  all_stay (l ∷ ls) above =
      ap₂ (λ (x : QueueLoad) (xs : List QueueLoad). x ∷ xs)
      (stays l (not_named_below name l.queue.name above.0)) (all_stay ls above.1)

  -- the load of the queue is where it was found
  pub counted_there : (ls : List QueueLoad) (i : ℕ) (d : QueueLoad) → Climbs lower ls
      → AllWithin (λ l. is_before name l ≡ true) ls 0 i → i < length ls
      → bytes_eq name (get_or ls i d).queue.name ≡ true
      → set ls i (counted is_late (get_or ls i d)) ≡ map one ls
  counted_there [] i d climbs front low here = absurd (omega (arith, low))
  counted_there (l ∷ ls) zero d climbs front low here =
      let same : name ≡ l.queue.name = (bytes_eq-Decides name l.queue.name).0 here in
      ap₂ (λ (x : QueueLoad) (xs : List QueueLoad). x ∷ xs)
      (sym (ap (λ b. cond b (counted is_late l) l) here))
      (sym (all_stay ls (all_weaker (λ y. lower l y ≡ true) Above
      (λ y above. ap (λ n. is_lt (text_order n y.queue.name)) same ∙ above) ls climbs.0)))
  counted_there (l ∷ ls) (suc i) d climbs front low here =
      ap₂ (λ (x : QueueLoad) (xs : List QueueLoad). x ∷ xs)
      (sym (stays_before l (front 0 l (omega arith) (omega arith))))
      (counted_there ls i d climbs.1
      (λ k e from to. front (suc k) e (omega arith) (omega arith)) (omega (arith, low)) here)

  above_here : (l : QueueLoad) → is_before name l ≡ false → bytes_eq name l.queue.name ≡ false
      → Above l
  above_here l after other = by (text_order l.queue.name name) refl
    where
      by : (o : Ordering) → text_order l.queue.name name ≡ o → Above l
      by Less e = absurd (let no : true ≡ false = sym (ap is_lt e) ∙ after in cc)
      by Equal e =
          absurd (let no : true ≡ false = sym (texts_ties name l.queue.name
          ∙ ap is_eq (nat_list_cmp_total.antisymm name l.queue.name ∙ ap ordering_reverse e))
          ∙ other in cc)
      by Greater e =
          ap is_lt (nat_list_cmp_total.antisymm name l.queue.name ∙ ap ordering_reverse e)

  -- and where another stands there, none is of the queue
  pub none_there : (ls : List QueueLoad) (i : ℕ) → Climbs lower ls
      → AllWithin (λ l. is_before name l ≡ true) ls 0 i
      → AllWithin (λ l. is_before name l ≡ false) ls i (length ls)
      → ((d : QueueLoad) → i < length ls → bytes_eq name (get_or ls i d).queue.name ≡ false)
      → ls ≡ map one ls
  none_there [] i climbs front back other = refl
  none_there (l ∷ ls) zero climbs front back other =
      let above = above_here l (back 0 l (omega arith) (omega arith)) (other l (omega arith)) in
      ap₂ (λ (x : QueueLoad) (xs : List QueueLoad). x ∷ xs)
      (sym (stays l (other l (omega arith))))
      (sym (all_stay ls (all_weaker (λ y. lower l y ≡ true) Above
      (λ y low. orders_go_on nat_list_cmp_total name l.queue.name y.queue.name above low)
      ls climbs.0)))
  none_there (l ∷ ls) (suc i) climbs front back other =
      ap₂ (λ (x : QueueLoad) (xs : List QueueLoad). x ∷ xs)
      (sym (stays_before l (front 0 l (omega arith) (omega arith))))
      (none_there ls i climbs.1
      (λ k e from to. front (suc k) e (omega arith) (omega arith))
      (λ k e from to. back (suc k) e (omega arith) (omega arith))
      (λ d low. other d (omega (arith, low))))
