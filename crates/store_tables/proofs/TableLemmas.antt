-- What INSERT, UPDATE and DELETE of one row make of the contents, of any table.
use Rattle.std.proofs.Common.{filter, arith, Option, false, subst, IsPermutation, ◌≡◌, inl, inr}
use Rattle.std.proofs.Common.{Bool, true, drop, List, ◌∷◌, sym, map, ℕ, [], ℤ, ap, ◌∙◌, not}
use Rattle.sqlite_rules.proofs.ListLemmas.{has_filtered}
use Rattle.sqlite.specs.declared.types.Value.TheVariants.{Int}
use Rattle.sqlite.specs.Order.{Row}
use Rattle.sqlite.specs.Values.{or_null}
use Rattle.sqlite.specs.Tree.{rowid, without_rowid}
use Rattle.sqlite.specs.Edit.{id_in}
use Rattle.sqlite.specs.Term.{Term}
use Rattle.sqlite.specs.Cast.{cast, cast_row}
use Rattle.sqlite.specs.Kind.TheVariants.{Integer}
use Rattle.sqlite.specs.Effect.{Database}
use Rattle.sqlite.specs.Table.{Table}
use Rattle.store_tables.specs.Values.{count_value}
use Rattle.store_tables.specs.Kept.{Holds}
use Rattle.store_tables.specs.Picked.{passes, shows}
use Rattle.store_tables.specs.Contents.{Contents, Tables}
use Rattle.store_tables.proofs.DueLemmas.{AreEach, each_moved, one_moved, passes_one}
use Rattle.store_tables.proofs.KeptLemmas.{inserted, removed, reordered, spells}
use Rattle.store_tables.proofs.ReadLemmas.{one_held}
use Rattle.store_tables.proofs.Contents.{Changed, Kept, tables_now}
use Rattle.store_tables.proofs.ChangeLemmas.{Added, Drops, Moves, cast_null, cast_int, Sets}
use Rattle.store_tables.proofs.RowLemmas.{TableOf}

also : {X : Type 0} (P : X → Type 0) (x : X) (xs : List X) → P x → AreEach P xs → AreEach P (x ∷ xs)
also P x xs one others y (inl same) = subst P (sym same) one
also P x xs one others y (inr later) = others y later

-- what a test leaves
abbrev pub rest : {K V : Type 0} → TableOf K V → (V → Bool) → Contents → List V
rest n p d = filter (λ x. not (p x)) (n.list d)

valid_rest : {K V : Type 0} (n : TableOf K V) (p : V → Bool) {d : Contents} {db : Database}
    → Tables d db → AreEach (λ x. n.IsValue (n.view x)) (rest n p d)
valid_rest n p {d} {db} t x has =
    n.valid d db t x (has_filtered (λ y. not (p y)) (n.list d) x has).0

module _ {K V : Type 0} (n : TableOf K V) {d : Contents} {old : Database} (t : Tables d old)
    (c : Contents)
  where
    -- what is put in has a row of its own
    pub puts : {new : Database} (k : K) → n.IsValue (n.view (n.value k))
        → Added n.tree (n.row k) old new
        → (Kept n (n.value k ∷ n.list d) new → Changed n.tree c d old new) → Tables c new
    puts {new} k row it now =
        let rows = subst (Holds n.row n.value (n.value k ∷ n.list d)) (sym it.rows)
        (inserted (n.kept d old t) k it.free) in
        let each = also (λ x. n.IsValue (n.view x)) (n.value k) (n.list d) row (n.valid d old t) in
        tables_now n.tree c d old new t it.schema it.others (now (rows, each))

    module _ (test project : List Term) (params : Row) (p : V → Bool) (id : K → ℤ)
        (numbers : (k : K) → rowid (n.row k) ≡ Int (id k))
        (shown : (k : K) → id_in (rowid (shows project params (n.row k))) ≡ id k)
        (tests : (k : K) → passes test params (n.row k) ≡ p (n.value k))
      where
        -- the one row that passes, and what is left without it
        left : (it : Row) → filter (passes test params) (old.trees n.tree) ≡ it ∷ []
            → (k : K) × (it ≡ n.row k) × (filter p (n.list d) ≡ n.value k ∷ [])
            × (id_in (rowid (shows project params it)) ≡ id k)
            × Holds n.row n.value (rest n p d) (without_rowid (id k) (old.trees n.tree))
        left it one =
            let k = one_held (spells (n.kept d old t)) (passes test params) p tests it one in
            let shows_id = ap (λ row. id_in (rowid (shows project params row))) k.1 ∙ shown k.0 in (
              k.0,
              k.1,
              k.2,
              shows_id,
              removed (n.kept d old t) (passes test params) p tests (id k.0)
                  it (ap rowid k.1 ∙ numbers k.0) one,
            )

        -- what passes is taken out
        pub takes : {new : Database} → Drops n.tree test project params old new
            → (Kept n (rest n p d) new → Changed n.tree c d old new) → Tables c new
        takes {new} it now =
            let k = left it.it it.one in
            let rows = subst (Holds n.row n.value (rest n p d))
            (sym (it.rows ∙ ap (λ i. without_rowid i (old.trees n.tree)) k.3)) k.4 in
            tables_now n.tree c d old new t it.schema it.others (now (rows, valid_rest n p t))

        module _ {new : Database} (table : Table) (next : K → K)
            (to : (k : K) → p (n.value k) ≡ true
            → cast_row table (drop 1 (shows project params (n.row k))) ≡ n.row (next k))
            (s : Sets n.tree test project params table old new)
          where
            -- the one that passes gives way to the next
            gives : (k : K) × (filter p (n.list d) ≡ n.value k ∷ [])
                × Moves n.tree old.trees new.trees
                × Holds n.row n.value (n.value (next k) ∷ rest n p d) (new.trees n.tree)
            gives =
                let k = left s.it s.one in
                let to = s.goes (id k.0) (n.row (next k.0)) k.3
                (ap (λ row. cast_row table (drop 1 (shows project params row))) k.1
                ∙ to k.0 (passes_one p (n.list d) (n.value k.0) k.2)) in
                (k.0, k.2, to.others, rw (← to.rows) at (inserted k.4 (next k.0) to.free))

            pub gives_way : ((k : K) → n.IsValue (n.view (n.value (next k))))
                → ((k : K) → Kept n (n.value (next k) ∷ rest n p d) new
                → Changed n.tree c d old new) → Tables c new
            gives_way row now =
                let k = gives in
                let each = also (λ x. n.IsValue (n.view x)) (n.value (next k.0)) (rest n p d)
                (row k.0) (valid_rest n p t) in
                tables_now n.tree c d old new t s.schema k.2 (now k.0 (k.3, each))

            -- in its place
            pub changes : (goes : V → V) → ((x : V) → p x ≡ false → goes x ≡ x)
                → ((k : K) → p (n.value k) ≡ true → goes (n.value k) ≡ n.value (next k))
                → ((x : V) → n.IsValue (n.view x) → n.IsValue (n.view (goes x)))
                → (Kept n (map goes (n.list d)) new → Changed n.tree c d old new) → Tables c new
            changes goes stays goes_to valid now =
                let k = gives in
                let same = goes_to k.0 (passes_one p (n.list d) (n.value k.0) k.1) in
                let rows = reordered k.3
                (subst (λ x. IsPermutation (x ∷ rest n p d) (map goes (n.list d))) same
                (one_moved goes p stays (n.list d) (n.value k.0) k.1)) in
                let each = each_moved goes (λ x. n.IsValue (n.view x)) valid _ (n.valid d old t) in
                tables_now n.tree c d old new t s.schema k.2 (now (rows, each))

pub cast_moment : (m : Option ℕ) → cast Integer (or_null count_value m) ≡ or_null count_value m
cast_moment m = grind (arith, cast_null, cast_int)
