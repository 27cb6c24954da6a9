-- The first bad row of a table, by the rows that its statement shows.
use Rattle.std.proofs.Common.{◌≡◌, ℕ, List, [], ◌∷◌, None, Ok, Option, Some, inl, inr, map, refl}
use Rattle.std.proofs.Common.{IfOk, IsPermutation, Result, subst, sym, ◌∙◌, ap}
use Rattle.std.proofs.lemmas.Result.{IfOk-weaker}
use Rattle.sqlite.specs.Effect.{Database}
use Rattle.sqlite.specs.Listing.{understood}
use Rattle.sqlite.specs.Order.{Row}
use Rattle.sqlite.specs.State.{State, HasCleanDisk, Shown}
use Rattle.sqlite_rules.specs.Lists.{Has}
use Rattle.sqlite_rules.proofs.ProbeLemmas.{mapped_has}
use Rattle.sqlite_tied.specs.Compute.{everything}
use Rattle.store_tables.specs.Calls.{Leaves, LeavesTables}
use Rattle.store_tables.specs.Picked.{Picks, shows}
use Rattle.store_tables.specs.Query.{reads}
use Rattle.store_tables.specs.declared.fault.StoreFault.{StoreFault}
use Rattle.store_tables.proofs.Meaning.{SelectsIn}
use Rattle.store_tables.proofs.PickedLemmas.{picked_by}
use Rattle.store_tables.proofs.ReadLemmas.{has_permuted}
use Rattle.store_tables.proofs.ReadingLemmas.{every, table_rows}
use Rattle.store_tables.proofs.StandLemmas.{shown_open}
use Rattle.check_core.specs.BadRows.{AreRows, HasBad, HasTablesOf, IsBadOf, IsFirstRow}
use Rattle.check_core.specs.BadRows.{IsMisfit}
use Rattle.check_core.specs.Columns.{key_of, kinds_of, names_of, schema_of, shown_of}
use Rattle.check_core.specs.Columns.{statement_of, tables_of, tree_of}
use Rattle.check_core.specs.declared.columns.Kind.{Kind}
use Rattle.check_core.specs.declared.columns.Table.{Table}
use Rattle.check_core.specs.declared.columns.Table.TheVariants as table
use Rattle.check_core.specs.declared.columns.Version.{Version}
use Rattle.check_core.specs.declared.columns.Version.TheVariants as version
use Rattle.check_core.proofs.KindLemmas.{Fit, fit_all, fit_none, fit_of, shown, value_of}

-- version 1 has no stays
no_stays : Has (tables_of version.First) table.Stay → ⊥
no_stays (inl is) = cc
no_stays (inr (inl is)) = cc
no_stays (inr (inr (inl is))) = cc
no_stays (inr (inr (inr (inl is)))) = cc
no_stays (inr (inr (inr (inr (inl is))))) = cc
no_stays (inr (inr (inr (inr (inr none))))) = none

-- the present version has each table
pub present : (t : Table) → Has (tables_of version.Present) t
present table.Request = inl refl
present table.Queue = inr (inl refl)
present table.Stay = inr (inr (inl refl))
present table.Link = inr (inr (inr (inl refl)))
present table.Entry = inr (inr (inr (inr (inl refl))))
present table.Watcher = inr (inr (inr (inr (inr (inl refl)))))

-- what the statement of a table means over the tables of a version
abbrev Means : Version → Table → Type 0
Means v t =
    SelectsIn (schema_of v) (statement_of t) (reads (tree_of t) [] (shown_of t) (key_of t))
    (names_of t)

pub means : (v : Version) (t : Table) → Has (tables_of v) t → Means v t
unfolding understood everything
means version.Present table.Request has =
    record { is = refl; plain = (refl, refl); unlisted = refl; none = λ s n. refl }
means version.Present table.Queue has =
    record { is = refl; plain = (refl, refl); unlisted = refl; none = λ s n. refl }
means version.Present table.Stay has =
    record { is = refl; plain = (refl, refl); unlisted = refl; none = λ s n. refl }
means version.Present table.Link has =
    record { is = refl; plain = (refl, refl); unlisted = refl; none = λ s n. refl }
means version.Present table.Entry has =
    record { is = refl; plain = (refl, refl); unlisted = refl; none = λ s n. refl }
means version.Present table.Watcher has =
    record { is = refl; plain = (refl, refl); unlisted = refl; none = λ s n. refl }
means version.First table.Request has =
    record { is = refl; plain = (refl, refl); unlisted = refl; none = λ s n. refl }
means version.First table.Queue has =
    record { is = refl; plain = (refl, refl); unlisted = refl; none = λ s n. refl }
means version.First table.Stay has = absurd (no_stays has)
means version.First table.Link has =
    record { is = refl; plain = (refl, refl); unlisted = refl; none = λ s n. refl }
means version.First table.Entry has =
    record { is = refl; plain = (refl, refl); unlisted = refl; none = λ s n. refl }
means version.First table.Watcher has =
    record { is = refl; plain = (refl, refl); unlisted = refl; none = λ s n. refl }

-- ---- among rows

-- where none is the first, each is of its kinds
good_rows : (ks : List Kind) (rows : List Row) → IsFirstRow ks rows None → (r : Row) → Has rows r
    → Fit ks 0 r
good_rows ks [] h r has = absurd has
good_rows ks (row ∷ rows) (inl (at, is, rest)) r has = absurd (cc)
good_rows ks (row ∷ rows) (inr (good, rest)) r (inl same) =
    subst (Fit ks 0) (sym same) (fit_all ks 0 row good)
good_rows ks (row ∷ rows) (inr (good, rest)) r (inr has) = good_rows ks rows rest r has

-- the first is one of them, and has a value of another kind
bad_one : (ks : List Kind) (rows : List Row) (bad : Row × ℕ) → IsFirstRow ks rows (Some bad)
    → Has rows bad.0 × (Fit ks 0 bad.0 → ⊥)
bad_one ks [] bad h = absurd (cc)
bad_one ks (row ∷ rows) bad (inl (at, is, rest)) =
    let same : bad ≡ (row, at) = cc in (
      inl (ap (λ (b : Row × ℕ). b.0) same),
      λ fit. fit_none ks 0 row at (subst (λ (b : Row × ℕ). Fit ks 0 b.0) same fit) rest,
    )
bad_one ks (row ∷ rows) bad (inr (good, rest)) =
    let later = bad_one ks rows bad rest in (inr later.0, later.1)

-- ---- of a table

module _ (v : Version) (t : Table) (in_it : Has (tables_of v) t) {old new : State} {X : Type 0}
    (x : X) (rows : List Row) (leaves : Leaves old new (Ok x)) (there : HasTablesOf v old)
    (clean : HasCleanDisk new) (h : Shown (statement_of t) [] old new rows)
  where
    are_rows : AreRows t old.now rows
    are_rows = picked_by (statement_of t) [] old new
        (there (leaves.spares.clean clean) (shown_open (statement_of t) [] old new rows h)).0
        (tree_of t) [] (shown_of t) (key_of t) (means v t in_it) rows h

    -- what is shown of each row of the table is among them
    shown_has : (r : Row) → Has (old.now.trees (tree_of t)) r → Has rows (shown t r)
    shown_has r has =
        let within = has_permuted (old.now.trees (tree_of t)) are_rows.picked r
        (subst (λ (rs : List Row). IsPermutation rs are_rows.picked)
        (every (old.now.trees (tree_of t))) are_rows.same) has in
        subst (λ (rs : List Row). Has rs (shown t r)) (sym are_rows.shown)
        (mapped_has (shown t) are_rows.picked r within)

    none_bad : IsFirstRow (kinds_of t) rows None → ¬ HasBad t old.now
    none_bad first (r, has, not_value) =
        not_value (value_of t r (good_rows (kinds_of t) rows first (shown t r) (shown_has r has)))

    has_bad : (bad : Row × ℕ) → IsFirstRow (kinds_of t) rows (Some bad) → HasBad t old.now
    has_bad bad first =
        let it = bad_one (kinds_of t) rows bad first in
        let (open_, r, has, same) = table_rows (statement_of t) [] (tree_of t) [] (shown_of t)
        (key_of t) (means v t in_it) old new leaves.spares.clean
        (λ d o. (there d o).0) clean rows h bad.0 it.0 in
        (r, has, λ value. it.1 (subst (Fit (kinds_of t) 0) (sym same) (fit_of t r value)))

    first_of : (found : Option (Row × ℕ)) → IsFirstRow (kinds_of t) rows found
        → IsBadOf t found old.now
    first_of None first = none_bad first
    first_of (Some bad) first = (has_bad bad first, rows, are_rows, first)

    pub found_of : (found : Option (Row × ℕ)) → IsFirstRow (kinds_of t) rows found
        → IsBadOf t found old.now × (new.now ≡ old.now)
    found_of found first = (first_of found first, (leaves.same clean).0.now_is)
