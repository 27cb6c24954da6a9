-- A search goes over a list from its front: the first of what is left is the first of all.
use Rattle.std.proofs.Common.{◌≡◌, ◌<◌, ◌≤◌, ◌+◌, ◌∙◌, ℕ, List, [], ◌∷◌, None, Option, Some, ap, drop}
use Rattle.std.proofs.Common.{get_or, inl, inr, length, refl, subst, sym}
use Rattle.std.proofs.lemmas.List.{drop_all, drop_more, get_or_default}
use Rattle.sqlite.specs.Order.{Row, column}
use Rattle.sqlite.specs.State.{State, HasCleanDisk}
use Rattle.sqlite.specs.Effect.{Database}
use Rattle.sqlite_rules.specs.Lists.{Has}
use Rattle.sqlite_rules.proofs.ListLemmas.{has_at}
use Rattle.store_tables.specs.Calls.{LeavesTables}
use Rattle.store_tables.proofs.Spared.{joined, left_both, unread}
use Rattle.check_core.specs.BadRows.{HasTablesOf, IsBadOf, IsFirst, IsFirstRow, IsMisfit}
use Rattle.check_core.specs.Columns.{IsOf, schema_of, tables_of}
use Rattle.check_core.specs.declared.columns.Kind.{Kind}
use Rattle.check_core.specs.declared.columns.Table.{Table}
use Rattle.check_core.specs.declared.columns.Version.{Version}

pub rest_of : {X : Type 0} (xs : List X) (i : ℕ) (x : X) → i < length xs → x ≡ get_or xs i x
    → x ∷ drop (i + 1) xs ≡ drop i xs
rest_of xs i x low is =
    sym (drop_more xs i x low ∙ ap (λ y. y ∷ drop (i + 1) xs) (sym is))

-- the same where another value stands for what isn't there
here_of : {X : Type 0} (xs : List X) (i : ℕ) (other : X) → i < length xs
    → get_or xs i other ∷ drop (i + 1) xs ≡ drop i xs
here_of xs i other low = sym (drop_more xs i other low)

-- ---- the columns of a row

abbrev pub KindsLeft : List Kind → Row → ℕ → Type 0
KindsLeft ks row i = (found : Option ℕ) → IsMisfit (drop i ks) i row found → IsMisfit ks 0 row found

module _ (ks : List Kind) (row : Row) (i : ℕ) (left : KindsLeft ks row i) where
  pub no_kind : length ks ≤ i → IsMisfit ks 0 row None
  no_kind past =
      left None (subst (λ (us : List Kind). IsMisfit us i row None) (sym (drop_all i ks past)) refl)

  pub next_kind : (other : Kind) → i < length ks → IsOf (get_or ks i other) (column row i)
      → KindsLeft ks row (i + 1)
  next_kind other low same found rest =
      left found (subst (λ (us : List Kind). IsMisfit us i row found) (here_of ks i other low)
      (inr (same, rest)))

-- ---- the rows of a table

abbrev pub RowsLeft : List Kind → List Row → ℕ → Type 0
RowsLeft ks rows i =
    (found : Option (Row × ℕ)) → IsFirstRow ks (drop i rows) found → IsFirstRow ks rows found

module _ (ks : List Kind) (rows : List Row) (i : ℕ) (left : RowsLeft ks rows i) where
  pub no_row : length rows ≤ i → IsFirstRow ks rows None
  no_row past =
      left None (subst (λ (us : List Row). IsFirstRow ks us None) (sym (drop_all i rows past)) refl)

  module _ (row : Row) (low : i < length rows) (is : row ≡ get_or rows i row) where
    pub first_row : (at : ℕ) → IsMisfit ks 0 row (Some at) → IsFirstRow ks rows (Some (row, at))
    first_row at other =
        left (Some (row, at)) (subst (λ (us : List Row). IsFirstRow ks us (Some (row, at)))
        (rest_of rows i row low is) (inl (at, refl, other)))

    pub next_row : IsMisfit ks 0 row None → RowsLeft ks rows (i + 1)
    next_row good found rest =
        left found (subst (λ (us : List Row). IsFirstRow ks us found) (rest_of rows i row low is)
        (inr (good, rest)))

-- ---- the tables of a version, which stay as they are

-- they are there still
still_has : (v : Version) {a b : State} → LeavesTables a b → HasTablesOf v a → HasTablesOf v b
still_has v {a} {b} kept there =
    left_both (λ (d : Database). d.schema ≡ schema_of v) a b kept.clean kept.left there

abbrev pub TablesLeft : Version → ℕ → State → State → Type 0
TablesLeft v i old now =
    LeavesTables old now
    × (HasTablesOf v old → HasCleanDisk now → (now.now ≡ old.now)
    × ((found : Option (Table × (Row × ℕ))) → IsFirst (drop i (tables_of v)) found old.now
    → IsFirst (tables_of v) found old.now))

pub all_left : (v : Version) (s : State) → TablesLeft v 0 s s
all_left v s = (unread s, λ there clean. (refl, λ found first. first))

module _ (v : Version) (i : ℕ) {old mid : State} (left : TablesLeft v i old mid) where
  abbrev ts : List Table
  ts = tables_of v

  pub no_table : length ts ≤ i → HasTablesOf v old → HasCleanDisk mid
      → IsFirst ts None old.now × (mid.now ≡ old.now)
  no_table past there clean =
      let so = left.1 there clean in (
        so.1 None (subst (λ (us : List Table). IsFirst us None old.now)
            (sym (drop_all i ts past)) refl),
        so.0,
      )

  module _ (other : Table) (low : i < length ts) {new : State} (kept : LeavesTables mid new) where
    abbrev t : Table
    t = get_or ts i other

    abbrev BadIn : Option (Row × ℕ) → Type 0
    BadIn found =
        (w : Version) → Has (tables_of w) t → HasTablesOf w mid → HasCleanDisk new
        → IsBadOf t found mid.now × (new.now ≡ mid.now)

    in_it : Has ts t
    in_it = has_at ts i t low (get_or_default ts i other t low)

    pub first_table : (bad : Row × ℕ) → BadIn (Some bad) → HasTablesOf v old → HasCleanDisk new
        → IsFirst ts (Some (t, bad)) old.now × (new.now ≡ old.now)
    first_table bad has there clean =
        let so = left.1 there (kept.clean clean) in
        let it = has v in_it (still_has v left.0 there) clean in (
          so.1 (Some (t, bad)) (subst (λ (us : List Table). IsFirst us (Some (t, bad)) old.now)
              (here_of ts i other low) (inl (bad, refl, subst (IsBadOf t (Some bad)) so.0 it.0))),
          it.1 ∙ so.0,
        )

    pub next_table : BadIn None → TablesLeft v (i + 1) old new
    next_table none = (
      joined left.0 kept,
      λ there clean.
          let so = left.1 there (kept.clean clean) in
          let it = none v in_it (still_has v left.0 there) clean in (
            it.1 ∙ so.0,
            λ found rest. so.1 found (subst (λ (us : List Table). IsFirst us found old.now)
                (here_of ts i other low) (inr (subst (IsBadOf t None) so.0 it.0, rest))),
          ),
    )
