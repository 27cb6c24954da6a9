-- The tables are made one after the other, from where they begin.
use Rattle.std.proofs.Common.{◌≡◌, ◌⊎◌, ◌<◌, ◌≤◌, ◌+◌, ◌∙◌, ap, inl, inr, List, sym, subst}
use Rattle.std.proofs.Common.{[], true, false, Bor, ℕ, arith, get_or, length, map, max, nat_lt}
use Rattle.std.proofs.Common.{suc, Ok, IsTrue}
use Rattle.std.proofs.Math.Nat.{max-eq_left, max-eq_right}
use Rattle.std.proofs.lemmas.List.{get_or-map, length-map}
use Rattle.std.proofs.lemmas.Bool.{cases_lt}
use Rattle.sqlite.specs.Change.{created, next_tree, KeepsRows}
use Rattle.sqlite.specs.Schema.{Schema}
use Rattle.sqlite.specs.Table.{Table}
use Rattle.sqlite.specs.Effect.{Database}
use Rattle.sqlite.specs.State.{State, HasCleanDisk}
use Rattle.store_tables.specs.Contents.{table_count, front, table_texts}
use Rattle.store_tables.specs.Calls.{StatementRuns}
use Rattle.store_tables.specs.Stands.{HasRun, filled, is_among}
use Rattle.store_core.specs.Migrating.{Grows}
use Rattle.sqlite_trees.proofs.ListLemmas.{all_both, all-append}
use Rattle.store_tables.proofs.CreateLemmas.{Puts, is_there, puts}
use Rattle.store_tables.proofs.Contents.{Makes, first_rows, made_at, text_at}

-- the first `made` tables are there: of these, the first `had` have their rows, the others none
abbrev pub IsMade : ℕ → ℕ → Database → Database → Type 0
IsMade had made old new =
    (new.schema ≡ front (max had made))
    × KeepsRows (front (max had made)).tables (filled had old).trees new.trees

none_made : (n : ℕ) → n ≤ table_count → (db : Database) → db.schema ≡ front n → IsMade n 0 db db
none_made n low db is = rw (max-eq_left {n = n} {m = 0} (omega arith)) (is, first_rows db n low)

module _ {at : ℕ} {text : List ℕ} {table : Table} (it : Makes at text table) (n : ℕ)
    (low : n ≤ table_count) (high : at < table_count) (old mid new : Database) (made : IsMade n at old mid)
    (puts : Puts table mid new)
  where
    abbrev tree : ℕ
    tree = next_tree (front at)

    there : is_there (front n) table.name ≡ nat_lt at n
    there = ap (λ bs. get_or bs 0 false) (it.found n low)

    among : is_among n tree ≡ nat_lt at n
    among = ap (λ bs. get_or bs 1 false) (it.found n low)

    -- it was there from the first
    was_made : at < n → IsMade n (suc at) old new
    was_made later =
        let now : max n at ≡ n = max-eq_left (omega (arith, later)) in
        let next : max n (suc at) ≡ n = max-eq_left (omega (arith, later)) in
        let before = rw now at made in
        elim puts [
          | inl idle ↦ rw (idle.1, next) before
          | inr adds ↦ absurd (let e = rw before.0 at adds.free in grind (arith, later, e, there))
        ]

    -- it is made now
    is_made : n ≤ at → IsMade n (suc at) old new
    is_made here =
        let next : max n (suc at) ≡ suc at = max-eq_right (omega (arith, here)) in
        let before = rw (max-eq_right here) at made in
        elim puts [
          | inl idle ↦
              let none = ap (λ bs. get_or bs 0 false) (it.found at (omega (arith, high))) in
              let some : nat_lt at at ≡ true = sym none ∙ rw before.0 at idle.0 in
              absurd (grind (arith, some))
          | inr adds ↦
              let F = (filled n old).trees in
              let schema : adds.made.schema ≡ front (suc at) =
              adds.schema ∙ ap (λ s. created s table) before.0 ∙ it.makes in
              let kept = all_both (λ (t : Table). mid.trees t.tree ≡ F t.tree)
              (λ (t : Table). adds.made.trees t.tree ≡ mid.trees t.tree)
              (λ (t : Table). adds.made.trees t.tree ≡ F t.tree) (λ t e k. k ∙ e)
              (front at).tables before.1 (rw before.0 at adds.others) in
              let missing : is_among n tree ≡ false = grind (arith, here, among) in
              let empty : adds.made.trees tree ≡ F tree = rw missing (rw before.0 at adds.empty) in
              let rows = subst (λ ts. KeepsRows ts F adds.made.trees)
              (ap (λ (s : Schema). s.tables) it.makes)
              (all-append (λ (t : Table). adds.made.trees t.tree ≡ F t.tree) (front at).tables _
              kept (empty, tt)) in
              rw (adds.last (rw schema it.unnumbered), next) (schema, rows)
        ]

    one_made : IsMade n (suc at) old new
    one_made = elim (cases_lt at n) [ inl later ↦ was_made later | inr here ↦ is_made here ]

-- the texts, where they are borrowed
module _ (texts : List (Bor (List ℕ))) (are : map (λ text. text.now) texts ≡ table_texts) where
  count_of : length texts ≡ table_count
  count_of = sym (length-map texts (λ text. text.now)) ∙ ap length are

  pub within : (i : ℕ) → i < length texts → i < table_count
  within i low = omega (arith, low, count_of)

  pub text_is : (i : ℕ) → i < length texts → (none : Bor (List ℕ))
      → (get_or texts i none).now ≡ text_at i
  text_is i low none =
      sym (get_or-map (λ (text : Bor (List ℕ)). text.now) texts i none [] low)
      ∙ ap (λ ts. get_or ts i []) are

-- ---- in a transaction

-- the first n statements have run
pub record Reached (i : ℕ) (old now : State) : Type 0 where
  pub live : IsTrue old.is_open × IsTrue now.is_open × (now.in_transaction ≡ true)
  pub made : (n : ℕ) → n ≤ table_count → old.now.schema ≡ front n → IsMade n i old.now now.now

-- or none has
abbrev pub Reaches : ℕ → State → State → Type 0
Reaches i old now =
    HasCleanDisk now
    → ((i ≡ 0) × (now.now ≡ old.now) × (now.is_open ≡ old.is_open)) ⊎ Reached i old now

made_from : (i : ℕ) (old mid : State) → IsTrue mid.is_open
    → ((i ≡ 0) × (mid.now ≡ old.now) × (mid.is_open ≡ old.is_open)) ⊎ Reached i old mid
    → IsTrue old.is_open
    × ((n : ℕ) → n ≤ table_count → old.now.schema ≡ front n → IsMade n i old.now mid.now)
made_from i old mid live (inl none) =
    (rw none.2 at live, λ n low is. rw (none.0, none.1) (none_made n low old.now is))
made_from i old mid live (inr some) = (some.live.0, some.made)

pub reaches_on : {X : Type 0} (i : ℕ) (old : State) {mid new : State} {sql : List ℕ} {x : X}
    {count : X → ℕ} → i < table_count → sql ≡ text_at i → Reaches i old mid
    → StatementRuns (λ y. HasRun sql [] mid new (count y)) mid new (Ok x) → Reaches (i + 1) old new
reaches_on i old {mid} {new} low is so_far runs clean =
    let ran = rw is at (runs.ran clean) in
    let from = made_from i old mid ran.shown.was_open (so_far (runs.clean clean)) in
    let it = made_at i low in
    let next : suc i ≡ i + 1 = omega arith in
    let reached : Reached (suc i) old new = record {
      live = (from.0, ran.shown.is_open, ran.shown.mode);
      made = λ n high is. one_made it.1 n high low old.now mid.now new.now (from.1 n high is)
          (puts it.1.defines ran);
    } in
    inr (rw next at reached)

pub grows_all : (texts : List (Bor (List ℕ))) → map (λ text. text.now) texts ≡ table_texts
    → (i : ℕ) (old new : State) → length texts ≤ i → i ≤ length texts → Reaches i old new
    → Grows old new
grows_all texts are i old new least most reaches clean =
    let all = count_of texts are in
    elim (reaches clean) [
      | inl none ↦ absurd (omega (arith, least, none.0, all))
      | inr it ↦ (
        it.live.0,
        it.live.2,
        λ n low is.
            let last : i ≡ table_count = omega (arith, least, most, all) in
            rw (last, max-eq_right low) at (it.made n low is),
      )
    ]
