-- What is told of rows with the due moments of a desk is what is told of the desk.
use Rattle.std.proofs.Common.{◌≡◌, ◌∙◌, ℕ, ◌+◌, ◌==◌, true, false, cond, List, [], ◌∷◌, ◌++◌}
use Rattle.std.proofs.Common.{filter, flat_map, map, Option, Some, None, inl, inr, refl, ap, ap₂}
use Rattle.std.proofs.Common.{arith, subst, sym}
use Rattle.std.specs.Prelude.{filter_map, nat_lt, option_and_then}
use Rattle.std.specs.List.{cons_option}
use Rattle.std.specs.Cmp.Lexicographic.{texts_ties}
use Rattle.std.specs.Option.{option_map_or}
use Rattle.std.specs.Str.{bytes_eq}
use Rattle.std.proofs.lemmas.Bool.{and_from, and_parts, cases_Bool, eqb-true, lt-ltb}
use Rattle.settings_core.specs.declared.settings.Settings.{Settings}
use Rattle.desk_model.specs.Desk.{Desk, Request}
use Rattle.desk_model.specs.Facts.{seen_request}
use Rattle.desk_model.specs.IsDesk.{IsDesk, are_numbered}
use Rattle.desk_model.specs.Readings.Listing as listing
use Rattle.desk_model.specs.Readings.Overdue as overdue
use Rattle.desk_model.specs.Readings.Workload.{loads}
use Rattle.desk_model.specs.Rights.{may_show}
use Rattle.desk_model.specs.Told.{Told, told, told_on}
use Rattle.desk_model.specs.declared.answer.LateLine.{LateLine}
use Rattle.desk_model.specs.declared.answer.Line.{Line}
use Rattle.desk_model.specs.declared.answer.Load.{Load}
use Rattle.desk_model.specs.declared.rows.QueueRow.{QueueRow}
use Rattle.desk_model.specs.declared.rows.RequestRow.{RequestRow}
use Rattle.desk_model.specs.declared.rows.Watcher.{Watcher}
use Rattle.report_core.specs.Rows.{QueuesRise, RowsRise, WatchesRise, late_line_shown}
use Rattle.report_core.specs.Rows.{late_lines_shown, line_shown, line_with, lines_shown, loads_by}
use Rattle.report_core.specs.Rows.{numbers_rise, shown_by, told_among}
use Rattle.desk_texts.specs.Texts.Listed as listed
use Rattle.desk_texts.specs.Texts.Overdue as late
use Rattle.store_tables.specs.Contents.Request.{Dated, dated_by, is_filed_in}
use Rattle.store_core.specs.Due.{due_of_row}
use Rattle.store_core.specs.Rows.{AreDueBefore, AreFiledIn, dated_rows}
use Rattle.store_core.proofs.RiseLemmas.{dated_rise}
use Rattle.desk_reports.specs.Lines.{list_in}
use Rattle.desk_reports.specs.declared.lines.ListKind.TheVariants.{OfQueue, Overdue}
use Rattle.desk_reports.proofs.LateLemmas.{late_in_order}
use Rattle.desk_reports.proofs.Reported.{Alike, HaveDues, have_dues, shows_alike, watches_in_order}
use Rattle.desk_reports.proofs.Reported.{watches_on}

-- ---- rows with their due moments

module _ (s : Settings) (person : List ℕ) (desk : Desk) (watches : List Watcher) where
  abbrev due : RequestRow → Option ℕ
  due = due_of_row s desk

  abbrev pairs : List Request → List Dated
  pairs rs = map (dated_by due) (map (λ r. r.row) rs)

  abbrev shown : List Request → List Request
  shown rs = filter (λ r. may_show s person (seen_request r)) rs

  -- ---- the list of a queue

  abbrev filed : List ℕ → List Request → List RequestRow
  filed queue rs = filter (is_filed_in queue) (map (λ r. r.row) rs)

  filed_lines : (queue : List ℕ) (rs : List Request) → Alike s person watches rs
      → HaveDues s desk rs
      → lines_shown s person watches (map (dated_by due) (filed queue rs))
      ≡ listing.lines_of queue (map (told_on s desk) (shown rs))
  filed_lines queue [] alike dues = refl
  filed_lines queue (r ∷ rs) alike dues =
      let rest = filed_lines queue rs alike.1 dues.1 in
      let ties : is_filed_in queue r.row ≡ bytes_eq r.row.queue queue =
      sym (texts_ties r.row.queue queue) in
      let line : line_with r.row (due r.row) ≡ listing.line_of (told_on s desk r) =
      ap (line_with r.row) dues.0 in
      elim (cases_Bool (bytes_eq r.row.queue queue)) [
        | inl in_it ↦
            elim (cases_Bool (may_show s person (seen_request r))) [
              | inl shows ↦
                  rw (ties ∙ in_it, alike.0 ∙ shows, shows, in_it)
                  (ap₂ (λ (l : Line) (ls : List Line). l ∷ ls) line rest)
              | inr hides ↦ rw (ties ∙ in_it, alike.0 ∙ hides, hides) rest
            ]
        | inr other ↦
            elim (cases_Bool (may_show s person (seen_request r))) [
              | inl shows ↦ rw (ties ∙ other, shows, other) rest
              | inr hides ↦ rw (ties ∙ other, hides) rest
            ]
      ]

  -- ---- what is late

  late_lines : (at : ℕ) (rs : List Request) → Alike s person watches rs → HaveDues s desk rs
      → late_lines_shown at s person watches (pairs rs)
      ≡ filter_map (overdue.late_line at) (map (told_on s desk) (shown rs))
  late_lines at [] alike dues = refl
  late_lines at (r ∷ rs) alike dues =
      let rest = late_lines at rs alike.1 dues.1 in
      let line : Option LateLine = overdue.late_line at (told_on s desk r) in
      let others : List LateLine = late_lines_shown at s person watches (pairs rs) in
      ap₂ (λ b o. cons_option (cond b (option_and_then (overdue.line_if_late at r.row) o) None)
      others) alike.0 dues.0
      ∙ elim (may_show s person (seen_request r)) as (λ b. cons_option (cond b line None) others
      ≡ filter_map (overdue.late_line at)
      (map (told_on s desk) (cond b (r ∷ shown rs) (shown rs)))) [
        | true ↦ ap (cons_option line) rest
        | false ↦ rest
      ]

  -- ---- what each owner has

  rows_told : (rs : List Request) → Alike s person watches rs → HaveDues s desk rs
      → map (told_among s desk.queues) (shown_by s person watches (pairs rs))
      ≡ map (told_on s desk) (shown rs)
  rows_told [] alike dues = refl
  rows_told (r ∷ rs) alike dues =
      let rest = rows_told rs alike.1 dues.1 in
      let others : List Dated = shown_by s person watches (pairs rs) in
      ap (λ b. map (told_among s desk.queues) (cond b ((r.row, due r.row) ∷ others) others)) alike.0
      ∙ elim (may_show s person (seen_request r)) as (λ b.
      map (told_among s desk.queues) (cond b ((r.row, due r.row) ∷ others) others)
      ≡ map (told_on s desk) (cond b (r ∷ shown rs) (shown rs))) [
        | true ↦
            ap₂ (λ (o : Option ℕ) (ts : List Told). record (told_on s desk r) { due = o } ∷ ts)
            dues.0 rest
        | false ↦ rest
      ]

-- ---- of a desk

pub filed_told : (s : Settings) (person queue : List ℕ) (desk : Desk) → IsDesk desk
    → (rows : List Dated) → AreFiledIn queue (due_of_row s desk) desk rows
    → lines_shown s person (watches_on desk person) rows
    ≡ listing.lines_of queue (told s person desk)
filed_told s person queue desk is rows filed =
    let W = watches_on desk person in
    ap (lines_shown s person W) filed
    ∙ filed_lines s person desk W queue desk.requests (shows_alike s person desk is)
    (have_dues s desk is)

pub late_told : (at : ℕ) (s : Settings) (person : List ℕ) (desk : Desk) → IsDesk desk
    → (rows : List Dated) → AreDueBefore at (due_of_row s desk) desk rows
    → late_lines_shown at s person (watches_on desk person) rows
    ≡ overdue.lines_of at (told s person desk)
late_told at s person desk is rows ordered =
    let W = watches_on desk person in
    late_in_order at s person W (dated_rows (due_of_row s desk) desk) rows
    (dated_rise (due_of_row s desk) desk is) ordered
    ∙ ap overdue.in_due_order
    (late_lines s person desk W at desk.requests (shows_alike s person desk is)
    (have_dues s desk is))

-- ---- what is made of lists that are the desk's

pub list_of : (s : Settings) (person queue : List ℕ) (desk : Desk) → IsDesk desk
    → (watches : List Watcher) (rows : List Dated) (lines : List Line)
    → watches ≡ watches_on desk person → AreFiledIn queue (due_of_row s desk) desk rows
    → (WatchesRise watches → lines ≡ lines_shown s person watches rows)
    → lines ≡ listing.lines_of queue (told s person desk)
list_of s person queue desk is watches rows lines own filed made =
    let one = subst (λ (ws : List Watcher). WatchesRise ws
    → lines ≡ lines_shown s person ws rows) own made in
    one (watches_in_order person desk is) ∙ filed_told s person queue desk is rows filed

-- the rows of numbered requests are in the order of their numbers
rows_rise : (due : RequestRow → Option ℕ) (n : ℕ) (rs : List Request)
    → are_numbered (n + 1) (map (λ r. r.row.id) rs) ≡ true
    → numbers_rise n (map (dated_by due) (map (λ r. r.row) rs)) ≡ true
rows_rise due n [] numbered = refl
rows_rise due n (r ∷ rs) numbered =
    let parts = and_parts (r.row.id == n + 1) (are_numbered (n + 1 + 1) (map (λ x. x.row.id) rs))
    numbered in
    let rows : List Dated = map (dated_by due) (map (λ x. x.row) rs) in
    let next : r.row.id ≡ n + 1 = eqb-true r.row.id (n + 1) parts.0 in
    and_from (nat_lt n r.row.id) (numbers_rise r.row.id rows)
    (lt-ltb n r.row.id (omega (arith, next)))
    (ap (λ m. numbers_rise m rows) next ∙ rows_rise due (n + 1) rs parts.1)

-- the lists that the workload is told of
pub record AreOf (s : Settings) (desk : Desk) (person : List ℕ) (watches : List Watcher)
    (queues : List QueueRow) (rows : List Dated) : Type 0 where
  pub own : watches ≡ watches_on desk person
  pub all_queues : queues ≡ desk.queues
  pub all_rows : rows ≡ dated_rows (due_of_row s desk) desk

pub loads_of : (at : ℕ) (s : Settings) (person : List ℕ) (desk : Desk) → IsDesk desk
    → (watches : List Watcher) (queues : List QueueRow) (rows : List Dated)
    (given : List Load) → AreOf s desk person watches queues rows
    → (WatchesRise watches → QueuesRise queues → RowsRise rows
    → given ≡ loads_by at s queues (shown_by s person watches rows))
    → given ≡ loads at (filter (λ t. t.is_live) (told s person desk))
loads_of at s person desk is watches queues rows given same made =
    let W = watches_on desk person in
    let due = due_of_row s desk in
    let one = subst (λ (ws : List Watcher). WatchesRise ws → QueuesRise queues → RowsRise rows
    → given ≡ loads_by at s queues (shown_by s person ws rows)) same.own made in
    let two = subst (λ (qs : List QueueRow). WatchesRise W → QueuesRise qs → RowsRise rows
    → given ≡ loads_by at s qs (shown_by s person W rows)) same.all_queues one in
    let three = subst (λ (ds : List Dated). WatchesRise W → QueuesRise desk.queues → RowsRise ds
    → given ≡ loads_by at s desk.queues (shown_by s person W ds)) same.all_rows two in
    three (watches_in_order person desk is) is.queues (rows_rise due 0 desk.requests is.requests)
    ∙ ap (λ ts. loads at (filter (λ t. t.is_live) ts))
    (rows_told s person desk W desk.requests (shows_alike s person desk is)
    (have_dues s desk is))

pub late_of : (at : ℕ) (s : Settings) (person : List ℕ) (desk : Desk) → IsDesk desk
    → (watches : List Watcher) (rows : List Dated) (lines : List LateLine)
    → watches ≡ watches_on desk person → AreDueBefore at (due_of_row s desk) desk rows
    → (WatchesRise watches → lines ≡ late_lines_shown at s person watches rows)
    → lines ≡ overdue.lines_of at (told s person desk)
late_of at s person desk is watches rows lines own ordered made =
    let one = subst (λ (ws : List Watcher). WatchesRise ws
    → lines ≡ late_lines_shown at s person ws rows) own made in
    one (watches_in_order person desk is) ∙ late_told at s person desk is rows ordered

-- ---- the texts

module _ {X Y : Type 0} (f : X → Option Y) (text : Y → List ℕ) where
  texts_made : (xs : List X)
      → flat_map (λ x. option_map_or text (f x) []) xs ≡ flat_map text (filter_map f xs)
  texts_made [] = refl
  texts_made (x ∷ xs) = by (f x) (texts_made xs)
    where
      by : (o : Option Y)
          → flat_map (λ x. option_map_or text (f x) []) xs ≡ flat_map text (filter_map f xs)
          → option_map_or text o [] ++ flat_map (λ x. option_map_or text (f x) []) xs
          ≡ flat_map text (cons_option o (filter_map f xs))
      by None rest = rest
      by (Some y) rest = ap (λ (t : List ℕ). text y ++ t) rest

pub listed_text : (s : Settings) (person queue : List ℕ) (desk : Desk) → IsDesk desk
    → (watches : List Watcher) (rows : List Dated)
    → watches ≡ watches_on desk person → AreFiledIn queue (due_of_row s desk) desk rows
    → list_in OfQueue s person watches rows
    ≡ listed.list_text (listing.lines_of queue (told s person desk))
listed_text s person queue desk is watches rows own filed =
    ap (λ ws. list_in OfQueue s person ws rows) own
    ∙ ap (λ (t : List ℕ). listed.header ++ t)
    (texts_made (line_shown s person (watches_on desk person)) listed.line_of_request rows)
    ∙ ap listed.list_text (filed_told s person queue desk is rows filed)

pub overdue_text : (at : ℕ) (s : Settings) (person : List ℕ) (desk : Desk) → IsDesk desk
    → (watches : List Watcher) (rows : List Dated)
    → watches ≡ watches_on desk person → AreDueBefore at (due_of_row s desk) desk rows
    → list_in (Overdue at) s person watches rows
    ≡ late.overdue_text (overdue.lines_of at (told s person desk))
overdue_text at s person desk is watches rows own ordered =
    ap (λ ws. list_in (Overdue at) s person ws rows) own
    ∙ ap (λ (t : List ℕ). late.header ++ t)
    (texts_made (late_line_shown at s person (watches_on desk person)) late.line_of_request rows)
    ∙ ap late.overdue_text (late_told at s person desk is rows ordered)
