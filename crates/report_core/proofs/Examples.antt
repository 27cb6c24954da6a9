-- Examples of the definitions: lines of those rows that a person may show, at the due moment and a
-- minute past it, rows out of order, and counts of owners.
use Rattle.std.specs.Prelude.{◌≡◌, refl, ℕ, true, false, List, [], ◌∷◌, codes, Option, Some, None}
use Rattle.settings_core.specs.Settings.{lifecycle_named}
use Rattle.settings_core.specs.declared.settings.Settings.{Settings}
use Rattle.desk_model.specs.Lifecycles.{is_inactive}
use Rattle.desk_model.specs.Told.{Told}
use Rattle.desk_model.specs.Watchers.{may_show_by, watcher}
use Rattle.desk_model.specs.declared.answer.LateLine.{LateLine}
use Rattle.desk_model.specs.declared.answer.Line.{Line}
use Rattle.desk_model.specs.declared.answer.Load.{Load}
use Rattle.desk_model.specs.declared.rows.QueueRow.{QueueRow}
use Rattle.desk_model.specs.declared.rows.RequestRow.{RequestRow}
use Rattle.desk_model.specs.declared.rows.Turn.TheVariants as turn
use Rattle.desk_model.specs.declared.rows.WatchRole.TheVariants.{Requestor}
use Rattle.desk_model.specs.declared.rows.Watcher.{Watcher}
use Rattle.report_core.specs.Rows.{QueuesRise, counted, entries_of, is_live, late_line_shown}
use Rattle.report_core.specs.Rows.{late_lines_shown, line_shown, lines_shown, load_in, loads_by}
use Rattle.report_core.specs.Rows.{named_only, no_counts, numbers_rise, queue_among, shown_by}
use Rattle.report_core.specs.declared.load.Counts.{Counts}

abbrev general : QueueRow
general = record { name = codes "general"; lifecycle = codes "default"; level = None }

abbrev sales : QueueRow
sales = record { name = codes "sales"; lifecycle = codes "default"; level = None }

abbrev row : ℕ → List ℕ → Option (List ℕ) → RequestRow
row id status owner =
    record {
      id = id;
      queue = codes "general";
      subject = codes "Printer";
      status = status;
      owner = owner;
      level = None;
      created = 100;
      opened = 100;
      turn = turn.Desk;
      since = 100;
    }

abbrev bob : Option (List ℕ)
bob = Some (codes "bob")

-- ann asks for the first and the third
abbrev rows : List (RequestRow × Option ℕ)
rows =
    (row 1 (codes "open") bob, Some 500) ∷ (row 2 (codes "open") None, Some 400)
    ∷ (row 3 (codes "resolved") bob, None) ∷ []

abbrev watches_of_ann : List Watcher
watches_of_ann = watcher 1 Requestor (codes "ann") ∷ watcher 3 Requestor (codes "ann") ∷ []

-- the order of rows

numbers_that_rise : numbers_rise 0 rows ≡ true
numbers_that_rise = refl

no_number_is_0 : numbers_rise 0 ((row 0 (codes "open") None, None) ∷ []) ≡ false
no_number_is_0 = refl

number_that_comes_twice :
    numbers_rise 0 ((row 1 (codes "open") None, None) ∷ (row 1 (codes "open") None, None) ∷ [])
    ≡ false
number_that_comes_twice = refl

numbers_that_fall :
    numbers_rise 0 ((row 2 (codes "open") None, None) ∷ (row 1 (codes "open") None, None) ∷ [])
    ≡ false
numbers_that_fall = refl

queues_that_rise : QueuesRise (general ∷ sales ∷ [])
queues_that_rise = refl

queue_by_its_name : queue_among (general ∷ sales ∷ []) (codes "sales") ≡ Some sales
queue_by_its_name = refl

no_queue_of_that_name : queue_among (general ∷ sales ∷ []) (codes "sale") ≡ None
no_queue_of_that_name = refl

queue_if_it_has_the_name : named_only (codes "sales") (Some sales) ≡ Some sales
queue_if_it_has_the_name = refl

queue_of_another_name : named_only (codes "sales") (Some general) ≡ None
queue_of_another_name = refl

-- lines

abbrev line_of_printer : Line
line_of_printer =
    record {
      id = 1;
      status = codes "open";
      owner = bob;
      due = Some 500;
      subject = codes "Printer";
    }

-- who may show the first and the third of the rows
pub record ShowsTwo (settings : Settings) : Type 0 where
  pub first : may_show_by settings (codes "ann") (row 1 (codes "open") bob) watches_of_ann ≡ true
  pub second : may_show_by settings (codes "ann") (row 2 (codes "open") None) watches_of_ann ≡ false
  pub third : may_show_by settings (codes "ann") (row 3 (codes "resolved") bob) watches_of_ann ≡ true

line_of_a_row_that_is_shown :
    (settings : Settings) → ShowsTwo settings
    → line_shown settings (codes "ann") watches_of_ann (row 1 (codes "open") bob, Some 500)
    ≡ Some line_of_printer
line_of_a_row_that_is_shown settings shows = rw shows.first refl

no_line_of_a_row_that_is_hidden :
    (settings : Settings) → ShowsTwo settings
    → line_shown settings (codes "ann") watches_of_ann (row 2 (codes "open") None, Some 400) ≡ None
no_line_of_a_row_that_is_hidden settings shows = rw shows.second refl

-- what is resolved is listed
lines_of_those_that_are_shown :
    (settings : Settings) → ShowsTwo settings
    → lines_shown settings (codes "ann") watches_of_ann rows
    ≡ line_of_printer ∷ record line_of_printer { id = 3; status = codes "resolved"; due = None } ∷ []
lines_of_those_that_are_shown settings shows = simp (shows.first, shows.second, shows.third)

rows_that_are_shown :
    (settings : Settings) → ShowsTwo settings
    → shown_by settings (codes "ann") watches_of_ann rows
    ≡ (row 1 (codes "open") bob, Some 500) ∷ (row 3 (codes "resolved") bob, None) ∷ []
rows_that_are_shown settings shows = simp (shows.first, shows.second, shows.third)

abbrev late : ℕ → Option (List ℕ) → ℕ → ℕ → LateLine
late id owner due minutes =
    record { id = id; queue = codes "general"; owner = owner; due = due; late = minutes }

not_late_at_its_due_moment :
    (settings : Settings) → ShowsTwo settings
    → late_line_shown 500 settings (codes "ann") watches_of_ann
    (row 1 (codes "open") bob, Some 500)
    ≡ None
not_late_at_its_due_moment settings shows = rw shows.first refl

late_a_minute_after_it :
    (settings : Settings) → ShowsTwo settings
    → late_line_shown 501 settings (codes "ann") watches_of_ann
    (row 1 (codes "open") bob, Some 500)
    ≡ Some (late 1 bob 500 1)
late_a_minute_after_it settings shows = rw shows.first refl

late_but_hidden :
    (settings : Settings) → ShowsTwo settings
    → late_line_shown 501 settings (codes "ann") watches_of_ann (row 2 (codes "open") None, Some 400)
    ≡ None
late_but_hidden settings shows = rw shows.second refl

late_lines_of_those_that_are_shown :
    (settings : Settings) → ShowsTwo settings
    → late_lines_shown 600 settings (codes "ann") watches_of_ann rows ≡ late 1 bob 500 100 ∷ []
late_lines_of_those_that_are_shown settings shows =
    simp (shows.first, shows.second, shows.third)

-- what each owner has

live_unless_inactive :
    (settings : Settings)
    → is_inactive (lifecycle_named settings (codes "default")) (codes "open") ≡ false
    → is_live settings (Some general) (row 1 (codes "open") bob) ≡ true
live_unless_inactive settings open_is = rw open_is refl

not_live_where_inactive :
    (settings : Settings)
    → is_inactive (lifecycle_named settings (codes "default")) (codes "resolved") ≡ true
    → is_live settings (Some general) (row 1 (codes "resolved") bob) ≡ false
not_live_where_inactive settings resolved_is = rw resolved_is refl

-- a status that no lifecycle says to be inactive
live_in_no_queue : (settings : Settings) → is_live settings None (row 1 (codes "resolved") bob) ≡ true
live_in_no_queue settings = refl

abbrev load : Option (List ℕ) → ℕ → ℕ → Load
load owner live overdue = record { owner = owner; live = live; overdue = overdue }

abbrev counts : ℕ → ℕ → Counts
counts live overdue = record { live = live; overdue = overdue }

-- nobody comes first; what is resolved doesn't count
loads_of_the_rows :
    (settings : Settings)
    → is_inactive (lifecycle_named settings (codes "default")) (codes "open") ≡ false
    → is_inactive (lifecycle_named settings (codes "default")) (codes "resolved") ≡ true
    → loads_by 500 settings (general ∷ []) rows ≡ load None 1 1 ∷ load bob 1 0 ∷ []
loads_of_the_rows settings open_is resolved_is = rw (open_is, resolved_is) refl

loads_a_minute_later :
    (settings : Settings)
    → is_inactive (lifecycle_named settings (codes "default")) (codes "open") ≡ false
    → is_inactive (lifecycle_named settings (codes "default")) (codes "resolved") ≡ true
    → loads_by 501 settings (general ∷ []) rows ≡ load None 1 1 ∷ load bob 1 1 ∷ []
loads_a_minute_later settings open_is resolved_is = rw (open_is, resolved_is) refl

abbrev told : ℕ → Option (List ℕ) → Option ℕ → Told
told id owner due = record { row = row id (codes "open") owner; due = due; is_live = true }

entries_of_two_owners :
    entries_of 501 (told 1 bob (Some 500) ∷ told 2 None None ∷ told 3 bob None ∷ [])
    ≡ (None, counts 1 0) ∷ (bob, counts 2 1) ∷ []
entries_of_two_owners = refl

entries_of_no_rows : entries_of 501 [] ≡ []
entries_of_no_rows = refl

load_of_an_entry : load_in (bob, counts 2 1) ≡ load bob 2 1
load_of_an_entry = refl

no_counts_yet : load_in (None, no_counts) ≡ load None 0 0
no_counts_yet = refl

one_late_request_more : counted true (counts 2 1) ≡ counts 3 2
one_late_request_more = refl

one_request_more : counted false (counts 2 1) ≡ counts 3 1
one_request_more = refl

counts_up_to_the_greatest :
    counted true (counts 4294967294 4294967294) ≡ counts 4294967295 4294967295
counts_up_to_the_greatest = refl

counts_stay_at_the_greatest :
    counted true (counts 4294967295 4294967295) ≡ counts 4294967295 4294967295
counts_stay_at_the_greatest = refl
