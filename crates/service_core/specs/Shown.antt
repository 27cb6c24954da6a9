-- What is read of the tables, as it is answered.
use Rattle.std.specs.Prelude.{◌≡◌, ℕ, Bool, not, ◌||◌, List, Option, IfSome, filter, map}
use Rattle.std.specs.Prelude.{option_and_then}
use Rattle.std.specs.BTreeMap.{BTreeMap, get}
use Rattle.std.specs.Ordering.{nat_cmp}
use Rattle.settings_core.specs.declared.settings.Settings.{Settings}
use Rattle.desk_model.specs.declared.answer.Links.{Links}
use Rattle.desk_model.specs.declared.answer.Shown.{Shown}
use Rattle.desk_model.specs.declared.facts.Facts.{Facts}
use Rattle.desk_model.specs.declared.facts.SeenRequest.{SeenRequest}
use Rattle.desk_model.specs.declared.rows.Entry.{Entry}
use Rattle.desk_model.specs.declared.rows.LinkKind.{LinkKind}
use Rattle.desk_model.specs.declared.rows.LinkRow.{LinkRow}
use Rattle.desk_model.specs.Desk.{Desk}
use Rattle.desk_model.specs.Due.{due_of}
use Rattle.desk_model.specs.Links.{is_kind}
use Rattle.desk_model.specs.Readings.History.{is_comment}
use Rattle.desk_model.specs.Readings.Show.{links_of}
use Rattle.desk_model.specs.Rights.{is_shown}
use Rattle.desk_model.specs.Rights.{may_show_comments}
use Rattle.store_tables.specs.Contents.{history_at}
use Rattle.service_core.specs.declared.links.End.{End}
use Rattle.service_core.specs.declared.links.End.TheVariants.{Source, Target}

-- the number at that end of a link
abbrev pub number_at : End → LinkRow → ℕ
number_at Source link = link.source
number_at Target link = link.target

-- the request at that end of the link is there, and the caller may show it
abbrev pub is_shown_at : Settings → List ℕ → Desk → End → LinkRow → Bool
is_shown_at settings caller desk end link = is_shown settings caller desk (number_at end link)

-- what was answered of the requests with these numbers: whether the caller may show each
abbrev pub AreAnswers : Settings → List ℕ → Desk → BTreeMap ℕ Bool → Type 0
AreAnswers settings caller desk asked =
    (number : ℕ) → IfSome (get nat_cmp asked number)
    (λ shown. shown ≡ is_shown settings caller desk number)

-- the numbers at that end of the links of a kind
abbrev pub numbers_at : End → LinkKind → List LinkRow → List ℕ
numbers_at end kind links = map (number_at end) (filter (λ l. is_kind kind l.kind) links)

-- the six lists of numbers, of the links that lead from a request and of those that lead to it
abbrev pub links_by : List LinkRow → List LinkRow → Links
links_by from to =
    record {
      depends_on = numbers_at Target LinkKind.DependsOn from;
      depended_on_by = numbers_at Source LinkKind.DependsOn to;
      member_of = numbers_at Target LinkKind.MemberOf from;
      has_member = numbers_at Source LinkKind.MemberOf to;
      refers_to = numbers_at Target LinkKind.RefersTo from;
      referred_to_by = numbers_at Source LinkKind.RefersTo to;
    }

-- when the request that a command sees is due, if it and its queue are there
abbrev pub due_in : Settings → Facts → Option ℕ
due_in settings facts =
    option_and_then (λ queue. option_and_then
    (λ request. due_of settings queue facts.stays request.row) facts.request)
    facts.queue

-- a request with this due moment and these links
abbrev pub shown_with : SeenRequest → Option ℕ → Links → Shown
shown_with request due links =
    record {
      row = request.row;
      requestors = request.requestors;
      cc = request.cc;
      admin_cc = request.admin_cc;
      due = due;
      links = links;
    }

-- a request with this due moment, as it is shown
abbrev pub shown_to : Settings → List ℕ → Option ℕ → SeenRequest → Desk → Shown
shown_to settings caller due request desk =
    shown_with request due (links_of settings caller desk request.row.id)

-- whether an entry is told: a comment only where comments may be shown
abbrev pub is_told : Bool → Entry → Bool
is_told comments entry = not (is_comment entry.kind) || comments

-- the history of a request, as far as it is told
abbrev pub told_to : Settings → List ℕ → SeenRequest → Desk → List Entry
told_to settings caller request desk =
    filter (is_told (may_show_comments settings caller request)) (history_at desk request.row.id)
