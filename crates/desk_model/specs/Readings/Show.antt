-- Shows a request: its row, its people, when it is due, and its links with requests that the caller
-- may show.
use Rattle.std.specs.Prelude.{◌≡◌, ℕ, ◌==◌, Bool, true, ◌&&◌, nat_lt, List, filter, map}
use Rattle.settings_core.specs.declared.settings.Settings.{Settings}
use Rattle.desk_model.specs.Desk.{Desk, Request, request_at}
use Rattle.desk_model.specs.Due.{due_on}
use Rattle.desk_model.specs.Links.{is_kind}
use Rattle.desk_model.specs.Names.{names_rise}
use Rattle.desk_model.specs.Plan.{Call, Plan, OneRequest, Reads, answer_of_request}
use Rattle.desk_model.specs.Rights.{is_shown}
use Rattle.desk_model.specs.Rising.{is_rising}
use Rattle.desk_model.specs.declared.answer.Answer.{Answer}
use Rattle.desk_model.specs.declared.answer.Answer.TheVariants as answer
use Rattle.desk_model.specs.declared.answer.Links.{Links}
use Rattle.desk_model.specs.declared.answer.Shown as shown
use Rattle.desk_model.specs.declared.rows.LinkKind.{LinkKind}
use Rattle.desk_model.specs.declared.rows.LinkKind.TheVariants.{DependsOn, MemberOf, RefersTo}
use Rattle.desk_model.specs.declared.rows.LinkRow.{LinkRow}

-- the link leads from the request to one that the caller may show
abbrev pub leads_from : Settings → List ℕ → Desk → LinkKind → ℕ → LinkRow → Bool
leads_from settings caller desk kind id link =
    link.source == id && (is_kind kind link.kind && is_shown settings caller desk link.target)

-- the link leads to the request from one that the caller may show
abbrev pub leads_to : Settings → List ℕ → Desk → LinkKind → ℕ → LinkRow → Bool
leads_to settings caller desk kind id link =
    link.target == id && (is_kind kind link.kind && is_shown settings caller desk link.source)

-- the numbers of the requests to which links of a kind lead from this one
abbrev pub linked_from : Settings → List ℕ → Desk → LinkKind → ℕ → List ℕ
linked_from settings caller desk kind id =
    map (λ l. l.target) (filter (leads_from settings caller desk kind id) desk.links)

-- the numbers of the requests from which links of a kind lead to this one
abbrev pub linked_to : Settings → List ℕ → Desk → LinkKind → ℕ → List ℕ
linked_to settings caller desk kind id =
    map (λ l. l.source) (filter (leads_to settings caller desk kind id) desk.links)

-- the requests that one is linked with, as far as the caller may show them
abbrev pub links_of : Settings → List ℕ → Desk → ℕ → Links
links_of settings caller desk id =
    record {
      depends_on = linked_from settings caller desk DependsOn id;
      depended_on_by = linked_to settings caller desk DependsOn id;
      member_of = linked_from settings caller desk MemberOf id;
      has_member = linked_to settings caller desk MemberOf id;
      refers_to = linked_from settings caller desk RefersTo id;
      referred_to_by = linked_to settings caller desk RefersTo id;
    }

-- a request as it is shown
abbrev pub shown_of : Settings → List ℕ → Desk → Request → shown.Shown
shown_of settings caller desk request =
    record {
      row = request.row;
      requestors = request.requestors;
      cc = request.cc;
      admin_cc = request.admin_cc;
      due = due_on settings desk request;
      links = links_of settings caller desk request.row.id;
    }

abbrev pub numbers_rise : List ℕ → Bool
numbers_rise numbers = is_rising nat_lt numbers

-- the numbers of the linked requests rise in each list
pub record LinksRise (links : Links) : Type 0 where
  pub depends_on : numbers_rise links.depends_on ≡ true
  pub depended_on_by : numbers_rise links.depended_on_by ≡ true
  pub member_of : numbers_rise links.member_of ≡ true
  pub has_member : numbers_rise links.has_member ≡ true
  pub refers_to : numbers_rise links.refers_to ≡ true
  pub referred_to_by : numbers_rise links.referred_to_by ≡ true

-- the persons of each role rise by their bytes, and the links by their numbers
pub record ShownRises (shown : shown.Shown) : Type 0 where
  pub requestors : names_rise shown.requestors ≡ true
  pub cc : names_rise shown.cc ≡ true
  pub admin_cc : names_rise shown.admin_cc ≡ true
  pub links : LinksRise shown.links

abbrev pub told : ℕ → Call → Desk → Answer
told id call desk =
    answer_of_request (request_at desk id)
    (λ request. answer.Shown (shown_of call.settings call.caller desk request))

abbrev pub reading : ℕ → Plan
reading id = Reads (OneRequest id) (told id)
