-- A request is shown alike on the desk and on the caller's view, its people and its links in order.
use Rattle.std.proofs.Common.{◌≡◌, ◌∙◌, ℕ, ◌==◌, Bool, true, ◌&&◌, List, [], filter, map}
use Rattle.std.proofs.Common.{Option, Some, None, refl, ap, ap₂, sym}
use Rattle.std.specs.List.{All}
use Rattle.std.specs.Option.{option_and_then}
use Rattle.std.proofs.lemmas.Bool.{and_from, and_parts, eqb-true}
use Rattle.std.proofs.lemmas.List.Elements.{All-nil, All-cons, filter_agree}
use Rattle.hours_core.specs.declared.stay.Stay.{Stay}
use Rattle.settings_core.specs.declared.settings.Settings.{Settings}
use Rattle.desk_model.specs.Desk.{Desk, Request, request_at}
use Rattle.desk_model.specs.Due.{due_of, due_on}
use Rattle.desk_model.specs.Facts.{seen_request}
use Rattle.desk_model.specs.IsDesk.{IsDesk, persons_rise}
use Rattle.desk_model.specs.Links.{is_kind}
use Rattle.desk_model.specs.Names.{names_rise}
use Rattle.desk_model.specs.Plan.{Call, OneRequest, answer_of_request}
use Rattle.desk_model.specs.Readings.Show as show
use Rattle.desk_model.specs.Readings.Show.{linked_from, linked_to, links_of, shown_of}
use Rattle.desk_model.specs.Rights.{is_shown, may_show}
use Rattle.desk_model.specs.View.{as_seen, is_seen_link, view}
use Rattle.desk_model.specs.declared.answer.Answer.TheVariants as answer
use Rattle.desk_model.specs.declared.answer.Links.{Links}
use Rattle.desk_model.specs.declared.answer.Shown as shown
use Rattle.desk_model.specs.declared.rows.LinkKind.{LinkKind}
use Rattle.desk_model.specs.declared.rows.LinkKind.TheVariants.{DependsOn, MemberOf, RefersTo}
use Rattle.desk_model.specs.declared.rows.LinkRow.{LinkRow}
use Rattle.desk_model.specs.declared.rows.QueueRow.{QueueRow}
use Rattle.desk_model.proofs.StayLemmas.{stays_told}
use Rattle.desk_core.proofs.Every.{every_found}
use Rattle.desk_core.proofs.Goes.{number_found}
use Rattle.desk_core.proofs.InView.{filter_within, found_in_view, queue_in_view, shown_in_view}
use Rattle.desk_core.proofs.InView.{shown_there}
use Rattle.desk_core.proofs.Readings.LinkOrder.{links_in_order}
use Rattle.desk_core.proofs.Readings.Owed.{IsRight}
use Rattle.desk_model.specs.Readings.{IsInOrder, dues_told}
use Rattle.desk_core.proofs.Readings.Owed.{IsDue}

-- a filter of the view's links is one of the desk's links, where it tests alike and keeps only
-- links that are seen
kept_in_view : (s : Settings) (caller : List ℕ) (desk : Desk) (there here : LinkRow → Bool)
    → ((l : LinkRow) → there l ≡ here l)
    → ((l : LinkRow) → here l ≡ true → is_seen_link s caller desk l ≡ true)
    → filter there (filter (is_seen_link s caller desk) desk.links) ≡ filter here desk.links
kept_in_view s caller desk there here alike seen =
    filter_agree there here alike (filter (is_seen_link s caller desk) desk.links)
    ∙ filter_within here (is_seen_link s caller desk) seen desk.links

-- both ends of a link of a request that is shown to another one that is
ends_shown : (s : Settings) (caller : List ℕ) (desk : Desk) (id own other : ℕ) (is_of_kind : Bool)
    → is_shown s caller desk id ≡ true
    → (own == id && (is_of_kind && is_shown s caller desk other)) ≡ true
    → (is_shown s caller desk own ≡ true) × (is_shown s caller desk other ≡ true)
ends_shown s caller desk id own other is_of_kind shown leads =
    let parts = and_parts (own == id) (is_of_kind && is_shown s caller desk other) leads in (
      ap (is_shown s caller desk) (eqb-true own id parts.0) ∙ shown,
      (and_parts is_of_kind (is_shown s caller desk other) parts.1).1,
    )

-- the link leads between this request and one that is shown
abbrev leads : (LinkRow → ℕ) → (LinkRow → ℕ) → Settings → List ℕ → Desk → LinkKind → ℕ → LinkRow
    → Bool
leads own other s caller desk kind id l =
    own l == id && (is_kind kind l.kind && is_shown s caller desk (other l))

-- the links of a request that is shown are those of the view
linked_in_view : (s : Settings) (caller : List ℕ) (desk : Desk) (kind : LinkKind) (id : ℕ)
    (own other : LinkRow → ℕ) → IsDesk desk → is_shown s caller desk id ≡ true
    → ((l : LinkRow) → is_shown s caller desk (own l) ≡ true
    → is_shown s caller desk (other l) ≡ true
    → is_seen_link s caller desk l ≡ true)
    → filter (leads own other s caller (view s caller desk) kind id) (view s caller desk).links
    ≡ filter (leads own other s caller desk kind id) desk.links
linked_in_view s caller desk kind id own other is shown both =
    kept_in_view s caller desk (leads own other s caller (view s caller desk) kind id)
    (leads own other s caller desk kind id)
    (λ l. ap (λ b. own l == id && (is_kind kind l.kind && b))
    (shown_in_view s caller desk (other l) is))
    (λ l leading.
    let ends = ends_shown s caller desk id (own l) (other l) (is_kind kind l.kind) shown leading in
    both l ends.0 ends.1)

links_in_view : (s : Settings) (caller : List ℕ) (desk : Desk) (id : ℕ) → IsDesk desk
    → is_shown s caller desk id ≡ true
    → links_of s caller (view s caller desk) id ≡ links_of s caller desk id
links_in_view s caller desk id is shown =
    let seen : ℕ → Bool = is_shown s caller desk in
    let from : (kind : LinkKind)
    → linked_from s caller (view s caller desk) kind id ≡ linked_from s caller desk kind id =
    λ kind. ap (map (λ l. l.target))
    (linked_in_view s caller desk kind id (λ l. l.source) (λ l. l.target) is shown
    (λ l own other. and_from (seen l.source) (seen l.target) own other)) in
    let to : (kind : LinkKind)
    → linked_to s caller (view s caller desk) kind id ≡ linked_to s caller desk kind id =
    λ kind. ap (map (λ l. l.source))
    (linked_in_view s caller desk kind id (λ l. l.target) (λ l. l.source) is shown
    (λ l own other. and_from (seen l.source) (seen l.target) other own)) in
    rw (from DependsOn, to DependsOn, from MemberOf, to MemberOf, from RefersTo, to RefersTo) refl

-- a request as it is shown, with this due moment and these links
abbrev shown_with : Request → Option ℕ → Links → shown.Shown
shown_with r due links =
    record {
      row = r.row;
      requestors = r.requestors;
      cc = r.cc;
      admin_cc = r.admin_cc;
      due = due;
      links = links;
    }

-- in the view a request is shown alike
shown_alike : (s : Settings) (caller : List ℕ) (desk : Desk) (id : ℕ) (r : Request) → IsDesk desk
    → request_at desk id ≡ Some r
    → may_show s caller (seen_request r) ≡ true
    → shown_of s caller desk r ≡ shown_of s caller (view s caller desk) (as_seen s caller r)
shown_alike s caller desk id r is there may =
    sym
    (ap₂ (λ (q : Option QueueRow) (stays : List Stay).
    shown_with r (option_and_then (λ x. due_of s x stays r.row) q)
    (links_of s caller (view s caller desk) r.row.id))
    (queue_in_view s caller desk id r there may) (stays_told s caller r)
    ∙ ap (λ (l : Links). shown_with r (due_on s desk r) l)
    (links_in_view s caller desk r.row.id is (shown_there s caller desk r id there may)))

-- a due moment that is shown is that of the request
due_of_shown : (s : Settings) (caller : List ℕ) (desk : Desk) (id : ℕ) (o : Option Request)
    → request_at desk id ≡ o
    → All (IsDue s desk)
    (dues_told (answer_of_request o (λ r. answer.Shown (shown_of s caller desk r))))
due_of_shown s caller desk id None there = All-nil (IsDue s desk)
due_of_shown s caller desk id (Some r) there =
    All-cons (IsDue s desk) (r.row.id, due_on s desk r) []
    (r, ap (request_at desk) (number_found desk id r there) ∙ there, refl) (All-nil (IsDue s desk))

shown_of_request : (call : Call) (desk : Desk) (id : ℕ) (o : Option Request) → IsDesk desk
    → request_at desk id ≡ o
    → IsInOrder (answer_of_request o
    (λ r. answer.Shown (shown_of call.settings call.caller desk r)))
shown_of_request call desk id None is there = tt
shown_of_request call desk id (Some r) is there =
    let rise : persons_rise r ≡ true =
    every_found persons_rise (λ x. x.row.id == id) desk.requests r is.persons there in
    let parts = and_parts (names_rise r.requestors)
    (names_rise r.cc && names_rise r.admin_cc) rise in
    let others = and_parts (names_rise r.cc) (names_rise r.admin_cc) parts.1 in
    record {
      requestors = parts.0;
      cc = others.0;
      admin_cc = others.1;
      links = links_in_order call.settings call.caller desk r.row.id is;
    }

pub right : (id : ℕ) → IsRight (OneRequest id) (show.told id)
right id = record {
  alike = λ call desk r is there may.
      let s = call.settings in
      let caller = call.caller in
      let seen = view s caller desk in
      ap (λ (o : Option Request). answer_of_request o
      (λ x. answer.Shown (shown_of s caller desk x))) there
      ∙ ap (λ (x : shown.Shown). answer.Shown x) (shown_alike s caller desk id r is there may)
      ∙ ap (λ (o : Option Request). answer_of_request o
      (λ x. answer.Shown (shown_of s caller seen x)))
      (sym (found_in_view s caller desk id r is there may));
  due = λ call desk is. due_of_shown call.settings call.caller desk id (request_at desk id) refl;
  ordered = λ call desk is. shown_of_request call desk id (request_at desk id) is refl;
}
