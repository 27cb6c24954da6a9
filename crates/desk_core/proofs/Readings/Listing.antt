-- A queue's list is told alike of the desk and of the caller's view, in the order of the numbers.
use Rattle.std.proofs.Common.{◌∙◌, ℕ, List, filter, ap, sym}
use Rattle.std.proofs.lemmas.List.Elements.{All-filter, All-map}
use Rattle.desk_model.specs.Desk.{Desk}
use Rattle.desk_model.specs.IsDesk.{IsDesk}
use Rattle.desk_model.specs.Plan.{Call, OneQueue}
use Rattle.desk_model.specs.Readings.{IsInOrder}
use Rattle.desk_model.specs.Readings.Listing as listing
use Rattle.desk_model.specs.Readings.Listing.{is_listed_first}
use Rattle.desk_model.specs.Told.{Told}
use Rattle.desk_model.specs.Told as reports
use Rattle.desk_model.specs.declared.answer.Answer.TheVariants as answer
use Rattle.desk_core.proofs.Readings.Owed.{IsRight}
use Rattle.desk_core.proofs.Readings.Told.{told_due, told_in_view, told_rise}
use Rattle.sorted_lists.proofs.Rising.{by, filtered_rises, mapped_rises, numbers_go_on}
use Rattle.desk_core.proofs.Readings.Owed.{IsDue}

list_in_order : (queue : List ℕ) (call : Call) (desk : Desk) → IsDesk desk
    → IsInOrder (listing.told queue call desk)
list_in_order queue call desk is =
    let ts = reports.told call.settings call.caller desk in
    mapped_rises is_listed_first listing.line_of (filter (listing.is_in queue) ts)
    ∙ filtered_rises (by (λ (t : Told). t.row.id)) (listing.is_in queue) ts
    (numbers_go_on (λ (t : Told). t.row.id)) (told_rise call.settings call.caller desk is)

pub right : (queue : List ℕ) → IsRight (OneQueue queue) (listing.told queue)
right queue = record {
  alike = λ call desk is.
      ap (λ (ts : List Told). answer.Listed (listing.lines_of queue ts))
      (sym (told_in_view call.settings call.caller desk));
  due = λ call desk is.
      let ts = reports.told call.settings call.caller desk in
      All-map (IsDue call.settings desk) (λ l. (l.id, l.due)) (listing.lines_of queue ts)
      (All-map (λ l. IsDue call.settings desk (l.id, l.due)) listing.line_of
      (filter (listing.is_in queue) ts)
      (All-filter (listing.is_in queue) (λ t. IsDue call.settings desk (t.row.id, t.due)) ts
      (told_due call.settings call.caller desk is)));
  ordered = list_in_order queue;
}
