-- The queues that a caller sees are those of the caller's view, in the order of their names.
use Rattle.std.proofs.Common.{◌||◌, List, ap, sym}
use Rattle.std.specs.Cmp.Lexicographic.{nat_list_cmp_total}
use Rattle.std.proofs.lemmas.Bool.{or_left}
use Rattle.std.proofs.lemmas.List.Elements.{All-nil}
use Rattle.desk_model.specs.Desk.{Desk, has_lower_name}
use Rattle.desk_model.specs.IsDesk.{IsDesk}
use Rattle.desk_model.specs.Plan.{Call, WholeDesk}
use Rattle.desk_model.specs.Readings.{IsInOrder}
use Rattle.desk_model.specs.Readings.Queues as queues
use Rattle.desk_model.specs.Rights.{sees_queue}
use Rattle.desk_model.specs.View.{has_shown}
use Rattle.desk_model.specs.declared.answer.Answer.TheVariants as answer
use Rattle.desk_model.specs.declared.rows.QueueRow.{QueueRow}
use Rattle.desk_core.proofs.InView.{filter_within}
use Rattle.desk_core.proofs.Readings.Owed.{IsRight}
use Rattle.sorted_lists.proofs.Rising.{IsTransitive, filtered_rises, orders_go_on}
use Rattle.desk_core.proofs.Readings.Owed.{IsDue}

queues_go_on : IsTransitive has_lower_name
queues_go_on x y z one two = orders_go_on nat_list_cmp_total x.name y.name z.name one two

queues_in_order : (call : Call) (desk : Desk) → IsDesk desk → IsInOrder (queues.told call desk)
queues_in_order call desk is =
    filtered_rises has_lower_name (sees_queue call.settings call.caller) desk.queues queues_go_on
    is.queues

pub right : IsRight WholeDesk queues.told
right = record {
  alike = λ call desk is.
      let sees = sees_queue call.settings call.caller in
      let shows = has_shown call.settings call.caller desk in
      ap (λ (list : List QueueRow). answer.Queues list)
      (sym (filter_within sees (λ q. sees q || shows q.name)
      (λ q seen. or_left (sees q) (shows q.name) seen) desk.queues));
  due = λ call desk is. All-nil (IsDue call.settings desk);
  ordered = queues_in_order;
}
