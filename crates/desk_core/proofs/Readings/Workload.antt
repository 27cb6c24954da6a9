-- The workload is told alike of the desk and of the caller's view, in the order of the owners.
use Rattle.std.proofs.Common.{◌∙◌, List, [], filter, map, refl, ap, sym, rules}
use Rattle.std.specs.Cmp.{IsTotalOrder}
use Rattle.std.specs.Cmp.Lexicographic.{nat_list_cmp_total}
use Rattle.std.proofs.lemmas.List.Elements.{All-nil}
use Rattle.desk_model.specs.Desk.{Desk}
use Rattle.desk_model.specs.Plan.{Call, WholeDesk}
use Rattle.desk_model.specs.Readings.{IsInOrder}
use Rattle.desk_model.specs.Readings.Workload as workload
use Rattle.desk_model.specs.Readings.Workload.{has_first_owner, load_of, owner_order, owners}
use Rattle.desk_model.specs.Told.{Told, told}
use Rattle.desk_model.specs.declared.answer.Answer.TheVariants as answer
use Rattle.desk_core.proofs.Readings.Owed.{IsRight}
use Rattle.desk_core.proofs.Readings.Told.{told_in_view}
use Rattle.sorted_lists.proofs.Rising.{all_keyed_rise, mapped_rises}
use Rattle.desk_core.proofs.Readings.Owed.{IsDue}

owners_total : IsTotalOrder owner_order
owners_total = record {
  antisymm = λ x y. search (rules, nat_list_cmp_total.antisymm);
  trans = λ x y z. search (rules, nat_list_cmp_total.trans);
  congr = λ x y z. search (rules, nat_list_cmp_total.congr);
}

workload_in_order : (call : Call) (desk : Desk) → IsInOrder (workload.told call desk)
workload_in_order call desk =
    let ts = filter (λ t. t.is_live) (told call.settings call.caller desk) in
    mapped_rises has_first_owner (load_of call.at ts) (owners ts)
    ∙ all_keyed_rise owner_order owners_total (map (λ t. t.row.owner) ts) [] refl

pub right : IsRight WholeDesk workload.told
right = record {
  alike = λ call desk is.
      ap (λ (ts : List Told). answer.Workload (workload.loads call.at (filter (λ t. t.is_live) ts)))
      (sym (told_in_view call.settings call.caller desk));
  due = λ call desk is. All-nil (IsDue call.settings desk);
  ordered = λ call desk is. workload_in_order call desk;
}
