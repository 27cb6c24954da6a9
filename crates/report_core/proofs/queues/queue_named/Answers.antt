-- the queues are in the order of their names, so those before the name are the front of them
use Rattle.std.proofs.Common.{◌≡◌, ◌∙◌, ◌-◌, ap, arith, drop, length, rules, take}
use Rattle.std.specs.List.{slice_get}
use Rattle.std.proofs.lemmas.List.{take_all, length-drop}
use Rattle.std.proofs.lemmas.List.Sorted.{IsPartitionPoint-from_clause}
use Rattle.std.specs.Cmp.Lexicographic.{nat_list_cmp_total}
use Rattle.desk_model.specs.Desk.{has_lower_name}
use Rattle.sorted_lists.proofs.Rising.{climbs, orders_go_on}
use Rattle.report_core.specs.Rows.{named_only}
use Rattle.report_core.proofs.Halves.{found_at, goes_before, is_before, parted}
use Rattle.report_core.proofs.queues.queue_named.Goals as goal

pub returns : goal.returns
returns c rise =
    let qs = c.args.queues.now in
    let name = c.args.name.now in
    let i = c.partition_point-index.result in
    let up = climbs has_lower_name qs
    (λ x y z one two. orders_go_on nat_list_cmp_total x.name y.name z.name one two) rise in
    let point = IsPartitionPoint-from_clause (is_before name) qs i
    c.partition_point-index.ensures.partitioned
    (parted (is_before name) has_lower_name (goes_before name) qs up) (λ a r f' k. search rules) in
    let whole : take (length qs - i) (drop i qs) ≡ drop i qs =
    take_all (length qs - i) (drop i qs) (omega (arith, length-drop i qs)) in
    c.named_only.ensures
    ∙ ap (named_only name) c.first.ensures.value
    ∙ ap (λ rest. named_only name (slice_get rest 0)) whole
    ∙ found_at name qs i up point.0 point.1 c.partition_point-index.ensures.bound
