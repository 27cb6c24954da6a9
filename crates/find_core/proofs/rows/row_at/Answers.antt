-- the rows are in the order of their numbers, so those below the number are the front of them
use Rattle.std.proofs.Common.{◌≡◌, ◌∙◌, ◌-◌, ap, arith, drop, length, rules, take}
use Rattle.std.specs.Prelude.{nat_lt}
use Rattle.std.specs.List.{slice_get}
use Rattle.std.proofs.lemmas.List.{take_all, length-drop}
use Rattle.std.proofs.lemmas.List.Sorted.{IsPartitionPoint-from_clause}
use Rattle.sorted_lists.proofs.Rising.{by}
use Rattle.report_core.proofs.Halves.{parted}
use Rattle.find_core.specs.Rows.{Dated, numbered_only}
use Rattle.find_core.proofs.NumberLemmas.{goes_below, number, numbered_at, rows_climb}
use Rattle.find_core.proofs.rows.row_at.Goals as goal

pub returns : goal.returns
returns c rise =
    let rows = c.args.rows.now in
    let id = c.args.id in
    let i = c.partition_point-index.result in
    let point = IsPartitionPoint-from_clause (λ (d : Dated). nat_lt (number d) id) rows i
    c.partition_point-index.ensures.partitioned
    (parted (λ (d : Dated). nat_lt (number d) id) (by number) (goes_below id) rows (rows_climb rows rise))
    (λ a r f' k. search rules) in
    let whole : take (length rows - i) (drop i rows) ≡ drop i rows =
    take_all (length rows - i) (drop i rows) (omega (arith, length-drop i rows)) in
    c.numbered_only.ensures
    ∙ ap (numbered_only id) c.first.ensures.value
    ∙ ap (λ rest. numbered_only id (slice_get rest 0)) whole
    ∙ numbered_at id 0 rows i rise point.0 point.1 c.partition_point-index.ensures.bound
