-- the counts of an owner who is there are written where they stand
use Rattle.std.proofs.Common.{◌≡◌, ◌∙◌, Option, Some, ap, refl, subst}
use Rattle.std.specs.Prelude.{IsSome, unwrap_or}
use Rattle.std.specs.BTreeMap.{insert_entry, is_at}
use Rattle.std.specs.Map.{lookup}
use Rattle.desk_model.specs.Readings.Workload.{owner_order}
use Rattle.report_core.specs.Rows.{counted, no_counts}
use Rattle.report_core.specs.declared.load.Counts.{Counts}
use Rattle.report_core.proofs.LoadLemmas.{written_where_found}
use Rattle.report_core.proofs.load.count.Goals as goal

pub returns-in-Some : goal.returns-in-Some
returns-in-Some c =
    let k = c.args.owner.now in
    let es = c.args.owners.now.entries in
    let found : Some c.in-Some.counts.now ≡ lookup (is_at (owner_order k)) es =
    c.in-Some.ensures.value in
    let written = c.get_mut.follows.holds c.with.result in
    written.0
    ∙ written_where_found k c.with.result es c.get_mut.ensures.ordered
    (subst (λ (o : Option Counts). IsSome o) found refl)
    ∙ ap (insert_entry owner_order es k)
    (c.with.ensures
    ∙ ap (λ (o : Option Counts). counted c.args.is_late (unwrap_or o no_counts)) found)
