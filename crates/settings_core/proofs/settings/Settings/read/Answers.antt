use Rattle.std.proofs.Common.{Some, inr}
use Rattle.std.proofs.lemmas.Result.{IfErr-weaker}
use Rattle.toml.specs.View.{table_view}
use Rattle.settings_core.proofs.Faults.{fault_after}
use Rattle.settings_core.proofs.settings.Settings.read.Goals as goal

pub returns-clause-err : goal.returns-clause-err
returns-clause-err c =
    let tree = c.in_ok-table.ensures.ok in
    let ms = table_view c.in_ok-table.table in
    IfErr-weaker c.stated.result _ _
    (λ e found other. inr (ms, tree.0, fault_after ms (Some e) tree.1 (found other)))
    c.stated.ensures.err
