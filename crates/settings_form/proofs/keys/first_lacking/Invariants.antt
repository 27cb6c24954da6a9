use Rattle.std.proofs.Common.{◌≡◌, map, drop}
use Rattle.toml.specs.View.{table_view}
use Rattle.settings_form.specs.Form.{field_of}
use Rattle.settings_form.specs.Keys.{first_lacking}
use Rattle.settings_form.proofs.keys.first_lacking.Given as goal

abbrev pub invariant-loop-row : goal.invariant-loop-row
invariant-loop-row l =
    first_lacking (map field_of (drop l.row-index l.rows)) (table_view l.table)
    ≡ first_lacking (map field_of l.rows) (table_view l.table)
