use Rattle.std.proofs.Common.{◌≡◌, map, drop}
use Rattle.settings_form.specs.Form.{kind_in, field_of}
use Rattle.settings_form.proofs.form.kind_in.Given as goal

abbrev pub invariant-loop-row : goal.invariant-loop-row
invariant-loop-row l =
    kind_in (map field_of (drop l.row-index l.rows)) l.key ≡ kind_in (map field_of l.rows) l.key
