-- behind the fields so far, those of what is left are those of all
use Rattle.std.proofs.Common.{◌≡◌, ◌++◌, Some, option_map}
use Rattle.browser_core.specs.Cuts.{parts_in}
use Rattle.browser_core.specs.Form.{fields_in}
use Rattle.browser_core.proofs.Stops.{size}
use Rattle.browser_core.proofs.form.fields_in.Given as goal

abbrev pub invariant-loop-left : goal.invariant-loop-left
invariant-loop-left l =
    option_map (λ more. l.fields.items ++ more)
    (fields_in (parts_in 38 (option_map (λ r. r.now) l.left)))
    ≡ fields_in (parts_in 38 (Some l.body))

abbrev pub decreases-loop-left : goal.decreases-loop-left
decreases-loop-left l = size (option_map (λ r. r.now) l.left)
