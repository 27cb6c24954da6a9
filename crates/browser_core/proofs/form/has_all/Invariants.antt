use Rattle.std.proofs.Common.{◌≡◌, drop, map}
use Rattle.std.specs.List.{list_all}
use Rattle.browser_core.specs.Form.{has}
use Rattle.browser_core.proofs.form.has_all.Given as goal

abbrev pub invariant-loop-name : goal.invariant-loop-name
invariant-loop-name l =
    list_all (has l.fields) (map (λ n. n.now) (drop l.name-index l.names))
    ≡ list_all (has l.fields) (map (λ n. n.now) l.names)
