use Rattle.std.proofs.Common.{◌≡◌, drop, map}
use Rattle.std.specs.List.{list_all}
use Rattle.browser_core.specs.Site.{is_empty}
use Rattle.browser_core.proofs.site.are_empty.Given as goal

abbrev pub invariant-loop-value : goal.invariant-loop-value
invariant-loop-value l =
    list_all is_empty (map (λ v. v.now) (drop l.value-index l.values))
    ≡ list_all is_empty (map (λ v. v.now) l.values)
