use Rattle.std.proofs.Common.{◌≡◌, drop, map}
use Rattle.std.specs.List.{list_all}
use Rattle.browser_core.specs.Site.{is_own_site}
use Rattle.browser_core.proofs.site.are_own_sites.Given as goal

abbrev pub invariant-loop-site : goal.invariant-loop-site
invariant-loop-site l =
    list_all is_own_site (map (λ v. v.now) (drop l.site-index l.sites))
    ≡ list_all is_own_site (map (λ v. v.now) l.sites)
