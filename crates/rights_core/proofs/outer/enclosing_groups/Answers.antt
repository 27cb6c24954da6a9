use Rattle.std.proofs.Common.{◌∙◌}
use Rattle.std.proofs.lemmas.List.Sorted.{IsNonDecreasingBy-from_sort}
use Rattle.rights_core.proofs.Placed.{same_names, same_within}
use Rattle.rights_core.proofs.outer.enclosing_groups.Goals as goal

pub returns-clause-found : goal.returns-clause-found
returns-clause-found c = λ group.
    same_names c.args.groups.now _ _ group c.sort_unstable.ensures.permutation
    ∙ c.in_ok-found.ensures.found group

pub returns-clause-within : goal.returns-clause-within
returns-clause-within c =
    same_within c.args.groups.now _ _ c.sort_unstable.ensures.permutation
    c.in_ok-found.ensures.within

pub returns-clause-rising : goal.returns-clause-rising
returns-clause-rising c = IsNonDecreasingBy-from_sort (λ x. x) _ c.sort_unstable.ensures.sorted
