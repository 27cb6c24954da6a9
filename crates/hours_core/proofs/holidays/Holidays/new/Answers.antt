use Rattle.std.proofs.Common.{◌==◌, ℕ, sym, ap, ◌∙◌}
use Rattle.std.specs.List.{list_any}
use Rattle.std.proofs.lemmas.List.Sorted.{IsNonDecreasingBy-from_sort, list_any-IsPermutation}
use Rattle.hours_core.proofs.holidays.Holidays.new.Goals as goal

pub invariant_of-result : goal.invariant_of-result
invariant_of-result c =
    IsNonDecreasingBy-from_sort
    (λ x. x) c.sort_unstable.new.self.items c.sort_unstable.ensures.sorted

pub returns : goal.returns
returns c = λ day.
    sym (list_any-IsPermutation
    (λ (holiday : ℕ). holiday == day) c.in_ok-days.days.items c.sort_unstable.new.self.items
    c.sort_unstable.ensures.permutation)
    ∙ ap (list_any (λ (holiday : ℕ). holiday == day)) c.in_ok-days.ensures.items
