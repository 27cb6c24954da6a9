use Rattle.std.proofs.Common.{◌≡◌, ℕ, List, take}
use Rattle.std.specs.HashSet.{contains_text}
use Rattle.std.specs.List.{list_any}
use Rattle.lifecycle_core.specs.Lifecycle.{names_right}
use Rattle.settings_core.proofs.known.rights_of.Given as goal

abbrev pub invariant-loop-lifecycle : goal.invariant-loop-lifecycle
invariant-loop-lifecycle l =
    (q : List ℕ) → contains_text l.names q
    ≡ list_any (λ n. names_right n.value q) (take l.lifecycle-index l.lifecycles)
