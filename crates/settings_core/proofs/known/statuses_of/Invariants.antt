use Rattle.std.proofs.Common.{◌≡◌, ℕ, List, take}
use Rattle.std.specs.HashSet.{contains_text}
use Rattle.settings_core.specs.Names.{knows_status}
use Rattle.settings_core.proofs.known.statuses_of.Given as goal

abbrev pub invariant-loop-lifecycle : goal.invariant-loop-lifecycle
invariant-loop-lifecycle l =
    (q : List ℕ) → contains_text l.names q
    ≡ knows_status (take l.lifecycle-index l.lifecycles) q
