use Rattle.std.proofs.Common.{◌≡◌, ℕ, ◌||◌, List, take}
use Rattle.std.specs.HashSet.{contains_text}
use Rattle.std.specs.List.{list_any}
use Rattle.std.specs.Str.{bytes_eq}
use Rattle.settings_core.proofs.known.add_rights.Given as goal

abbrev pub invariant-loop-entry : goal.invariant-loop-entry
invariant-loop-entry l =
    (q : List ℕ) → contains_text l.names q
    ≡ (contains_text l.initial.names q
    || list_any (λ e. bytes_eq e.right q) (take l.entry-index l.rights))
