use Rattle.std.proofs.Common.{◌≡◌, ℕ, ◌||◌, List, take}
use Rattle.std.specs.HashSet.{contains_text}
use Rattle.text_core.specs.Texts.{is_among}
use Rattle.settings_core.proofs.known.add_texts.Given as goal

abbrev pub invariant-loop-text : goal.invariant-loop-text
invariant-loop-text l =
    (q : List ℕ) → contains_text l.names q
    ≡ (contains_text l.initial.names q || is_among (take l.text-index l.texts) q)
