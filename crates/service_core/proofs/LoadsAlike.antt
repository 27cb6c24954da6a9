-- Two desks that a caller sees alike answer alike what the caller's queues have open.
use Rattle.std.proofs.Common.{◌∙◌, ℕ, List, ap, sym}
use Rattle.sqlite.specs.Store.{Ghosts}
use Rattle.settings_core.specs.declared.settings.Settings.{Settings}
use Rattle.find_core.specs.Loads.{loads_outcome}
use Rattle.find_core.proofs.ViewLemmas.{loads_of_the_view}
use Rattle.service_core.specs.Loading.{LoadsAlike}

pub loads_alike : {S T : Type 0} (g : Ghosts S) (h : Ghosts T) (s : Settings) (at : ℕ)
    (caller : List ℕ) → LoadsAlike g h s at caller
loads_alike g h s at caller one other old new old_other new_other result other_result is stand clean
    is_other stand_other clean_other same told told_other loads loads_other =
    let outcome = loads_outcome s at caller in
    (loads one is stand clean).0 told
    ∙ sym (loads_of_the_view s at caller one)
    ∙ ap outcome same
    ∙ loads_of_the_view s at caller other
    ∙ sym ((loads_other other is_other stand_other clean_other).0 told_other)
