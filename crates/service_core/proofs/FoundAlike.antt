-- Two desks that a caller sees alike answer a search of the caller alike.
use Rattle.std.proofs.Common.{◌∙◌, ℕ, List, Option, ap, sym}
use Rattle.sqlite.specs.Store.{Ghosts}
use Rattle.settings_core.specs.declared.settings.Settings.{Settings}
use Rattle.find_core.specs.Find.{outcome_of}
use Rattle.find_core.specs.declared.search.Place.{Place}
use Rattle.find_core.specs.declared.search.Search.{Search}
use Rattle.find_core.proofs.ViewLemmas.{of_the_view}
use Rattle.service_core.specs.Finding.{FindsAlike}

pub finds_alike : {S T : Type 0} (g : Ghosts S) (h : Ghosts T) (s : Settings) (at : ℕ)
    (caller : List ℕ) (search : Search) (limit : ℕ) (after : Option Place)
    → FindsAlike g h s at caller search limit after
finds_alike g h s at caller search limit after one other old new old_other new_other result
    other_result is stand clean is_other stand_other clean_other same told told_other finds
    finds_other =
    let outcome = outcome_of s at caller search limit after in
    (finds one is stand clean).0 told
    ∙ sym (of_the_view s at caller search limit after one)
    ∙ ap outcome same
    ∙ of_the_view s at caller search limit after other
    ∙ sym ((finds_other other is_other stand_other clean_other).0 told_other)
