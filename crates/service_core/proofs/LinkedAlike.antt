-- Two desks that a caller sees alike tell the caller the same rows of linked requests.
use Rattle.std.proofs.Common.{◌∙◌, ℕ, List, Ok, ap, sym}
use Rattle.sqlite.specs.Store.{Ghosts}
use Rattle.settings_core.specs.declared.settings.Settings.{Settings}
use Rattle.desk_model.specs.Desk.{Desk}
use Rattle.desk_model.specs.declared.answer.Links.{Links}
use Rattle.service_core.specs.LinkedRows.{LinkedAlike, linked_rows}

pub linked_alike : {S T : Type 0} (g : Ghosts S) (h : Ghosts T) (s : Settings) (caller : List ℕ)
    (links : Links) → LinkedAlike g h s caller links
linked_alike g h s caller links one other old new old_other new_other result other_result is stand
    clean is_other stand_other clean_other same told told_other rows rows_other =
    (rows one is stand clean).0 told
    ∙ ap (λ (seen : Desk). Ok (linked_rows seen links)) same
    ∙ sym ((rows_other other is_other stand_other clean_other).0 told_other)
