-- What is told of a request before its history.
use Rattle.std.specs.Prelude.{ℕ, Bool, List, [], ◌∷◌, ◌++◌, Option, Some, None, unwrap_or}
use Rattle.std.specs.Prelude.{is_some, option_and_then}
use Rattle.hours_core.specs.Zone.{Offsets}
use Rattle.lifecycle_core.specs.Lifecycle.{class_of}
use Rattle.lifecycle_core.specs.declared.lifecycle.Class.{Class}
use Rattle.lifecycle_core.specs.declared.parts.Parts.{Parts}
use Rattle.settings_core.specs.Settings.{zone_named, level_named, lifecycle_named}
use Rattle.settings_core.specs.declared.settings.Settings.{Settings}
use Rattle.desk_model.specs.declared.answer.Dossier.{Dossier}
use Rattle.desk_model.specs.declared.rows.RequestRow.{RequestRow}
use Rattle.desk_texts.specs.Words.{or_nobody}
use Rattle.page_core.specs.Page.{Part}
use Rattle.page_core.specs.Template.{filled}
use Rattle.page_core.specs.Values.{clock, day}
use Rattle.desk_pages.specs.Lists.{links_told, many_told, roles}
use Rattle.desk_pages.specs.Local.{local, local_at}
use Rattle.desk_pages.specs.Pieces.{dash, time_or_dash}
use Rattle.desk_pages.specs.Rows.{is_late, word_of_class}
use Rattle.desk_pages.specs.declared.markup.facts.TheConstants.{FACTS_END, FACTS_TOP, FILED_END}
use Rattle.desk_pages.specs.declared.markup.facts.TheConstants.{LEVEL}

-- the class of a status, if there is such a lifecycle
abbrev pub class_in : Option Parts → List ℕ → Option Class
class_in None status = None
class_in (Some lifecycle) status = class_of lifecycle status

-- the word for the class of its status in the lifecycle of its queue
abbrev pub state_of : Settings → Dossier → List ℕ
state_of settings dossier =
    word_of_class
    (class_in (lifecycle_named settings dossier.queue.lifecycle) dossier.shown.row.status)

-- the zone of the calendar of a level of that name, if there is one
abbrev pub zone_of_level : Settings → List ℕ → Option Offsets
zone_of_level settings name =
    option_and_then (λ level. zone_named settings level.calendar) (level_named settings name)

-- the zone of the calendar of a request's level, if it has one
abbrev pub zone_of : Settings → RequestRow → Option Offsets
zone_of settings row = option_and_then (zone_of_level settings) row.level

-- the status with the word for its class, and the owner, up to the due moment; whether it is late is a
-- class
unfoldable pub state_facts : List ℕ → Bool → RequestRow → List Part
state_facts state late row =
    filled FACTS_TOP.now (state ∷ row.status ∷ or_nobody row.owner ∷ []) (late ∷ [])

-- what follows the due moment: whether it is late, its level, and when it was filed
unfoldable pub level_facts : Bool → RequestRow → List Part
level_facts late row =
    filled LEVEL.now
    (unwrap_or row.level dash ∷ day row.created ∷ clock row.created
    ∷ day row.created ∷ clock row.created ∷ []) (late ∷ [])

-- when it is due, with local time
abbrev pub due_fact : Option Offsets → Option ℕ → List Part
due_fact zone due = time_or_dash due ++ local (local_at zone due)

-- local time beside when it was filed
abbrev pub filed_fact : Option Offsets → ℕ → List Part
filed_fact zone created = local (local_at zone (Some created)) ++ filled FILED_END.now [] []

-- what its row tells at a moment, and when it is due
unfoldable pub own_facts : ℕ → Settings → Dossier → List Part
own_facts moment settings dossier =
    let late = is_late moment dossier.shown.due in
    let zone = zone_of settings dossier.shown.row in
    state_facts (state_of settings dossier) late dossier.shown.row
    ++ (due_fact zone dossier.shown.due
    ++ (level_facts late dossier.shown.row ++ filed_fact zone dossier.shown.row.created))

-- all of them, of the request of a number, with crosses for a caller or without; these rows tell of the
-- requests that it is linked with
abbrev pub facts : Bool → ℕ → List ℕ → ℕ → Settings → Dossier → List RequestRow → List Part
facts buttons id caller moment settings dossier rows =
    own_facts moment settings dossier
    ++ (roles buttons id caller dossier.shown
    ++ (links_told buttons id caller rows dossier.shown.links ++ filled FACTS_END.now [] []))

-- what the markup tells: whether it is due, whether it is late, and whether local time stands beside
-- when it is due and when it was filed; and how many there are in its lists
pub record FactsTold : Type 0 where
  pub due : Bool
  pub late : Bool
  pub due_here : Bool
  pub filed_here : Bool
  pub many : List ℕ

abbrev pub facts_told : ℕ → Settings → Dossier → FactsTold
facts_told moment settings dossier =
    record {
      due = is_some dossier.shown.due;
      late = is_late moment dossier.shown.due;
      due_here = is_some (local_at (zone_of settings dossier.shown.row) dossier.shown.due);
      filed_here = is_some (local_at (zone_of settings dossier.shown.row)
          (Some dossier.shown.row.created));
      many = many_told dossier.shown;
    }
