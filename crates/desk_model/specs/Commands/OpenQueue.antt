-- Opens a queue.
use Rattle.std.specs.Prelude.{ℕ, Bool, not, ◌||◌, List, [], ◌∷◌}
use Rattle.std.specs.Prelude.{nat_le, Option, is_some, is_none}
use Rattle.rights_core.specs.Right.{admin_queue}
use Rattle.settings_core.specs.Settings.{lifecycle_named}
use Rattle.settings_core.specs.declared.settings.Settings.{Settings}
use Rattle.text_core.specs.Form.{is_name}
use Rattle.desk_model.specs.Change.{opening}
use Rattle.desk_model.specs.Condition.{Condition}
use Rattle.desk_model.specs.Known.{knows_level}
use Rattle.desk_model.specs.Plan.{Call}
use Rattle.desk_model.specs.Rights.{holds_on_queue}
use Rattle.desk_model.specs.declared.change.Change.{Change}
use Rattle.desk_model.specs.declared.facts.Facts.{Facts}
use Rattle.desk_model.specs.declared.refusal.Refusal.TheVariants.{BadText, UnknownName}
use Rattle.desk_model.specs.declared.refusal.Refusal.TheVariants.{Denied, Exists, Full}

-- no more queues than these are opened
abbrev pub queue_limit : ℕ
queue_limit = 1000

-- the lifecycle or the level isn't one of the settings
abbrev pub is_unknown : Settings → List ℕ → Option (List ℕ) → Bool
is_unknown settings lifecycle level =
    is_none (lifecycle_named settings lifecycle) || not (knows_level settings level)

-- what is asked of the words, on every desk alike
abbrev pub beforehand : List ℕ → List ℕ → Option (List ℕ) → Call → List Condition
beforehand name lifecycle level call =
    (BadText, not (is_name name))
    ∷ (UnknownName, is_unknown call.settings lifecycle level)
    ∷ []

abbrev pub conditions : List ℕ → Call → Facts → List Condition
conditions name call facts =
    (Denied admin_queue, not (holds_on_queue call.settings call.caller admin_queue name))
    ∷ (Exists, is_some facts.queue)
    ∷ (Full, nat_le queue_limit facts.queue_count)
    ∷ []

abbrev pub change : List ℕ → List ℕ → Option (List ℕ) → Call → Facts → Change
change name lifecycle level call facts =
    opening (record { name = name; lifecycle = lifecycle; level = level })
