-- What is told of a command over tables.
use Rattle.std.specs.Prelude.{◌≡◌, ◌≤◌, ℕ, true, false, List, length, Err}
use Rattle.sqlite.specs.State.{State}
use Rattle.settings_core.specs.declared.settings.Settings.{Settings}
use Rattle.desk_model.specs.declared.refusal.Refusal.TheVariants.{Unavailable}
use Rattle.desk_model.specs.Step.{Ask, Outcome}
use Rattle.desk_texts.specs.Short.{is_short}
use Rattle.desk_texts.specs.Texts.{outcome_text}
use Rattle.service_core.specs.TableSteps.{StepOverTables}

-- The step of the command, and the text of what came of it. A text that isn't short is of a command
-- that only read, which may still be told as `Unavailable` where there is no memory for more.
pub record TellsOn (settings : Settings) (ask : Ask) (old new : State) (outcome : Outcome)
    (text : List ℕ) : Type 0 where
  pub step : StepOverTables settings ask outcome old new
  pub told : text ≡ outcome_text outcome
  pub short : is_short outcome ≡ true → length text ≤ 64
  pub long : is_short outcome ≡ false → StepOverTables settings ask (Err Unavailable) old new
