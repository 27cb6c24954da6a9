-- A command for whose text there is no memory counts as one that was out of memory.
use Rattle.std.proofs.Common.{◌≡◌, Err, Ok, OnErr, Result, false, inl, refl}
use Rattle.sqlite.specs.State.{State}
use Rattle.settings_core.specs.declared.settings.Settings.{Settings}
use Rattle.desk_model.specs.declared.refusal.Refusal.TheVariants.{Unavailable}
use Rattle.desk_model.specs.Step.{Ask, Outcome}
use Rattle.desk_texts.proofs.DeskUnchanged.{unchanged_if_long}
use Rattle.desk_texts.specs.Short.{is_short}
use Rattle.store_tables.proofs.Spared.{unread}
use Rattle.service_core.specs.TableSteps.{StepOverTables}
use Rattle.service_core.proofs.Laws.{lawful}
use Rattle.service_core.proofs.Stepping.{unavailable_on}

-- a command that was done, and whose text is long: it only read
pub left_out_if_long : (s : Settings) (ask : Ask) (outcome : Outcome) (old new : State)
    → is_short outcome ≡ false → StepOverTables s ask outcome old new
    → StepOverTables s ask (Err Unavailable) old new
left_out_if_long s ask outcome old new long steps desk is stand clean =
    let done = steps desk is stand clean in
    let same =
    unchanged_if_long s ask.at ask.caller ask.command desk done.0 outcome long done.1.0.step in (
      done.0,
      (lawful s ask desk (Err Unavailable) done.0 is (inl (refl, same)), done.1.1),
      done.2,
    )

-- one for whose text there was no room
pub left_out : (s : Settings) (ask : Ask) (tables : State)
    → StepOverTables s ask (Err Unavailable) tables tables
left_out s ask tables = unavailable_on s ask Unavailable tables tables refl (unread tables)

-- what holds anyway holds at an error
pub at_err : {A E : Type 0} (r : Result A E) (P : Type 0) → P → OnErr r P
at_err (Ok a) P holds = tt
at_err (Err e) P holds = holds
