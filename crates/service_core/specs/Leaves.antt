-- What a call leaves of the store, of a desk and of a writer, and what comes of a command beside
-- its answer.
use Rattle.std.specs.Prelude.{◌≡◌, Bool, true, IfErr, OnErr}
use Rattle.sqlite.specs.State.{State}
use Rattle.sqlite.specs.Store.{Ghosts}
use Rattle.desk_model.specs.Step.{Outcome}
use Rattle.store_tables.specs.Calls.{KeepsConnection, LeavesTables, WasClean}
use Rattle.stream_core.specs.Seen.{HaveOneWriter, has_write_failed}
use Rattle.stream_core.specs.declared.writer.CountedWriter.{CountedWriter}
use Rattle.service_core.specs.Seen.{settings_of, tables_of}
use Rattle.service_core.specs.declared.desk.Desk.{Desk}

-- A disk that is clean after the call was clean before it, and the connection lasts.
pub record KeepsStore (old new : State) : Type 0 where
  pub clean : WasClean old new
  pub lasts : KeepsConnection old new

-- What a call leaves of a desk: its settings as they were, and its store kept.
pub record LeavesDesk {S : Type 0} (g : Ghosts S) (old new : Desk S g) : Type 0 where
  pub same : settings_of g new ≡ settings_of g old
  pub clean : WasClean (tables_of g old) (tables_of g new)
  pub lasts : KeepsConnection (tables_of g old) (tables_of g new)

-- What a call that only reads leaves of a desk: its settings as they were, and its tables spared.
pub record SparesDesk {S : Type 0} (g : Ghosts S) (old new : Desk S g) : Type 0 where
  pub same : settings_of g new ≡ settings_of g old
  pub kept : LeavesTables (tables_of g old) (tables_of g new)

-- What a call leaves of a writer: it is the same one, and whether a write of it has failed.
pub record LeavesWriter {W : Type 0} (has_failed : Bool) (old new : CountedWriter W) : Type 0 where
  pub same_writer : HaveOneWriter new old
  pub failed : has_write_failed new ≡ has_failed

-- What is done of a command is `Does`. Where it is refused the tables stay as they were, whatever
-- rows they have. The store is kept.
pub record StepsSafely (Does : Outcome → State → State → Type 0) (old new : State)
    (outcome : Outcome) : Type 0 where
  pub step : Does outcome old new
  pub refused : OnErr outcome (LeavesTables old new)
  pub keeps : KeepsStore old new
