-- The step of a message, after which the tables are only looked at.
use Rattle.std.specs.Prelude.{Bool, ℕ, List}
use Rattle.sqlite.specs.State.{State}
use Rattle.settings_core.specs.declared.settings.Settings.{Settings}
use Rattle.store_tables.specs.Calls.{LeavesTables}
use Rattle.store_tables.specs.Contents.{contents_of}
use Rattle.store_tables.proofs.Lasting.{on}
use Rattle.store_tables.proofs.Spared.{stands}
use Rattle.store_core.specs.Due.{due_of_row}
use Rattle.web_core.specs.Messages.{Seen, StepsAt}

pub step_spared : (https : Bool) (s : Settings) (seen : Seen) (at : ℕ) (whole : List ℕ) (old mid new : State)
    → StepsAt https s seen at whole old mid → LeavesTables mid new → StepsAt https s seen at whole old new
step_spared https s seen at whole old mid new did kept = (
  λ desk is stand clean.
      let it = did.0 desk is stand (kept.clean clean) in
      (it.0, it.1, stands kept (contents_of (due_of_row s it.0) it.0) it.2),
  λ clean. did.1 (kept.clean clean),
  on kept.clean did.2 kept.lasts,
)
