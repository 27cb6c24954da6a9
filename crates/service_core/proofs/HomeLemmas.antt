-- What the first page is told is what each of its readings would tell.
use Rattle.std.proofs.Common.{◌≡◌, ◌≢◌, ℕ, List, None, Option, Some, Result, Ok, Err, IfErr, IfOk, ap}
use Rattle.sqlite.specs.State.{State, HasCleanDisk}
use Rattle.settings_core.specs.declared.settings.Settings.{Settings}
use Rattle.desk_model.specs.Desk.{Desk}
use Rattle.desk_model.specs.IsDesk.{IsDesk}
use Rattle.desk_model.specs.Step.{refusal_beforehand}
use Rattle.desk_model.specs.declared.command.Command.{Command}
use Rattle.desk_model.specs.declared.command.Command.TheVariants.{Overdue}
use Rattle.desk_model.specs.declared.refusal.Refusal.{Refusal}
use Rattle.desk_model.specs.declared.refusal.Refusal.TheVariants.{Unavailable}
use Rattle.find_core.specs.Find.{findings, refusal_of, unless_refused}
use Rattle.find_core.specs.Home.{home}
use Rattle.find_core.specs.Loads.{queue_loads}
use Rattle.find_core.specs.declared.home.Home.{Home}
use Rattle.find_core.specs.declared.home.HomeSearches.{HomeSearches}
use Rattle.store_tables.proofs.Spared.{stands}
use Rattle.store_tables.specs.Calls.{LeavesTables}
use Rattle.store_tables.specs.Contents.{contents_of}
use Rattle.store_core.specs.Due.{RepresentsWithDue, TellsDue, due_of_row}
use Rattle.service_core.specs.Homes.{HomeOn, part_of}
use Rattle.service_core.proofs.FindLemmas.{read_so, refused_so}

part_told : {X : Type 0} (part : Home → X) (told : Home) (result : Result Home Refusal)
    → IfOk result (λ it. it ≡ told) → IfOk (part_of part result) (λ it. it ≡ part told)
part_told part told (Ok it) same = ap part same
part_told part told (Err refusal) same = tt

part_fails : {X : Type 0} (part : Home → X) (result : Result Home Refusal)
    → IfErr result (λ refusal. refusal ≡ Unavailable)
    → IfErr (part_of part result) (λ refusal. refusal ≡ Unavailable)
part_fails part (Ok it) fault = tt
part_fails part (Err refusal) fault = fault

module _ (s : Settings) (at : ℕ) (caller : List ℕ) (searches : HomeSearches) (limit : ℕ)
    (command : Command) (same : command ≡ Overdue) where
  -- what every desk refuses is refused to each reading, and the tables stay
  pub refused_to_all : (refusal : Refusal) → Some refusal ≡ refusal_beforehand s at caller command
      → (tables : State) → HomeOn s at caller searches limit (Err refusal) tables tables
  refused_to_all refusal is tables = record {
    own = λ desk formed stand clean. (
      λ told. refused_so s at caller (findings s at caller searches.own limit None desk) command same
          refusal is,
      stand,
    );
    asked = λ desk formed stand clean. (
      λ told. refused_so s at caller (findings s at caller searches.asked limit None desk) command
          same refusal is,
      stand,
    );
    free = λ desk formed stand clean. (
      λ told. refused_so s at caller (findings s at caller searches.free limit None desk) command same
          refusal is,
      stand,
    );
    loads = λ desk formed stand clean. (
      λ told. refused_so s at caller (queue_loads s at caller desk) command same refusal is,
      stand,
    );
  }

  -- what was read is what each reading would tell
  pub told_of_all : (result : Result Home Refusal) (old new : State)
      → None ≡ refusal_beforehand s at caller command
      → TellsDue s (λ desk told. told ≡ home s at caller searches limit desk) old new result
      → IfErr result (λ refusal. refusal ≡ Unavailable) → LeavesTables old new
      → HomeOn s at caller searches limit result old new
  told_of_all result old new none read fault kept = record {
    own = part (λ h. h.own);
    asked = part (λ h. h.asked);
    free = part (λ h. h.free);
    loads = part (λ h. h.loads);
  }
    where
      part : {X : Type 0} (of : Home → X) (desk : Desk) → IsDesk desk
          → RepresentsWithDue s desk old → HasCleanDisk new
          → (part_of of result ≢ Err Unavailable
          → part_of of result
          ≡ unless_refused (refusal_of s at caller) (of (home s at caller searches limit desk)))
          × RepresentsWithDue s desk new
      part of desk formed stand clean = (
        read_so s at caller (of (home s at caller searches limit desk)) command same
            (part_of of result) none
            (part_told of (home s at caller searches limit desk) result (read desk formed stand clean))
            (part_fails of result fault),
        stands kept (contents_of (due_of_row s desk) desk) stand,
      )
