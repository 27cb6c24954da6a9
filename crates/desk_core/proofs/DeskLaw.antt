-- Every step leaves a desk.
use Rattle.std.proofs.Common.{◌≡◌, ℕ, List, Option, Some, None, refl}
use Rattle.settings_core.specs.declared.settings.Settings.{Settings}
use Rattle.desk_model.specs.Change.{applied}
use Rattle.desk_model.specs.Commands.{plan_of}
use Rattle.desk_model.specs.Desk.{Desk, empty_desk}
use Rattle.desk_model.specs.IsDesk.{IsDesk}
use Rattle.desk_model.specs.Plan.{change_by}
use Rattle.desk_model.specs.Step.{call, desk_after, desk_unless, effect, facts_of, guard}
use Rattle.desk_model.specs.declared.change.Change.{Change}
use Rattle.desk_model.specs.declared.command.Command.{Command}
use Rattle.desk_model.specs.declared.refusal.Refusal.{Refusal}
use Rattle.desk_core.proofs.DeskLaw.ByKind.{change_fits}
use Rattle.desk_core.proofs.DeskLaw.Entries.{entries_follow}
use Rattle.desk_core.proofs.DeskLaw.Fitting.{Fits}
use Rattle.desk_core.proofs.DeskLaw.Links.{ends_there, links_rise}
use Rattle.desk_core.proofs.DeskLaw.Numbers.{stay_numbered}
use Rattle.desk_core.proofs.DeskLaw.Persons.{persons_after}
use Rattle.desk_core.proofs.DeskLaw.Queues.{each_in_queue, queues_named, queues_rise}
pub mod ByKind
pub mod Entries
pub mod Fitting
pub mod Links
pub mod Numbers
pub mod Persons
pub mod Queues
pub mod Stages

pub empty_is_desk : IsDesk empty_desk
empty_is_desk =
    record {
      queues = refl;
      named = refl;
      requests = refl;
      persons = refl;
      entries = refl;
      filed_in = refl;
      links = refl;
      ends = refl;
    }

-- a change that fits leaves a desk
desk_applied : (change : Change) (desk : Desk) → Fits desk change → IsDesk desk
    → IsDesk (applied change desk)
desk_applied change desk fits is =
    record {
      queues = queues_rise change desk fits.opens is.queues;
      named = queues_named change desk fits.named is.named;
      requests = stay_numbered change desk fits.files is.requests;
      persons = persons_after change desk is.persons;
      entries = entries_follow change desk fits.appends is.entries;
      filed_in = each_in_queue change desk fits.files fits.stays is.filed_in;
      links = links_rise change desk fits.links is.links;
      ends = ends_there change desk fits.links is.ends;
    }

desk_unless_refused : (s : Settings) (at : ℕ) (caller : List ℕ) (command : Command) (desk : Desk)
    (o : Option Refusal)
    → guard s at caller command desk ≡ o → IsDesk desk
    → IsDesk (desk_unless o desk (effect s at caller command desk))
desk_unless_refused s at caller command desk (Some refusal) refused is = is
desk_unless_refused s at caller command desk None free is =
    desk_applied (change_by (call s at caller) (facts_of command desk) (plan_of command)) desk
    (change_fits s at caller command desk is free) is

pub desk_law : (s : Settings) (at : ℕ) (caller : List ℕ) (command : Command) (desk : Desk)
    → IsDesk desk → IsDesk (desk_after s at caller command desk)
desk_law s at caller command desk is =
    desk_unless_refused s at caller command desk (guard s at caller command desk) refl is
