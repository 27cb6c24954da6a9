-- What is told of a request by one look: what `show` and `history` answer, and its queue.
use Rattle.std.specs.Prelude.{◌≡◌, ℕ, List, IfOk, Result}
use Rattle.sqlite.specs.State.{State, HasCleanDisk}
use Rattle.settings_core.specs.declared.settings.Settings.{Settings}
use Rattle.desk_model.specs.declared.answer.Answer.TheVariants as answer
use Rattle.desk_model.specs.declared.answer.Dossier.{Dossier}
use Rattle.desk_model.specs.declared.command.Command.TheVariants.{Show, History}
use Rattle.desk_model.specs.declared.refusal.Refusal.{Refusal}
use Rattle.desk_model.specs.Desk.{Desk}
use Rattle.desk_model.specs.IsDesk.{IsDesk}
use Rattle.desk_model.specs.Readings.Dossier.{IsOfQueue, history_in, shown_in}
use Rattle.desk_model.specs.Step.{answer_of}
use Rattle.store_core.specs.Due.{RepresentsWithDue}
use Rattle.service_core.specs.TableSteps.{IsStep, ask_by}

-- both readings are steps of the desk, which stays, and the queue is that of the request
pub record IsDossier (settings : Settings) (at : ℕ) (caller : List ℕ) (id : ℕ) (desk : Desk)
    (result : Result Dossier Refusal) : Type 0 where
  pub shown : IsStep settings (ask_by at caller (Show id)) desk (shown_in result) desk
  pub history : IsStep settings (ask_by at caller (History id)) desk (history_in result) desk
  pub queue : IfOk result (λ dossier. IsOfQueue dossier desk)

-- from whatever desk the tables stand for, of which this holds
abbrev pub DossierWhere : (Desk → Type 0) → Settings → ℕ → List ℕ → ℕ → Result Dossier Refusal
    → State → State → Type 0
DossierWhere Holds settings at caller id result old new =
    (desk : Desk) → IsDesk desk → Holds desk → RepresentsWithDue settings desk old → HasCleanDisk new
    → IsDossier settings at caller id desk result × RepresentsWithDue settings desk new

-- whatever desk the tables stand for, this is told of it, and it stays
abbrev pub DossierOn : Settings → ℕ → List ℕ → ℕ → Result Dossier Refusal → State → State → Type 0
DossierOn settings at caller id result old new =
    (desk : Desk) → IsDesk desk → RepresentsWithDue settings desk old → HasCleanDisk new
    → IsDossier settings at caller id desk result × RepresentsWithDue settings desk new

-- the answers of both readings, and the queue
pub record IsTold (settings : Settings) (at : ℕ) (caller : List ℕ) (id : ℕ) (desk : Desk)
    (dossier : Dossier) : Type 0 where
  pub shown : answer.Shown dossier.shown ≡ answer_of settings at caller (Show id) desk
  pub history : answer.History dossier.entries ≡ answer_of settings at caller (History id) desk
  pub queue : IsOfQueue dossier desk
