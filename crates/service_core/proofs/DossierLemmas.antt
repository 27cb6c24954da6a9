-- What is told of a request by one look makes both readings steps.
use Rattle.std.proofs.Common.{◌≡◌, ◌≢◌, ◌∙◌, ℕ, List, Option, Some, None, Result, Ok, Err, IfErr}
use Rattle.std.proofs.Common.{IfOk, refl, sym, ap}
use Rattle.sqlite.specs.State.{State}
use Rattle.settings_core.specs.declared.settings.Settings.{Settings}
use Rattle.desk_model.specs.declared.answer.Answer.TheVariants as answer
use Rattle.desk_model.specs.declared.answer.Dossier.{Dossier}
use Rattle.desk_model.specs.declared.answer.Shown as declared
use Rattle.desk_model.specs.declared.command.Command.TheVariants.{Show, History}
use Rattle.desk_model.specs.declared.facts.Facts.{Facts}
use Rattle.desk_model.specs.declared.refusal.Refusal.{Refusal}
use Rattle.desk_model.specs.declared.refusal.Refusal.TheVariants.{Unavailable}
use Rattle.desk_model.specs.declared.rows.Entry.{Entry}
use Rattle.desk_model.specs.declared.rows.QueueRow.{QueueRow}
use Rattle.desk_model.specs.Desk.{Desk, Request, queue_at, request_at}
use Rattle.desk_model.specs.Facts.{facts_on_request, queue_of}
use Rattle.desk_model.specs.IsDesk.{IsDesk}
use Rattle.desk_model.specs.Plan.{answer_of_request}
use Rattle.desk_model.specs.Readings.Show.{shown_of}
use Rattle.desk_model.specs.Step.{answer_of, guard}
use Rattle.store_core.specs.Due.{TellsDue, due_of_row}
use Rattle.store_tables.proofs.Spared.{stands}
use Rattle.store_tables.specs.Calls.{LeavesTables}
use Rattle.store_tables.specs.Contents.{contents_of}
use Rattle.service_core.specs.Dossiers.{DossierWhere, IsDossier, IsTold}
use Rattle.service_core.specs.TableSteps.{ask_by}
use Rattle.service_core.proofs.Stepping.{reading_step, refused_step}

-- the queue that is seen with a request is that of the request which is shown
of_request : (settings : Settings) (caller : List ℕ) (desk : Desk) (o : Option Request)
    (shown : declared.Shown) (queue : QueueRow)
    → answer.Shown shown
    ≡ answer_of_request o (λ r. answer.Shown (shown_of settings caller desk r))
    → queue_of desk o ≡ Some queue → queue_at desk shown.row.queue ≡ Some queue
of_request settings caller desk None shown queue e q = cc
of_request settings caller desk (Some r) shown queue e q =
    let same : shown ≡ shown_of settings caller desk r = cc in
    ap (λ (s : declared.Shown). queue_at desk s.row.queue) same ∙ q

pub its_queue : (settings : Settings) (at : ℕ) (caller : List ℕ) (id : ℕ) (desk : Desk)
    (facts : Facts) (shown : declared.Shown) (queue : QueueRow)
    → facts ≡ facts_on_request desk id
    → answer.Shown shown ≡ answer_of settings at caller (Show id) desk
    → facts.queue ≡ Some queue → queue_at desk shown.row.queue ≡ Some queue
its_queue settings at caller id desk facts shown queue seen told there =
    of_request settings caller desk (request_at desk id) shown queue told
    (sym (ap (λ f. f.queue) seen) ∙ there)

-- both readings are refused alike
pub refused_both : (settings : Settings) (at : ℕ) (caller : List ℕ) (id : ℕ) (desk : Desk)
    (refusal : Refusal) → IsDesk desk
    → (refusal ≢ Unavailable → guard settings at caller (Show id) desk ≡ Some refusal)
    → IsDossier settings at caller id desk (Err refusal)
refused_both settings at caller id desk refusal is refuses = record {
  shown = refused_step settings (ask_by at caller (Show id)) desk refusal is refuses;
  history = refused_step settings (ask_by at caller (History id)) desk refusal is refuses;
  queue = tt;
}

-- and both answer where neither is refused
pub told_both : (settings : Settings) (at : ℕ) (caller : List ℕ) (id : ℕ) (desk : Desk)
    (dossier : Dossier) → IsDesk desk → guard settings at caller (Show id) desk ≡ None
    → IsTold settings at caller id desk dossier
    → IsDossier settings at caller id desk (Ok dossier)
told_both settings at caller id desk dossier is free told = record {
  shown =
      reading_step settings (ask_by at caller (Show id)) desk (answer.Shown dossier.shown) is refl
      free told.shown;
  history =
      reading_step settings (ask_by at caller (History id)) desk (answer.History dossier.entries)
      is refl free told.history;
  queue = told.queue;
}

is_told : (settings : Settings) (at : ℕ) (caller : List ℕ) (id : ℕ) (desk : Desk) (facts : Facts)
    (d : Dossier) → facts ≡ facts_on_request desk id
    → answer.Shown d.shown ≡ answer_of settings at caller (Show id) desk
    → answer.History d.entries ≡ answer_of settings at caller (History id) desk
    → facts.queue ≡ Some d.queue → IsTold settings at caller id desk d
is_told settings at caller id desk facts d seen shows tells queue = record {
  shown = shows;
  history = tells;
  queue = its_queue settings at caller id desk facts d.shown d.queue seen shows queue;
}

-- a dossier of what both readings answer
pub made : (settings : Settings) (at : ℕ) (caller : List ℕ) (id : ℕ) (desk : Desk) (facts : Facts)
    (shown : declared.Shown) (entries : List Entry) (result : Result Dossier Refusal)
    → (facts ≡ facts_on_request desk id
    → answer.History entries ≡ answer_of settings at caller (History id) desk)
    → IfOk result (λ d. d.shown ≡ shown) → IfOk result (λ d. d.entries ≡ entries)
    → IfOk result (λ d. facts.queue ≡ Some d.queue)
    → IfOk result (λ d. facts ≡ facts_on_request desk id
    → answer.Shown shown ≡ answer_of settings at caller (Show id) desk
    → IsTold settings at caller id desk d)
made settings at caller id desk facts shown entries (Ok d) tells one other queue =
    λ seen shows. is_told settings at caller id desk facts d seen (ap answer.Shown one ∙ shows)
    (ap answer.History other ∙ tells seen) queue
made settings at caller id desk facts shown entries (Err e) tells one other queue = tt

-- what is put together of the facts of a desk is its dossier
pub told_where : (settings : Settings) (at : ℕ) (caller : List ℕ) (id : ℕ) (facts : Facts)
    (result : Result Dossier Refusal) (old new : State)
    → ((desk : Desk) → facts ≡ facts_on_request desk id
    → guard settings at caller (Show id) desk ≡ None)
    → TellsDue settings (λ desk dossier. facts ≡ facts_on_request desk id
    → IsTold settings at caller id desk dossier) old new result
    → IfErr result (λ refusal. refusal ≡ Unavailable) → LeavesTables old new
    → DossierWhere (λ desk. facts ≡ facts_on_request desk id) settings at caller id result old new
told_where settings at caller id facts (Ok d) old new free told fault kept desk is seen stand clean = (
  told_both settings at caller id desk d is (free desk seen) (told desk is stand clean seen),
  stands kept (contents_of (due_of_row settings desk) desk) stand,
)
told_where settings at caller id facts (Err refusal) old new free told fault kept desk is seen stand
    clean = (
      refused_both settings at caller id desk refusal is (λ other. absurd (other fault)),
      stands kept (contents_of (due_of_row settings desk) desk) stand,
    )
