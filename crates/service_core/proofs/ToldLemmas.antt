-- What is read of the tables is the answer.
use Rattle.std.proofs.Common.{◌≡◌, ◌∙◌, ℕ, List, [], Option, Some, None, refl, sym, ap, filter}
use Rattle.std.specs.Prelude.{option_and_then}
use Rattle.std.specs.Option.{option_map, option_map_or}
use Rattle.hours_core.specs.declared.stay.Stay.{Stay}
use Rattle.settings_core.specs.declared.settings.Settings.{Settings}
use Rattle.desk_model.specs.declared.answer.Answer.{Answer}
use Rattle.desk_model.specs.declared.answer.Answer.TheVariants as answer
use Rattle.desk_model.specs.declared.command.Command.TheVariants as command
use Rattle.desk_model.specs.declared.facts.Facts.{Facts}
use Rattle.desk_model.specs.declared.facts.SeenRequest.{SeenRequest}
use Rattle.desk_model.specs.declared.rows.QueueRow.{QueueRow}
use Rattle.desk_model.specs.Desk.{Desk, Request, request_at}
use Rattle.desk_model.specs.Due.{due_of}
use Rattle.desk_model.specs.Facts.{queue_of, seen_request}
use Rattle.desk_model.specs.Plan.{answer_of_request}
use Rattle.desk_model.specs.Readings.History.{entries_told}
use Rattle.desk_model.specs.Readings.Show.{shown_of}
use Rattle.desk_model.specs.Stays.{stays_of}
use Rattle.desk_model.specs.Step.{answer_of}
use Rattle.desk_model.specs.Rights.{may_show_comments}
use Rattle.desk_model.specs.Step.{facts_of}
use Rattle.desk_core.proofs.Goes.{number_found}
use Rattle.store_tables.specs.Contents.{history_at}
use Rattle.service_core.specs.Shown.{due_in, is_told, shown_to, told_to}

-- as `due_in`, of the queue, the stays and the request
abbrev due_at : Settings → Option QueueRow → List Stay → Option SeenRequest → Option ℕ
due_at settings queue stays request =
    option_and_then (λ q. option_and_then (λ request. due_of settings q stays request.row) request)
    queue

-- where a command sees no request, nothing is told of one
nothing_at : (o : Option Request) (made : Request → Answer) → option_map seen_request o ≡ None
    → answer.Done ≡ answer_of_request o made
nothing_at None made e = refl
nothing_at (Some r) made e = cc

pub nothing_shown : (settings : Settings) (at : ℕ) (caller : List ℕ) (desk : Desk) (id : ℕ)
    (facts : Facts) → facts.request ≡ None → facts ≡ facts_of (command.Show id) desk
    → answer.Done ≡ answer_of settings at caller (command.Show id) desk
nothing_shown settings at caller desk id facts none seen =
    nothing_at (request_at desk id) _ (sym (ap (λ f. f.request) seen) ∙ none)

pub nothing_told : (settings : Settings) (at : ℕ) (caller : List ℕ) (desk : Desk) (id : ℕ)
    (facts : Facts) → facts.request ≡ None → facts ≡ facts_of (command.History id) desk
    → answer.Done ≡ answer_of settings at caller (command.History id) desk
nothing_told settings at caller desk id facts none seen =
    nothing_at (request_at desk id) _ (sym (ap (λ f. f.request) seen) ∙ none)

-- what is shown of the request that a command sees
shown_of_it : (settings : Settings) (caller : List ℕ) (desk : Desk) (o : Option Request)
    (facts : Facts) (request : SeenRequest) → facts.request ≡ Some request
    → facts.request ≡ option_map seen_request o → facts.queue ≡ queue_of desk o
    → facts.stays ≡ option_map_or (λ (r : Request). stays_of r.entries) o []
    → answer.Shown (shown_to settings caller (due_in settings facts) request desk)
    ≡ answer_of_request o (λ r. answer.Shown (shown_of settings caller desk r))
shown_of_it settings caller desk None facts request some seen queue stays = cc
shown_of_it settings caller desk (Some r) facts request some seen queue stays =
    let same : request ≡ seen_request r = cc in
    let due = due_at settings (queue_of desk (Some r)) in
    ap (λ v. answer.Shown (shown_to settings caller (due_at settings v facts.stays facts.request)
    request desk)) queue
    ∙ ap (λ v. answer.Shown (shown_to settings caller (due v facts.request) request desk)) stays
    ∙ ap (λ v. answer.Shown (shown_to settings caller (due (stays_of r.entries) v) request desk))
    seen
    ∙ ap (λ v. answer.Shown (shown_to settings caller
    (due (stays_of r.entries) (Some (seen_request r))) v desk)) same

pub shows : (settings : Settings) (at : ℕ) (caller : List ℕ) (desk : Desk) (id : ℕ)
    (facts : Facts) (request : SeenRequest) → facts.request ≡ Some request
    → facts ≡ facts_of (command.Show id) desk
    → answer.Shown (shown_to settings caller (due_in settings facts) request desk)
    ≡ answer_of settings at caller (command.Show id) desk
shows settings at caller desk id facts request some seen =
    shown_of_it settings caller desk (request_at desk id) facts request some
    (ap (λ f. f.request) seen) (ap (λ f. f.queue) seen) (ap (λ f. f.stays) seen)

-- what is told of the history of the request that a command sees
told_of_it : (settings : Settings) (caller : List ℕ) (desk : Desk) (id : ℕ) (o : Option Request)
    (request : SeenRequest) → request_at desk id ≡ o → option_map seen_request o ≡ Some request
    → answer.History (told_to settings caller request desk)
    ≡ answer_of_request o (λ r. answer.History (entries_told settings caller r))
told_of_it settings caller desk id None request there e = cc
told_of_it settings caller desk id (Some r) request there e =
    let same : request ≡ seen_request r = cc in
    ap (λ s. answer.History (told_to settings caller s desk)) same
    ∙ ap (λ n. answer.History (filter (is_told (may_show_comments settings caller (seen_request r)))
    (history_at desk n))) (number_found desk id r there)
    ∙ ap (λ o. answer.History (filter (is_told (may_show_comments settings caller (seen_request r)))
    (option_map_or (λ (q : Request). q.entries) o []))) there

pub tells : (settings : Settings) (at : ℕ) (caller : List ℕ) (desk : Desk) (id : ℕ)
    (facts : Facts) (request : SeenRequest) → facts.request ≡ Some request
    → facts ≡ facts_of (command.History id) desk
    → answer.History (told_to settings caller request desk)
    ≡ answer_of settings at caller (command.History id) desk
tells settings at caller desk id facts request some seen =
    told_of_it settings caller desk id (request_at desk id) request refl
    (sym (ap (λ f. f.request) seen) ∙ some)
