-- What a step adds to the history of a request.
use Rattle.std.proofs.Common.{◌≡◌, ◌∙◌, ℕ, ◌==◌, true, List, [], ◌∷◌, ◌++◌}
use Rattle.std.proofs.Common.{Option, Some, None, refl, ap, sym, subst, append-nil}
use Rattle.std.proofs.lemmas.Bool.{cond-true, eq-eqb}
use Rattle.rights_core.specs.Right.{comment_on_ticket, reply_to_ticket}
use Rattle.desk_model.specs.Change.{revising}
use Rattle.desk_model.specs.Commands.{plan_of}
use Rattle.desk_model.specs.Commands.Reply as reply
use Rattle.desk_model.specs.Desk.{Desk, Request, queue_at, request_at}
use Rattle.desk_model.specs.Facts.{seen_request}
use Rattle.desk_model.specs.Plan.{Call, Stays, besides_on}
use Rattle.desk_model.specs.Rights.{holds_on}
use Rattle.desk_model.specs.Step.{answer_of, call, guard}
use Rattle.desk_model.specs.declared.change.Change.{Change}
use Rattle.desk_model.specs.declared.command.Command.{Command}
use Rattle.desk_model.specs.declared.command.Command.TheVariants as command
use Rattle.desk_model.specs.declared.rows.Entry.{Entry}
use Rattle.desk_model.specs.declared.rows.EntryKind.TheVariants as kind
use Rattle.desk_model.specs.declared.rows.RequestRow.{RequestRow}
use Rattle.desk_core.proofs.Changed.{changed, entries_changed, entries_for, row_changed, row_id}
use Rattle.desk_core.proofs.DeskLaw.ByKind.{MeetsAt, by_plan_at}
use Rattle.desk_core.proofs.Goes.{holding}
use Rattle.desk_core.proofs.Identity.{row_in}
use Rattle.desk_core.proofs.Kept.{reopening_allowed}
use Rattle.desk_core.proofs.KnownLaw.ByKind.{no_return}
use Rattle.desk_core.proofs.Moved.{AtEachStep, reopens, step, step_of}
use Rattle.desk_core.proofs.Steps.{Makes, each_step, makes_at, makes_none, reads_none, row_made}
use Rattle.desk_core.proofs.Taken.{free_of}
use Rattle.desk_core.specs.Laws.{Adds, HistoryLaw, Reopens, Step}
use Rattle.desk_core.specs.Laws.{changed_by, cycle, request_of, words}

abbrev Noted : Step → Request → Request → Type 0
Noted s b a = (more : List Entry) × (a.entries ≡ b.entries ++ more) × Adds s b a more

-- one entry of the request is added
noted_once : (s : Step) (r : Request) (change : Change) (id : ℕ) (e : Entry) → id ≡ r.row.id
    → change.entries ≡ e ∷ [] → e.id ≡ r.row.id → changed_by s.command ≡ Some (id, e.kind)
    → e.moment ≡ s.at → e.actor ≡ s.caller → row_id r.row.id change.row ≡ r.row.id
    → (e.head, e.body) ≡ words r.row (row_in change.row r.row) s.command
    → (e.kind ≡ kind.Reply → holds_on s.settings s.caller reply_to_ticket (seen_request r) ≡ true)
    → (e.kind ≡ kind.Comment
    → holds_on s.settings s.caller comment_on_ticket (seen_request r) ≡ true)
    → Noted s r (changed change r)
noted_once s r change id e same are own kind when by number says replies comments = (
  e ∷ [],
  entries_changed change r
      ∙ ap (λ (es : List Entry). r.entries ++ entries_for r.row.id es) are
      ∙ ap (λ (es : List Entry). r.entries ++ es)
      (cond-true (r.row.id == e.id) (e ∷ []) [] (eq-eqb r.row.id e.id (sym own))),
  (
    subst (λ (n : ℕ). changed_by s.command ≡ Some (n, e.kind)) same kind,
    (when, by),
    says ∙ ap (λ (row : RequestRow). words r.row row s.command)
        (sym (row_changed change r ∙ row_made change.row r.row number)),
    replies,
    comments,
  ),
)

makes_note : (call : Call) (asked : Command) (desk : Desk) (id : ℕ) (r : Request)
    (change : Change) (e : Entry) → request_at desk id ≡ Some r
    → ((n : ℕ) → request_of asked ≡ Some n → n ≡ id) → id ≡ r.row.id
    → change.entries ≡ e ∷ [] → e.id ≡ r.row.id → changed_by asked ≡ Some (id, e.kind)
    → e.moment ≡ call.at → e.actor ≡ call.caller → row_id r.row.id change.row ≡ r.row.id
    → (e.head, e.body) ≡ words r.row (row_in change.row r.row) asked
    → (e.kind ≡ kind.Reply
    → holds_on call.settings call.caller reply_to_ticket (seen_request r) ≡ true)
    → (e.kind ≡ kind.Comment
    → holds_on call.settings call.caller comment_on_ticket (seen_request r) ≡ true)
    → Makes (Noted (step_of call asked desk)) asked desk change
makes_note call asked desk id r change e there only same are own kind when by number says replies
    comments =
    makes_at (Noted (step_of call asked desk)) asked desk id r change there only
    (noted_once (step_of call asked desk) r change id e same are own kind when by number says
    replies comments)

-- the change of a reply that moves so
abbrev replying : Call → Desk → ℕ → List ℕ → Request → Option (List ℕ) → Change
replying call desk id text r move =
    revising (reply.replied_row call (besides_on Stays id desk) move (seen_request r))
    (reply.entries_of text call (seen_request r) move)

reply_noted : (call : Call) (desk : Desk) (id : ℕ) (text : List ℕ) (r : Request)
    (move : Option (List ℕ)) → request_at desk id ≡ Some r → id ≡ r.row.id
    → holds_on call.settings call.caller reply_to_ticket (seen_request r) ≡ true
    → reply.move_of call (besides_on Stays id desk) (seen_request r) ≡ move
    → Noted (step_of call (command.Reply id text) desk) r
    (changed (replying call desk id text r move) r)
reply_noted call desk id text r None there same may moves =
    noted_once (step_of call (command.Reply id text) desk) r (replying call desk id text r None) id _
    same refl refl refl refl refl refl refl (λ e. may) (λ e. cc)
reply_noted call desk id text r (Some to) there same may moves =
    let s = step_of call (command.Reply id text) desk in
    let change = replying call desk id text r (Some to) in
    let entries = reply.entries_of text call (seen_request r) (Some to) in
    let row : (changed change r).row
    ≡ reply.replied_row call (besides_on Stays id desk) (Some to) (seen_request r) =
    row_changed change r ∙ row_made change.row r.row refl in
    let status : (changed change r).row.status ≡ to = ap (λ (x : RequestRow). x.status) row in
    let opens : Reopens s r to = reopens call (command.Reply id text) desk id r to there moves in
    let own : entries_for r.row.id entries ≡ entries = rw (eq-eqb r.row.id r.row.id refl) refl in (
      entries,
      entries_changed change r ∙ ap (λ (es : List Entry). r.entries ++ es) own,
      (
        (ap (λ (n : ℕ). Some (n, kind.Reply)) same, (refl, refl), refl, λ e. may, λ e. cc),
        (text, ap (λ (n : ℕ). command.Reply n text) same),
        subst (λ (x : List ℕ). Reopens s r x) (sym status) opens,
        (refl, refl),
        refl,
        refl,
        sym status,
        λ sound same_status. no_return call.settings (queue_at desk r.row.queue) r.row.status sound
            (reopening_allowed (cycle s r) r.row.status r.row.status
            (opens.0 ∙ ap Some (sym status ∙ same_status))),
      ),
    )

notes_met : (call : Call) (desk : Desk) (asked : Command)
    → MeetsAt call (Makes (Noted (step_of call asked desk)) asked) desk (plan_of asked)
notes_met call desk (command.OpenQueue name lifecycle level) = λ none.
    makes_none (Noted (step_of call (command.OpenQueue name lifecycle level) desk))
    (command.OpenQueue name lifecycle level) desk _ refl
notes_met call desk (command.Create queue subject status requestors) = λ none.
    makes_none (Noted (step_of call (command.Create queue subject status requestors) desk))
    (command.Create queue subject status requestors) desk _ refl
notes_met call desk command.Queues = λ r there same none.
    makes_none (Noted (step_of call command.Queues desk)) command.Queues desk _ refl
notes_met call desk (command.Show id) = λ r there same none.
    makes_none (Noted (step_of call (command.Show id) desk)) (command.Show id) desk _ refl
notes_met call desk (command.List queue) = λ r there same none.
    makes_none (Noted (step_of call (command.List queue) desk)) (command.List queue) desk _ refl
notes_met call desk (command.History id) = λ r there same none.
    makes_none (Noted (step_of call (command.History id) desk)) (command.History id) desk _ refl
notes_met call desk command.Overdue = λ r there same none.
    makes_none (Noted (step_of call command.Overdue desk)) command.Overdue desk _ refl
notes_met call desk command.Workload = λ r there same none.
    makes_none (Noted (step_of call command.Workload desk)) command.Workload desk _ refl
notes_met call desk (command.Reply id text) = λ r there same none.
    makes_at (Noted (step_of call (command.Reply id text) desk)) (command.Reply id text) desk id r _
    there (λ n e. cc)
    (reply_noted call desk id text r
    (reply.move_of call (besides_on Stays id desk) (seen_request r)) there same
    (holding (holds_on call.settings call.caller reply_to_ticket (seen_request r)) none.0) refl)
notes_met call desk (command.Comment id text) = λ r there same none.
    makes_note call (command.Comment id text) desk id r _ _ there (λ n e. cc) same refl refl refl refl
    refl refl refl (λ e. cc)
    (λ e. holding (holds_on call.settings call.caller comment_on_ticket (seen_request r)) none.0)
notes_met call desk other = λ r there same none.
    makes_note call other desk _ r _ _ there (λ n e. cc) same refl refl refl refl refl refl refl
    (λ e. cc) (λ e. cc)

pub history_law : AtEachStep HistoryLaw
history_law s at caller asked desk is =
    let asks = call s at caller in
    let P = Noted (step s at caller asked desk) in
    each_step P s at caller asked desk is
    (λ b there off. (
      [],
      sym (append-nil b.entries),
      λ accepted. off (free_of (guard s at caller asked desk) (answer_of s at caller asked desk)
          accepted),
    ))
    (by_plan_at (Makes P asked) asks (plan_of asked) desk
    (λ reads. makes_none P asked desk _ (reads_none asked reads)) (notes_met asks desk asked))
