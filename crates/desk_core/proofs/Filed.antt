-- A request that wasn't there is filed by the command.
use Rattle.std.proofs.Common.{◌≡◌, ◌∙◌, ℕ, ◌+◌, ◌==◌, true, List, [], ◌∷◌, Option, Some, None}
use Rattle.std.proofs.Common.{arith, if◌then◌else◌, length, refl, ap, sym, subst}
use Rattle.std.specs.Option.{option_and_then}
use Rattle.std.proofs.lemmas.Bool.{cond-false, cond-true, eq-eqb, ne_eqb}
use Rattle.settings_core.specs.declared.settings.Settings.{Settings}
use Rattle.text_core.specs.Texts.{is_among}
use Rattle.desk_model.specs.Change.{filed, no_change}
use Rattle.desk_model.specs.Commands.{plan_of}
use Rattle.desk_model.specs.Commands.Create as create
use Rattle.desk_model.specs.Desk.{Desk, Request, queue_at, request_at, request_count}
use Rattle.desk_model.specs.Facts.{facts_on_queue}
use Rattle.desk_model.specs.Lifecycles.{first_status, is_creatable, lifecycle_of}
use Rattle.rights_core.specs.Right.{create_ticket}
use Rattle.desk_model.specs.Plan.{Call, change_by}
use Rattle.desk_model.specs.Rights.{holds_on_queue}
use Rattle.desk_model.specs.Step.{call, desk_unless, effect, facts_of, guard}
use Rattle.desk_model.specs.declared.change.Change.{Change}
use Rattle.desk_model.specs.declared.command.Command.{Command}
use Rattle.desk_model.specs.declared.command.Command.TheVariants as command
use Rattle.desk_model.specs.declared.refusal.Refusal.{Refusal}
use Rattle.desk_model.specs.declared.rows.Entry.{Entry}
use Rattle.desk_model.specs.declared.rows.EntryKind.TheVariants as kind
use Rattle.desk_model.specs.declared.rows.RequestRow.{RequestRow}
use Rattle.desk_model.specs.declared.rows.Turn.TheVariants as turn
use Rattle.desk_core.proofs.Changed.{changed, entries_changed, row_changed}
use Rattle.desk_core.proofs.DeskLaw.ByKind.{MeetsAt, by_plan_at}
use Rattle.desk_core.proofs.Filing.{filed_by, filed_so, not_both}
use Rattle.desk_core.proofs.Goes.{NoneHolds}
use Rattle.desk_core.proofs.Moved.{AtEachStep, step_of}
use Rattle.desk_core.specs.Laws.{FilingLaw, IsBy, Step, cycle}

given_alike : (caller : List ℕ) (given : List (List ℕ)) (name : List ℕ)
    → is_among (create.given_or_caller caller given) name
    ≡ is_among (if length given == 0 then caller ∷ [] else given) name
given_alike caller [] name = refl
given_alike caller (person ∷ persons) name =
    ap (λ (given : List (List ℕ)). is_among given name)
    (sym (cond-false (length (person ∷ persons) == 0) (caller ∷ []) (person ∷ persons)
    (ne_eqb (length (person ∷ persons)) 0 (λ e. omega (arith, e)))))

-- what the law says of a request that a step files
abbrev Filed : Step → Request → Type 0
Filed s r =
    (subject : List ℕ) × (status : Option (List ℕ)) × (given : List (List ℕ))
    × (s.command ≡ command.Create r.row.queue subject status given)
    × (holds_on_queue s.settings s.caller create_ticket r.row.queue ≡ true)
    × (r.row.id ≡ request_count s.old + 1) × (r.row.subject ≡ subject)
    × (r.row.status ≡ first_status (cycle s r) status)
    × (is_creatable (cycle s r) r.row.status ≡ true) × (r.row.owner ≡ None)
    × (r.row.level ≡ option_and_then (λ q. q.level) (queue_at s.old r.row.queue))
    × (r.row.created ≡ s.at) × (r.row.opened ≡ s.at) × (r.row.since ≡ s.at)
    × (r.row.turn ≡ turn.Desk)
    × ((name : List ℕ) → is_among r.requestors name
    ≡ is_among (if length given == 0 then s.caller ∷ [] else given) name)
    × (r.cc ≡ []) × (r.admin_cc ≡ [])
    × ((e : Entry) × (r.entries ≡ e ∷ []) × (e.kind ≡ kind.Create) × IsBy s e)

-- a request that a command files with the next number
filed_now : (call : Call) (desk : Desk) (queue subject : List ℕ) (status : Option (List ℕ))
    (requestors : List (List ℕ))
    → NoneHolds (create.conditions queue status requestors call (facts_on_queue desk queue))
    → Filed (step_of call (command.Create queue subject status requestors) desk)
    (changed (create.change queue subject status requestors call (facts_on_queue desk queue))
    (filed (create.new_row (request_count desk + 1) call.at queue subject
    (first_status (lifecycle_of call.settings (queue_at desk queue)) status)
    (queue_at desk queue))))
filed_now call desk queue subject status requestors none =
    let id = request_count desk + 1 in
    let change = create.change queue subject status requestors call (facts_on_queue desk queue) in
    let lifecycle = lifecycle_of call.settings (queue_at desk queue) in
    let first = first_status lifecycle status in
    let new = create.new_row id call.at queue subject first (queue_at desk queue) in
    let row : (changed change (filed new)).row ≡ new = row_changed change (filed new) in
    let old = filed_so call desk queue subject status requestors none in
    let in_queue : (changed change (filed new)).row.queue ≡ queue =
    ap (λ (r : RequestRow). r.queue) row in (
      subject,
      status,
      requestors,
      ap (λ (q : List ℕ). command.Create q subject status requestors) (sym in_queue),
      subst (λ (q : List ℕ). holds_on_queue call.settings call.caller create_ticket q ≡ true)
          (sym in_queue) old.may_create,
      old.number,
      old.subject,
      ap (λ (r : RequestRow). r.status) row ∙ ap (λ (q : List ℕ).
          first_status (lifecycle_of call.settings (queue_at desk q)) status) (sym in_queue),
      ap (λ (q : List ℕ). is_creatable (lifecycle_of call.settings (queue_at desk q))
          (changed change (filed new)).row.status) in_queue ∙ old.status,
      old.owner,
      old.level ∙ ap (λ (q : List ℕ). create.first_level (queue_at desk q)) (sym in_queue),
      old.created,
      old.opened,
      old.since,
      old.turn,
      λ name. old.requestors name ∙ given_alike call.caller requestors name,
      old.cc,
      old.admin_cc,
      (
        create.first_entry id call first,
        entries_changed change (filed new)
            ∙ cond-true (id == id) (create.first_entry id call first ∷ []) [] (eq-eqb id id refl),
        refl,
        (refl, refl),
      ),
    )

-- the command files what its change files
record Filing (call : Call) (asked : Command) (desk : Desk) (change : Change) : Type 0 where
  files : (row : RequestRow) → change.filed ≡ Some row
      → Filed (step_of call asked desk) (changed change (filed row))

none_filed : (call : Call) (asked : Command) (desk : Desk) (change : Change)
    → change.filed ≡ None → Filing call asked desk change
none_filed call asked desk change none =
    record { files = λ row files. absurd (not_both change.filed row none files) }

filing_met : (call : Call) (desk : Desk) (asked : Command)
    → MeetsAt call (Filing call asked) desk (plan_of asked)
filing_met call desk (command.OpenQueue name lifecycle level) = λ none.
    none_filed call (command.OpenQueue name lifecycle level) desk _ refl
filing_met call desk (command.Create queue subject status requestors) = λ none.
    let new = create.new_row (request_count desk + 1) call.at queue subject
    (first_status (lifecycle_of call.settings (queue_at desk queue)) status)
    (queue_at desk queue) in
    let change = create.change queue subject status requestors call (facts_on_queue desk queue) in
    record {
      files = λ row files.
          let same : new ≡ row = cc in
          subst (λ (r : RequestRow).
          Filed (step_of call (command.Create queue subject status requestors) desk)
          (changed change (filed r))) same
          (filed_now call desk queue subject status requestors none.1);
    }
filing_met call desk other = λ r there same none. none_filed call other desk _ refl

filing_unless : (s : Settings) (at : ℕ) (caller : List ℕ) (asked : Command) (desk : Desk)
    (o : Option Refusal) (id : ℕ) (request : Request)
    → guard s at caller asked desk ≡ o → request_at desk id ≡ None
    → request_at (desk_unless o desk (effect s at caller asked desk)) id ≡ Some request
    → Filed (step_of (call s at caller) asked desk) request
filing_unless s at caller asked desk (Some refusal) id request refused none there =
    let never : None ≡ Some request = sym none ∙ there in
    cc
filing_unless s at caller asked desk None id request free none there =
    let asks = call s at caller in
    let change = change_by asks (facts_of asked desk) (plan_of asked) in
    let met : Filing asks asked desk change =
    by_plan_at (Filing asks asked) asks (plan_of asked) desk
    (λ reads. none_filed asks asked desk no_change refl) (filing_met asks desk asked) free in
    let made = filed_by change desk id change.filed request refl none there in
    subst (λ (r : Request). Filed (step_of asks asked desk) r) (sym made.2)
    (met.files made.0 made.1)

pub filing_law : AtEachStep FilingLaw
filing_law s at caller asked desk is id request none there =
    filing_unless s at caller asked desk (guard s at caller asked desk) id request refl none there
