-- Files a request.
use Rattle.std.specs.Prelude.{ℕ, ◌+◌, Bool, not, ◌||◌, List, [], ◌∷◌, map}
use Rattle.std.specs.Prelude.{nat_le, Option, None, is_none, option_and_then}
use Rattle.std.specs.List.{list_all}
use Rattle.lifecycle_core.specs.declared.parts.Parts.{Parts}
use Rattle.rights_core.specs.Right.{create_ticket}
use Rattle.settings_core.specs.Settings.{knows, request_limit}
use Rattle.settings_core.specs.declared.settings.Settings.{Settings}
use Rattle.text_core.specs.Form.{is_subject}
use Rattle.desk_model.specs.Change.{filing}
use Rattle.desk_model.specs.Condition.{Condition}
use Rattle.desk_model.specs.Lifecycles.{first_status, has_given, is_creatable, lifecycle_of}
use Rattle.desk_model.specs.Names.{in_order}
use Rattle.desk_model.specs.Plan.{Call}
use Rattle.desk_model.specs.Rights.{holds_on_queue}
use Rattle.desk_model.specs.Watchers.{watcher}
use Rattle.desk_model.specs.declared.change.Change.{Change}
use Rattle.desk_model.specs.declared.facts.Facts.{Facts}
use Rattle.desk_model.specs.declared.refusal.Refusal.TheVariants.{BadText, NotFound}
use Rattle.desk_model.specs.declared.refusal.Refusal.TheVariants.{UnknownName, Denied}
use Rattle.desk_model.specs.declared.refusal.Refusal.TheVariants.{NoTransition, Full}
use Rattle.desk_model.specs.declared.rows.Entry.{Entry}
use Rattle.desk_model.specs.declared.rows.EntryKind.TheVariants as kind
use Rattle.desk_model.specs.declared.rows.QueueRow.{QueueRow}
use Rattle.desk_model.specs.declared.rows.RequestRow.{RequestRow}
use Rattle.desk_model.specs.declared.rows.Turn.TheVariants as turn
use Rattle.desk_model.specs.declared.rows.Watcher.{Watcher}
use Rattle.desk_model.specs.declared.rows.WatchRole.TheVariants.{Requestor}

-- the status given or a requestor isn't known
abbrev pub is_unknown : Settings → Option Parts → Option (List ℕ) → List (List ℕ) → Bool
is_unknown settings lifecycle status requestors =
    not (has_given lifecycle status) || not (list_all (knows settings) requestors)

-- there are as many requests as the settings allow
abbrev pub is_full : Settings → Facts → Bool
is_full settings facts = nat_le (request_limit settings) facts.request_count

-- what is asked of the words, on every desk alike
abbrev pub beforehand : List ℕ → Call → List Condition
beforehand subject call = (BadText, not (is_subject subject)) ∷ []

abbrev pub conditions : List ℕ → Option (List ℕ) → List (List ℕ) → Call → Facts → List Condition
conditions queue status requestors call facts =
    let lifecycle = lifecycle_of call.settings facts.queue in
    (NotFound, is_none facts.queue)
    ∷ (UnknownName, is_unknown call.settings lifecycle status requestors)
    ∷ (Denied create_ticket, not (holds_on_queue call.settings call.caller create_ticket queue))
    ∷ (NoTransition, not (is_creatable lifecycle (first_status lifecycle status)))
    ∷ (Full, is_full call.settings facts)
    ∷ []

-- the level that a queue's requests start with
abbrev pub first_level : Option QueueRow → Option (List ℕ)
first_level there = option_and_then (λ q. q.level) there

-- a request as it is filed: nobody owns it, it has its queue's level, and it is the desk's turn
abbrev pub new_row : ℕ → ℕ → List ℕ → List ℕ → List ℕ → Option QueueRow → RequestRow
new_row id at queue subject status there =
    record {
      id = id;
      queue = queue;
      subject = subject;
      status = status;
      owner = None;
      level = first_level there;
      created = at;
      opened = at;
      turn = turn.Desk;
      since = at;
    }

-- the first entry of a request
abbrev pub first_entry : ℕ → Call → List ℕ → Entry
first_entry id call status =
    record {
      id = id;
      number = 1;
      moment = call.at;
      actor = call.caller;
      kind = kind.Create;
      head = [];
      body = status;
    }

-- the persons given, or the caller where none is
abbrev pub given_or_caller : List ℕ → List (List ℕ) → List (List ℕ)
given_or_caller caller [] = caller ∷ []
given_or_caller caller (person ∷ persons) = person ∷ persons

abbrev pub requestor : ℕ → List ℕ → Watcher
requestor id person = watcher id Requestor person

-- the requestors given, each once, or the caller
abbrev pub requestors_of : ℕ → Call → List (List ℕ) → List Watcher
requestors_of id call requestors =
    map (requestor id) (in_order (given_or_caller call.caller requestors))

abbrev pub change : List ℕ → List ℕ → Option (List ℕ) → List (List ℕ) → Call → Facts → Change
change queue subject status requestors call facts =
    let id = facts.request_count + 1 in
    let first = first_status (lifecycle_of call.settings facts.queue) status in
    filing (new_row id call.at queue subject first facts.queue) (requestors_of id call requestors)
    (first_entry id call first ∷ [])
