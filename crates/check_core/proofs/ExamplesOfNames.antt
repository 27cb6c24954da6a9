-- Examples of the first name of a desk that settings don't know: one of each kind, and two at once.
use Rattle.std.specs.Prelude.{◌≡◌, ℕ, true, refl, [], ◌∷◌, List, Option, codes, Some, None}
use Rattle.hours_core.specs.declared.level.Level.{Level}
use Rattle.settings_core.specs.declared.settings.Settings.{Settings}
use Rattle.desk_model.specs.Desk.{Desk, Request}
use Rattle.desk_model.specs.declared.rows.Entry.{Entry}
use Rattle.desk_model.specs.declared.rows.EntryKind.TheVariants as kind
use Rattle.desk_model.specs.declared.rows.QueueRow.{QueueRow}
use Rattle.desk_model.specs.declared.rows.RequestRow.{RequestRow}
use Rattle.desk_model.specs.declared.rows.Turn.TheVariants as turn
use Rattle.check_core.specs.Rows.{Unknown, first_unknown, histories, in_entry, in_queue, in_request}
use Rattle.check_core.specs.Rows.{unknown, unknown_person, unknown_row}
use Rattle.check_core.specs.declared.rows.What.TheVariants as what

-- ann and bob; the level `fast`, and the lifecycle `default`
abbrev fast : Level
fast =
    record {
      calendar = codes "default";
      start_immediately = true;
      response = None;
      keep_in_loop = None;
      resolve = None;
      ignore = [];
    }

abbrev office : Settings
office =
    record {
      people = record { persons = codes "ann" ∷ codes "bob" ∷ []; groups = []; grants = [] };
      lifecycles =
          record {
            name = codes "default";
            value = record {
              initial = codes "new" ∷ [];
              active = codes "open" ∷ [];
              inactive = codes "done" ∷ [];
              on_create = codes "new";
              create = codes "new" ∷ [];
              moves = [];
              rights = [];
            };
          }
          ∷ [];
      calendars = [];
      levels = record { name = codes "fast"; value = fast } ∷ [];
      tokens = [];
      max_requests = 10;
      max_entries = 10;
    }

abbrev queue : QueueRow
queue = record { name = codes "sales"; lifecycle = codes "default"; level = Some (codes "fast") }

abbrev row : RequestRow
row =
    record {
      id = 1;
      queue = codes "sales";
      subject = codes "Order";
      status = codes "open";
      owner = Some (codes "bob");
      level = None;
      created = 100;
      opened = 100;
      turn = turn.Desk;
      since = 100;
    }

abbrev entry : ℕ → List ℕ → Entry
entry number actor =
    record {
      id = 1;
      number = number;
      moment = 100;
      actor = actor;
      kind = kind.Comment;
      head = [];
      body = codes "Hm";
    }

-- with one request of ann, bob's, and an entry of each
abbrev request : Request
request =
    record {
      row = row;
      requestors = codes "ann" ∷ [];
      cc = [];
      admin_cc = codes "bob" ∷ [];
      entries = entry 1 (codes "ann") ∷ entry 2 (codes "bob") ∷ [];
    }

abbrev desk_of : QueueRow → Request → Desk
desk_of q r = record { queues = q ∷ []; requests = r ∷ []; links = [] }

abbrev first_of : QueueRow → Request → Option Unknown
first_of q r = first_unknown office (desk_of q r)

-- ---- each name is known

desk_of_known_names : first_of queue request ≡ None
unfolding first_unknown
desk_of_known_names = refl

-- ---- one isn't

lifecycle_of_a_queue :
    first_of (record queue { lifecycle = codes "fault" }) request
    ≡ Some (unknown (in_queue (codes "sales")) what.Lifecycle (codes "fault"))
unfolding first_unknown
lifecycle_of_a_queue = refl

level_of_a_queue :
    first_of (record queue { level = Some (codes "slow") }) request
    ≡ Some (unknown (in_queue (codes "sales")) what.Level (codes "slow"))
unfolding first_unknown
level_of_a_queue = refl

status_of_a_request :
    first_of queue (record request { row = record row { status = codes "shut" } })
    ≡ Some (unknown (in_request 1) what.Status (codes "shut"))
unfolding first_unknown
status_of_a_request = refl

status_in_a_queue_that_is_not_there :
    first_of (record queue { name = codes "other" }) request
    ≡ Some (unknown (in_request 1) what.Status (codes "open"))
unfolding first_unknown
status_in_a_queue_that_is_not_there = refl

level_of_a_request :
    first_of queue (record request { row = record row { level = Some (codes "slow") } })
    ≡ Some (unknown (in_request 1) what.Level (codes "slow"))
unfolding first_unknown
level_of_a_request = refl

owner_of_a_request :
    first_of queue (record request { row = record row { owner = Some (codes "eve") } })
    ≡ Some (unknown (in_request 1) what.Owner (codes "eve"))
unfolding first_unknown
owner_of_a_request = refl

requestor_of_a_request :
    first_of queue (record request { requestors = codes "ann" ∷ codes "eve" ∷ [] })
    ≡ Some (unknown (in_request 1) what.Requestor (codes "eve"))
unfolding first_unknown
requestor_of_a_request = refl

cc_of_a_request :
    first_of queue (record request { cc = codes "eve" ∷ [] })
    ≡ Some (unknown (in_request 1) what.Cc (codes "eve"))
unfolding first_unknown
cc_of_a_request = refl

admin_cc_of_a_request :
    first_of queue (record request { admin_cc = codes "eve" ∷ [] })
    ≡ Some (unknown (in_request 1) what.AdminCc (codes "eve"))
unfolding first_unknown
admin_cc_of_a_request = refl

maker_of_an_entry :
    first_of queue (record request { entries = entry 1 (codes "ann") ∷ entry 2 (codes "eve") ∷ [] })
    ≡ Some (unknown (in_entry 1 2) what.Actor (codes "eve"))
unfolding first_unknown
maker_of_an_entry = refl

-- ---- two aren't

queue_before_a_request :
    first_of (record queue { level = Some (codes "slow") })
    (record request { row = record row { owner = Some (codes "eve") } })
    ≡ Some (unknown (in_queue (codes "sales")) what.Level (codes "slow"))
unfolding first_unknown
queue_before_a_request = refl

owner_before_a_watcher :
    first_of queue
    (record request { row = record row { owner = Some (codes "eve") }; cc = codes "abe" ∷ [] })
    ≡ Some (unknown (in_request 1) what.Owner (codes "eve"))
unfolding first_unknown
owner_before_a_watcher = refl

watcher_before_an_entry :
    first_of queue
    (record request { cc = codes "eve" ∷ []; entries = entry 1 (codes "abe") ∷ [] })
    ≡ Some (unknown (in_request 1) what.Cc (codes "eve"))
unfolding first_unknown
watcher_before_an_entry = refl

-- ---- its parts

row_of_a_request :
    unknown_row office (queue ∷ []) (record row { owner = Some (codes "eve") } ∷ [])
    ≡ Some (unknown (in_request 1) what.Owner (codes "eve"))
row_of_a_request = refl

entries_of_these_requests :
    histories (row ∷ record row { id = 2 } ∷ []) (desk_of queue request)
    ≡ entry 1 (codes "ann") ∷ entry 2 (codes "bob") ∷ []
entries_of_these_requests = refl

-- the entries of requests that aren't named don't count
person_of_no_request :
    unknown_person office []
    (desk_of queue (record request { entries = entry 1 (codes "eve") ∷ [] }))
    ≡ None
person_of_no_request = refl
