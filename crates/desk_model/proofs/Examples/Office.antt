-- What the examples stand on: rows, a small desk, and the settings of those who use it.
use Rattle.std.specs.Prelude.{ℕ, true, List, [], ◌∷◌, codes, Option, Some, None, ⊤, pos}
use Rattle.hours_core.specs.Calendar.{opens}
use Rattle.hours_core.specs.Counting.{count_of_next}
use Rattle.hours_core.specs.Least.{least_of_next}
use Rattle.hours_core.specs.Pauses.{is_paused}
use Rattle.hours_core.specs.declared.level.Level.{Level}
use Rattle.hours_core.specs.declared.level.Limit.TheVariants.{RealMinutes}
use Rattle.hours_core.specs.declared.stay.Stay.{Stay}
use Rattle.lifecycle_core.specs.Lifecycle.{right_of_move}
use Rattle.lifecycle_core.specs.Standard.{default_lifecycle}
use Rattle.rights_core.specs.People.{holds, is_member, leads_within, no_roles, parts_of}
use Rattle.rights_core.specs.Right.{admin_queue}
use Rattle.rights_core.specs.Right.{comment_on_ticket, own_ticket, take_ticket, steal_ticket}
use Rattle.rights_core.specs.Right.{reassign_ticket, delete_ticket, watch, watch_as_admin_cc}
use Rattle.rights_core.specs.Right.{show_ticket, super_user, see_queue, create_ticket}
use Rattle.rights_core.specs.Right.{show_ticket_comments, modify_ticket, reply_to_ticket}
use Rattle.rights_core.specs.declared.grant.Grant.{Grant}
use Rattle.rights_core.specs.declared.grant.Subject.TheVariants as subject
use Rattle.rights_core.specs.declared.grant.Subject.{Subject}
use Rattle.rights_core.specs.declared.role.Role.TheVariants as role
use Rattle.settings_core.specs.declared.settings.Settings.{Settings}
use Rattle.desk_model.specs.Desk.{Desk, Request}
use Rattle.desk_model.specs.Known.{is_known}
use Rattle.desk_model.specs.Links.{link}
use Rattle.desk_model.specs.declared.facts.Dependency.{Dependency}
use Rattle.desk_model.specs.declared.facts.SeenRequest.{SeenRequest}
use Rattle.desk_model.specs.declared.rows.Entry.{Entry}
use Rattle.desk_model.specs.declared.rows.EntryKind.TheVariants as kind
use Rattle.desk_model.specs.declared.rows.EntryKind.{EntryKind}
use Rattle.desk_model.specs.declared.rows.LinkKind.TheVariants.{DependsOn, MemberOf}
use Rattle.desk_model.specs.declared.rows.QueueRow.{QueueRow}
use Rattle.desk_model.specs.declared.rows.RequestRow.{RequestRow}
use Rattle.desk_model.specs.declared.rows.Turn.TheVariants as turn
use Rattle.desk_model.specs.declared.rows.Turn.{Turn}

-- filed at 100, opened anew at 200, and the desk's turn since 300
abbrev pub row : List ℕ → Turn → RequestRow
row status turn =
    record {
      id = 7;
      queue = codes "general";
      subject = codes "Printer";
      status = status;
      owner = Some (codes "bob");
      level = None;
      created = 100;
      opened = 200;
      turn = turn;
      since = 300;
    }

abbrev pub open_row : RequestRow
open_row = row (codes "open") turn.Desk

abbrev pub stay : List ℕ → ℕ → Option ℕ → Stay
stay status from until = record { status = status; from = from; until = until }

-- bob's, with ann for requestor and cid for cc
abbrev pub request : SeenRequest
request =
    record {
      row = open_row;
      requestors = codes "ann" ∷ [];
      cc = codes "cid" ∷ [];
      admin_cc = [];
      entry_count = 3;
    }

abbrev pub depends : List ℕ → Dependency
depends status = record { lifecycle = codes "default"; status = status }

-- what these examples unfold
unfoldable pub by_hand : ⊤
unfolding holds is_member leads_within no_roles default_lifecycle right_of_move is_known see_queue
    create_ticket show_ticket show_ticket_comments modify_ticket reply_to_ticket
    comment_on_ticket own_ticket take_ticket steal_ticket reassign_ticket delete_ticket watch
    watch_as_admin_cc admin_queue super_user least_of_next count_of_next is_paused opens
by_hand = tt

-- ann and cid may show what they ask for; bob may show what is in `general`, with the comments, and
-- comment on it; dora may do all
abbrev pub granted_to : Subject → Option (List ℕ) → List ℕ → Grant
granted_to whom queue right = record { right = right; subject = whom; queue = queue }

abbrev pub bob_in_general : List ℕ → Grant
bob_in_general = granted_to (subject.Person (codes "bob")) (Some (codes "general"))

abbrev pub four : List (List ℕ)
four = codes "ann" ∷ codes "bob" ∷ codes "cid" ∷ codes "dora" ∷ []

-- ten minutes to respond, from at once on; minutes of stalled requests don't count
abbrev pub fast : Level
fast =
    record {
      calendar = codes "office";
      start_immediately = true;
      response = Some (RealMinutes 10);
      keep_in_loop = None;
      resolve = None;
      ignore = codes "stalled" ∷ [];
    }

-- three requests, with four entries each
abbrev pub office : Settings
office =
    record {
      people = parts_of four []
          (granted_to (subject.Role role.Requestor) None (codes "ShowTicket")
          ∷ bob_in_general (codes "SeeQueue")
          ∷ bob_in_general (codes "ShowTicket")
          ∷ bob_in_general (codes "ShowTicketComments")
          ∷ bob_in_general (codes "CommentOnTicket")
          ∷ granted_to (subject.Person (codes "dora")) None (codes "SuperUser") ∷ []);
      lifecycles = record { name = codes "default"; value = default_lifecycle } ∷ [];
      calendars =
          record {
            name = codes "office";
            value = record {
              calendar = record { spans = [] };
              zone = record { first = pos 0; changes = [] };
            };
          }
          ∷ [];
      levels = record { name = codes "fast"; value = fast } ∷ [];
      tokens = [];
      max_requests = 3;
      max_entries = 4;
    }

abbrev pub general : QueueRow
general = record { name = codes "general"; lifecycle = codes "default"; level = Some (codes "fast") }

abbrev pub sales : QueueRow
sales = record { name = codes "sales"; lifecycle = codes "default"; level = None }

-- the first asks for the printer of ann, which is bob's, the second for an order of cid, which is
-- resolved, and the third for toner of ann, which is nobody's
abbrev pub printer : RequestRow
printer =
    record {
      id = 1;
      queue = codes "general";
      subject = codes "Printer";
      status = codes "open";
      owner = Some (codes "bob");
      level = Some (codes "fast");
      created = 68374000;
      opened = 68374000;
      turn = turn.Desk;
      since = 68374000;
    }

abbrev pub order : RequestRow
order =
    record printer {
      id = 2;
      queue = codes "sales";
      subject = codes "Order";
      status = codes "resolved";
      owner = None;
    }

abbrev pub toner : RequestRow
toner =
    record printer {
      id = 3;
      subject = codes "Toner";
      status = codes "new";
      owner = None;
      created = 68374005;
      opened = 68374005;
      since = 68374005;
    }

abbrev pub told_entry : ℕ → ℕ → ℕ → List ℕ → EntryKind → List ℕ → List ℕ → Entry
told_entry id number moment actor kind head body =
    record {
      id = id;
      number = number;
      moment = moment;
      actor = actor;
      kind = kind;
      head = head;
      body = body;
    }

abbrev pub first_of_printer : Entry
first_of_printer = told_entry 1 1 68374000 (codes "ann") kind.Create [] (codes "new")

abbrev pub comment_on_printer : Entry
comment_on_printer = told_entry 1 2 68374001 (codes "bob") kind.Comment [] (codes "Hm")

abbrev pub move_of_printer : Entry
move_of_printer = told_entry 1 3 68374002 (codes "bob") kind.Status (codes "new") (codes "open")

abbrev pub requested : RequestRow → List ℕ → List Entry → Request
requested row by entries =
    record { row = row; requestors = by ∷ []; cc = []; admin_cc = []; entries = entries }

abbrev pub printer_request : Request
printer_request =
    requested printer (codes "ann")
    (first_of_printer ∷ comment_on_printer ∷ move_of_printer ∷ [])

abbrev pub order_request : Request
order_request =
    requested order (codes "cid")
    (told_entry 2 1 68374000 (codes "cid") kind.Create [] (codes "resolved") ∷ [])

abbrev pub toner_request : Request
toner_request =
    requested toner (codes "ann")
    (told_entry 3 1 68374005 (codes "ann") kind.Create [] (codes "new") ∷ [])

-- the printer waits for the order and for the toner, which is a part of it
abbrev pub desk : Desk
desk =
    record {
      queues = general ∷ sales ∷ [];
      requests = printer_request ∷ order_request ∷ toner_request ∷ [];
      links = link 1 DependsOn 2 ∷ link 1 DependsOn 3 ∷ link 3 MemberOf 1 ∷ [];
    }
