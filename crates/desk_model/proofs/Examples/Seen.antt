-- Examples of what is seen of a desk: whether it is one and is known, what commands look at, when
-- its requests are due, whom they are shown to, and what each person sees of it.
use Rattle.std.specs.Prelude.{◌≡◌, refl, true, false, List, [], ◌∷◌, codes, Some, None}
use Rattle.hours_core.specs.declared.stay.Stay.{Stay}
use Rattle.rights_core.specs.People.{parts_of}
use Rattle.rights_core.specs.Right.{comment_on_ticket, show_ticket, steal_ticket}
use Rattle.desk_model.specs.Change.{noting, no_change, revising, with_row}
use Rattle.desk_model.specs.Dated.{dated}
use Rattle.desk_model.specs.Desk.{empty_desk, queue_at, request_at, with_queue, with_revised}
use Rattle.desk_model.specs.Due.{due_of, due_on}
use Rattle.desk_model.specs.Facts.{facts_on_queue, facts_on_request, queue_of, seen_request_at}
use Rattle.desk_model.specs.Facts.{no_facts, dependencies_of, facts_of_queue, facts_of_request}
use Rattle.desk_model.specs.Facts.{stays_at}
use Rattle.desk_model.specs.IsDesk.{IsDesk, are_numbered, has_both_ends, has_its_entries}
use Rattle.desk_model.specs.IsDesk.{persons_rise}
use Rattle.desk_model.specs.Known.{is_known, knows_status}
use Rattle.desk_model.specs.Links.{has_link, is_lower_link, link}
use Rattle.desk_model.specs.Plan.{OneRequest, WholeDesk}
use Rattle.desk_model.specs.Rights.{holds_on, is_shown, may_show_comments, sees_queue}
use Rattle.desk_model.specs.Scope.{seen_in, topic_named}
use Rattle.desk_model.specs.Step.{facts_of}
use Rattle.desk_model.specs.View.{view}
use Rattle.desk_model.specs.Watchers.{watcher, may_show_by}
use Rattle.desk_model.specs.declared.command.Command.TheVariants as command
use Rattle.desk_model.specs.declared.facts.SeenRequest.{SeenRequest}
use Rattle.desk_model.specs.declared.rows.EntryKind.TheVariants as kind
use Rattle.desk_model.specs.declared.rows.LinkKind.TheVariants.{DependsOn, MemberOf, RefersTo}
use Rattle.desk_model.specs.declared.rows.Turn.TheVariants as turn
use Rattle.desk_model.specs.declared.rows.WatchRole.TheVariants.{Requestor}
use Rattle.desk_model.specs.declared.scope.Scope.TheVariants as scope
use Rattle.desk_model.specs.declared.scope.Topic.TheVariants as topic
use Rattle.desk_model.proofs.Examples.Office.{stay, depends, by_hand, office, general}
use Rattle.desk_model.proofs.Examples.Office.{sales, order, printer, toner, told_entry}
use Rattle.desk_model.proofs.Examples.Office.{first_of_printer, comment_on_printer, move_of_printer}
use Rattle.desk_model.proofs.Examples.Office.{printer_request, order_request, toner_request, desk}

-- IsDesk.antt, Known.antt

desk_is_one : IsDesk desk
desk_is_one =
    record {
      queues = refl;
      named = refl;
      requests = refl;
      persons = refl;
      entries = refl;
      filed_in = refl;
      links = refl;
      ends = refl;
    }

numbers_with_a_gap : are_numbered 1 (1 ∷ 3 ∷ []) ≡ false
numbers_with_a_gap = refl

numbers_from_two : are_numbered 1 (2 ∷ []) ≡ false
numbers_from_two = refl

entry_of_another_request :
    has_its_entries (record toner_request { entries = first_of_printer ∷ [] }) ≡ false
entry_of_another_request = refl

requestors_out_of_order :
    persons_rise (record toner_request { requestors = codes "bob" ∷ codes "ann" ∷ [] }) ≡ false
requestors_out_of_order = refl

requestor_twice :
    persons_rise (record toner_request { requestors = codes "ann" ∷ codes "ann" ∷ [] }) ≡ false
requestor_twice = refl

link_to_no_request : has_both_ends desk (link 1 RefersTo 4) ≡ false
link_to_no_request = refl

settings_know_the_desk : is_known office desk ≡ true
unfolding by_hand
settings_know_the_desk = refl

settings_without_its_level : is_known (record office { levels = [] }) desk ≡ false
unfolding by_hand
settings_without_its_level = refl

settings_without_its_lifecycle : is_known (record office { lifecycles = [] }) desk ≡ false
unfolding by_hand
settings_without_its_lifecycle = refl

-- who asked for the order
settings_without_a_requestor :
    is_known
    (record office { people = parts_of (codes "ann" ∷ codes "bob" ∷ codes "dora" ∷ []) [] [] })
    desk
    ≡ false
unfolding by_hand
settings_without_a_requestor = refl

-- who watches nothing
settings_without_dora :
    is_known
    (record office { people = parts_of (codes "ann" ∷ codes "bob" ∷ codes "cid" ∷ []) [] [] })
    desk
    ≡ true
unfolding by_hand
settings_without_dora = refl

status_of_no_lifecycle : knows_status office desk (record toner { status = codes "closed" }) ≡ false
unfolding by_hand
status_of_no_lifecycle = refl

-- Desk.antt

queue_by_its_name : queue_at desk (codes "sales") ≡ Some sales
queue_by_its_name = refl

queue_of_another_name : queue_at desk (codes "sale") ≡ None
queue_of_another_name = refl

request_by_its_number : request_at desk 3 ≡ Some toner_request
request_by_its_number = refl

request_past_the_last : request_at desk 4 ≡ None
request_past_the_last = refl

queue_comes_to_its_place :
    (with_queue desk (record sales { name = codes "it" })).queues
    ≡ general ∷ record sales { name = codes "it" } ∷ sales ∷ []
queue_comes_to_its_place = refl

other_requests_stay :
    (with_revised desk 3 (with_row (record toner { owner = Some (codes "bob") }))).requests
    ≡ printer_request ∷ order_request
    ∷ record toner_request { row = record toner { owner = Some (codes "bob") } } ∷ []
other_requests_stay = refl

no_request_of_that_number : with_revised desk 4 (with_row toner) ≡ desk
no_request_of_that_number = refl

-- Links.antt

link_that_is_there : has_link desk (link 1 DependsOn 2) ≡ true
link_that_is_there = refl

link_the_other_way : has_link desk (link 2 DependsOn 1) ≡ false
link_the_other_way = refl

link_of_another_kind : has_link desk (link 1 RefersTo 2) ≡ false
link_of_another_kind = refl

lower_source_first : is_lower_link (link 1 RefersTo 9) (link 2 DependsOn 1) ≡ true
lower_source_first = refl

kind_before_target : is_lower_link (link 1 DependsOn 9) (link 1 MemberOf 2) ≡ true
kind_before_target = refl

members_before_references : is_lower_link (link 1 RefersTo 2) (link 1 MemberOf 9) ≡ false
members_before_references = refl

link_isn't_lower_than_itself : is_lower_link (link 1 DependsOn 2) (link 1 DependsOn 2) ≡ false
link_isn't_lower_than_itself = refl

-- Facts.antt

abbrev seen_printer : SeenRequest
seen_printer =
    record {
      row = printer;
      requestors = codes "ann" ∷ [];
      cc = [];
      admin_cc = [];
      entry_count = 3;
    }

abbrev seen_toner : SeenRequest
seen_toner = record seen_printer { row = toner; entry_count = 1 }

abbrev stays_of_printer : List Stay
stays_of_printer =
    stay (codes "new") 68374000 (Some 68374002) ∷ stay (codes "open") 68374002 None ∷ []

request_with_the_number_of_its_entries : seen_request_at desk 1 ≡ Some seen_printer
request_with_the_number_of_its_entries = refl

no_request_is_seen : seen_request_at desk 0 ≡ None
no_request_is_seen = refl

stays_of_a_request : stays_at desk 1 ≡ stays_of_printer
stays_of_a_request = refl

stays_of_no_request : stays_at desk 4 ≡ []
stays_of_no_request = refl

queue_of_a_request : queue_of desk (Some toner_request) ≡ Some general
queue_of_a_request = refl

queue_of_no_request : queue_of desk None ≡ None
queue_of_no_request = refl

dependencies_of_a_request : dependencies_of desk 1 ≡ depends (codes "resolved") ∷ depends (codes "new") ∷ []
dependencies_of_a_request = refl

-- it depends on nothing by being a part
part_depends_on_nothing : dependencies_of desk 3 ≡ []
part_depends_on_nothing = refl

-- nor does a request on those that depend on it
no_dependency_the_other_way : dependencies_of desk 2 ≡ []
no_dependency_the_other_way = refl

queue_that_is_read : facts_of_queue desk (codes "general") ≡ record no_facts { queue = Some general }
queue_that_is_read = refl

no_queue_that_is_read : facts_of_queue desk (codes "it") ≡ no_facts
no_queue_that_is_read = refl

-- the counts are of the whole desk
queue_that_isn't_there_yet :
    facts_on_queue desk (codes "it") ≡ record no_facts { queue_count = 2; request_count = 3 }
queue_that_isn't_there_yet = refl

queue_that_is_there :
    facts_on_queue desk (codes "sales")
    ≡ record no_facts { queue = Some sales; queue_count = 2; request_count = 3 }
queue_that_is_there = refl

request_alone :
    facts_of_request desk 1 ≡ record no_facts { queue = Some general; request = Some seen_printer }
request_alone = refl

no_request_has_no_facts : facts_on_request desk 4 ≡ no_facts
no_request_has_no_facts = refl

request_with_its_stays :
    facts_on_request desk 1
    ≡ record no_facts {
      queue = Some general;
      request = Some seen_printer;
      stays = stays_of_printer;
    }
request_with_its_stays = refl

-- Step.antt: what a command looks at

move_looks_at_dependencies :
    facts_of (command.SetStatus 1 (codes "resolved")) desk
    ≡ record no_facts {
      queue = Some general;
      request = Some seen_printer;
      stays = stays_of_printer;
      dependencies = depends (codes "resolved") ∷ depends (codes "new") ∷ [];
    }
move_looks_at_dependencies = refl

comment_looks_at_the_request_alone :
    facts_of (command.Comment 1 (codes "Hm")) desk ≡ facts_of_request desk 1
comment_looks_at_the_request_alone = refl

link_looks_at_its_other_end :
    facts_of (command.Link 1 DependsOn 3) desk
    ≡ record no_facts {
      queue = Some general;
      request = Some seen_printer;
      other = Some seen_toner;
      is_linked = true;
    }
link_looks_at_its_other_end = refl

link_that_isn't_there_yet :
    (facts_of (command.Link 3 DependsOn 1) desk).is_linked ≡ false
link_that_isn't_there_yet = refl

workload_looks_at_no_facts : facts_of command.Workload desk ≡ no_facts
workload_looks_at_no_facts = refl

-- Scope.antt: the same as the code names it

nothing_is_looked_at : seen_in scope.Nothing desk ≡ no_facts
nothing_is_looked_at = refl

dependencies_are_looked_at :
    seen_in (scope.Dependencies 1) desk ≡ facts_of (command.SetStatus 1 (codes "open")) desk
dependencies_are_looked_at = refl

request_is_looked_at : seen_in (scope.RequestAlone 1) desk ≡ facts_of_request desk 1
request_is_looked_at = refl

desk_is_read : topic_named topic.Desk ≡ WholeDesk
desk_is_read = refl

request_is_read : topic_named (topic.Request 7) ≡ OneRequest 7
request_is_read = refl

-- Due.antt: by settings

due_by_its_level : due_of office general stays_of_printer printer ≡ Some 68374010
unfolding by_hand
due_by_its_level = refl

-- two minutes of it were stalled
due_later_by_what_is_ignored :
    due_of office general
    (stay (codes "stalled") 68374000 (Some 68374002) ∷ stay (codes "open") 68374002 None ∷ [])
    printer
    ≡ Some 68374012
unfolding by_hand
due_later_by_what_is_ignored = refl

never_due_without_a_level : due_of office general stays_of_printer (record printer { level = None }) ≡ None
unfolding by_hand
never_due_without_a_level = refl

never_due_when_resolved :
    due_of office general stays_of_printer (record printer { status = codes "resolved" }) ≡ None
unfolding by_hand
never_due_when_resolved = refl

never_due_on_the_requestor's_turn :
    due_of office general stays_of_printer (record printer { turn = turn.Requestor }) ≡ None
unfolding by_hand
never_due_on_the_requestor's_turn = refl

never_due_by_an_unknown_level :
    due_of (record office { levels = [] }) general stays_of_printer printer ≡ None
unfolding by_hand
never_due_by_an_unknown_level = refl

due_on_the_desk : due_on office desk toner_request ≡ Some 68374015
unfolding by_hand
due_on_the_desk = refl

never_due_in_no_queue : due_on office (record desk { queues = [] }) toner_request ≡ None
never_due_in_no_queue = refl

-- Dated.antt

-- it was stalled for a minute, and is moved on
change_with_its_due_moment :
    dated office
    (record no_facts {
      queue = Some general;
      stays = stay (codes "stalled") 68374000 None ∷ [];
    })
    (revising printer
    (told_entry 1 2 68374001 (codes "bob") kind.Status (codes "stalled") (codes "open") ∷ []))
    ≡ record no_change {
      row = Some printer;
      due = Some 68374011;
      stays = stay (codes "stalled") 68374000 (Some 68374001) ∷ stay (codes "open") 68374001 None ∷ [];
      entries =
          told_entry 1 2 68374001 (codes "bob") kind.Status (codes "stalled") (codes "open") ∷ [];
    }
unfolding by_hand
change_with_its_due_moment = refl

change_of_no_row :
    dated office (record no_facts { queue = Some general; stays = stays_of_printer })
    (noting (comment_on_printer ∷ []))
    ≡ noting (comment_on_printer ∷ [])
change_of_no_row = refl

-- Rights.antt: queues and comments

bob_sees_general : sees_queue office (codes "bob") general ≡ true
unfolding by_hand
bob_sees_general = refl

bob_sees_no_sales : sees_queue office (codes "bob") sales ≡ false
unfolding by_hand
bob_sees_no_sales = refl

-- on a queue nobody has a role
ann_sees_no_queue : sees_queue office (codes "ann") general ≡ false
unfolding by_hand
ann_sees_no_queue = refl

bob_may_show_comments : may_show_comments office (codes "bob") seen_printer ≡ true
unfolding by_hand
bob_may_show_comments = refl

ann_may_not : may_show_comments office (codes "ann") seen_printer ≡ false
unfolding by_hand
ann_may_not = refl

-- by a role on the request, by a grant on its queue, and by what is granted on all
requestor_holds_what_requestors_do : holds_on office (codes "ann") show_ticket seen_printer ≡ true
unfolding by_hand
requestor_holds_what_requestors_do = refl

requestor_holds_nothing_else : holds_on office (codes "ann") comment_on_ticket seen_printer ≡ false
unfolding by_hand
requestor_holds_nothing_else = refl

bob_holds_what_is_granted_on_its_queue :
    holds_on office (codes "bob") comment_on_ticket seen_printer ≡ true
unfolding by_hand
bob_holds_what_is_granted_on_its_queue = refl

bob_does_not_hold_it_on_another :
    holds_on office (codes "bob") comment_on_ticket (record seen_printer { row = order }) ≡ false
unfolding by_hand
bob_does_not_hold_it_on_another = refl

dora_holds_all : holds_on office (codes "dora") steal_ticket seen_printer ≡ true
unfolding by_hand
dora_holds_all = refl

request_that_is_not_there_is_shown_to_none : is_shown office (codes "dora") desk 4 ≡ false
request_that_is_not_there_is_shown_to_none = refl

order_is_shown_to_cid : is_shown office (codes "cid") desk 2 ≡ true
unfolding by_hand
order_is_shown_to_cid = refl

order_is_hidden_from_bob : is_shown office (codes "bob") desk 2 ≡ false
unfolding by_hand
order_is_hidden_from_bob = refl

right_by_a_row_and_its_watchers :
    may_show_by office (codes "ann") printer (watcher 1 Requestor (codes "ann") ∷ []) ≡ true
unfolding by_hand
right_by_a_row_and_its_watchers = refl

-- ann asked for another request
no_right_by_another's_watchers :
    may_show_by office (codes "ann") printer (watcher 3 Requestor (codes "ann") ∷ []) ≡ false
unfolding by_hand
no_right_by_another's_watchers = refl

-- View.antt

-- ann sees neither the order nor its queue, nor what is linked with it, nor the comment
view_of_ann :
    view office (codes "ann") desk
    ≡ record {
      queues = general ∷ [];
      requests =
          record printer_request { entries = first_of_printer ∷ move_of_printer ∷ [] }
          ∷ toner_request ∷ [];
      links = link 1 DependsOn 3 ∷ link 3 MemberOf 1 ∷ [];
    }
unfolding by_hand
view_of_ann = refl

view_of_bob :
    view office (codes "bob") desk
    ≡ record {
      queues = general ∷ [];
      requests = printer_request ∷ toner_request ∷ [];
      links = link 1 DependsOn 3 ∷ link 3 MemberOf 1 ∷ [];
    }
unfolding by_hand
view_of_bob = refl

view_of_cid :
    view office (codes "cid") desk
    ≡ record { queues = sales ∷ []; requests = order_request ∷ []; links = [] }
unfolding by_hand
view_of_cid = refl

view_of_dora : view office (codes "dora") desk ≡ desk
unfolding by_hand
view_of_dora = refl

view_of_a_stranger : view office (codes "eve") desk ≡ empty_desk
unfolding by_hand
view_of_a_stranger = refl

-- a queue that one may see is in view without a request
view_of_an_empty_queue :
    view office (codes "bob") (record empty_desk { queues = general ∷ sales ∷ [] })
    ≡ record empty_desk { queues = general ∷ [] }
unfolding by_hand
view_of_an_empty_queue = refl
