-- Examples of the definitions: when a request is due, whom a right is held by, what replies and
-- moves make of a row, the stays of a history, the order of names, and the numbers of refusals.
use Rattle.std.specs.Prelude.{◌≡◌, refl, ℕ, Bool, true, false, List, [], ◌∷◌, codes, Option, Some}
use Rattle.std.specs.Prelude.{None, nat_le, not, ◌||◌}
use Rattle.std.proofs.Common.{ap}
use Rattle.std.specs.Fmt.{digits}
use Rattle.hours_core.specs.Counting.{count_of_next}
use Rattle.hours_core.specs.Least.{least_of_next}
use Rattle.hours_core.specs.Pauses.{is_paused}
use Rattle.hours_core.specs.declared.level.Level.{Level}
use Rattle.hours_core.specs.declared.level.Limit.TheVariants.{RealMinutes}
use Rattle.lifecycle_core.specs.Lifecycle.{right_of_move}
use Rattle.lifecycle_core.specs.Standard.{default_lifecycle}
use Rattle.lifecycle_core.specs.declared.lifecycle.Class.TheVariants.{Initial, Inactive}
use Rattle.lifecycle_core.specs.declared.parts.Parts.{Parts as LifecycleParts}
use Rattle.rights_core.specs.People.{holds, is_member, leads_within, no_roles, parts_of}
use Rattle.rights_core.specs.Right.{show_ticket, super_user}
use Rattle.rights_core.specs.declared.grant.Subject.TheVariants as subject
use Rattle.rights_core.specs.declared.parts.Parts.{Parts as PeopleParts}
use Rattle.rights_core.specs.declared.role.Role.TheVariants as role
use Rattle.settings_core.specs.Settings.{lifecycle_named, people_of, request_limit}
use Rattle.settings_core.specs.declared.settings.Settings.{Settings}
use Rattle.desk_model.specs.Change.{filing, noting, row_in_status, with_level, with_owner}
use Rattle.desk_model.specs.Commands.Create.{is_full}
use Rattle.desk_model.specs.Commands.Reply.{entries_of_move, reply_target, turned}
use Rattle.desk_model.specs.Commands.SetStatus.{has_open_dependency}
use Rattle.desk_model.specs.Commands.{plan_of}
use Rattle.desk_model.specs.Dated.{stays_put}
use Rattle.desk_model.specs.Due.{due_of_limit, is_live_class, least_due, plain_rule, rule_of}
use Rattle.desk_model.specs.Due.{sooner}
use Rattle.desk_model.specs.Facts.{no_facts}
use Rattle.desk_model.specs.Lifecycles.{first_status, has_given, has_status, is_allowed}
use Rattle.desk_model.specs.Lifecycles.{is_creatable, is_inactive, is_initial, opens_anew, right_of}
use Rattle.desk_model.specs.Names.{in_order}
use Rattle.desk_model.specs.Plan.{OneQueue, OneRequest, WholeDesk, is_reading, named_by, answer_of_change}
use Rattle.desk_model.specs.Plan.{topic_of}
use Rattle.desk_model.specs.Readings.History.{is_comment}
use Rattle.desk_model.specs.Refusals.{name_of, number_of}
use Rattle.desk_model.specs.Rights.{may_show, owns, roles_on}
use Rattle.desk_model.specs.Stays.{begins_stay, stays_after, stays_of}
use Rattle.desk_model.specs.Watchers.{is_role, is_watching, roles_among, watcher}
use Rattle.desk_model.specs.declared.answer.Answer.TheVariants as answer
use Rattle.desk_model.specs.declared.command.Command.TheVariants as command
use Rattle.desk_model.specs.declared.refusal.Refusal.TheVariants.{Unavailable}
use Rattle.desk_model.specs.declared.refusal.Refusal.TheVariants.{UnknownCaller, Denied, NoChange}
use Rattle.desk_model.specs.declared.rows.Entry.{Entry}
use Rattle.desk_model.specs.declared.rows.EntryKind.TheVariants as kind
use Rattle.desk_model.specs.declared.rows.EntryKind.{EntryKind}
use Rattle.desk_model.specs.declared.rows.LinkKind.TheVariants.{DependsOn}
use Rattle.desk_model.specs.declared.rows.Turn.TheVariants as turn
use Rattle.desk_model.specs.declared.rows.WatchRole.TheVariants.{Requestor, Cc, AdminCc}
use Rattle.desk_model.specs.declared.rows.Watcher.{Watcher}
use Rattle.desk_model.proofs.Examples.Office.{row, open_row, stay, request, depends, fast, office}
use Rattle.desk_model.proofs.Examples.Office.{general, sales}
mod Asked
mod Office
mod Readings
mod Seen
mod Steps

-- Refusals.antt

number_of_the_first_refusal : number_of UnknownCaller ≡ 1
number_of_the_first_refusal = refl

number_of_a_denied_right : number_of (Denied (codes "OwnTicket")) ≡ 6
number_of_a_denied_right = refl

number_of_no_change : number_of NoChange ≡ 7
number_of_no_change = refl

number_of_the_last_refusal : number_of Unavailable ≡ 16
number_of_the_last_refusal = refl

-- without the right
name_of_a_denied_right : name_of (Denied (codes "OwnTicket")) ≡ codes "Denied"
name_of_a_denied_right = refl

name_of_the_last_refusal : name_of Unavailable ≡ codes "Unavailable"
name_of_the_last_refusal = refl

-- Names.antt

names_in_order_each_once :
    in_order (codes "b" ∷ codes "ab" ∷ codes "b" ∷ codes "a" ∷ [])
    ≡ codes "a" ∷ codes "ab" ∷ codes "b" ∷ []
names_in_order_each_once = refl

-- by bytes, in which '-' and the digits come before letters
digits_before_letters :
    in_order (codes "aa" ∷ codes "a1" ∷ codes "a-" ∷ [])
    ≡ codes "a-" ∷ codes "a1" ∷ codes "aa" ∷ []
digits_before_letters = refl

no_names : in_order [] ≡ []
no_names = refl

-- Lifecycles.antt

abbrev lifecycle : Option LifecycleParts
lifecycle = Some default_lifecycle

new_is_a_status : has_status lifecycle (codes "new") ≡ true
unfolding default_lifecycle
new_is_a_status = refl

no_lifecycle_has_no_status : has_status None (codes "new") ≡ false
no_lifecycle_has_no_status = refl

no_status_is_given : has_given lifecycle None ≡ true
no_status_is_given = refl

no_status_of_the_lifecycle_is_given : has_given lifecycle (Some (codes "closed")) ≡ false
unfolding default_lifecycle
no_status_of_the_lifecycle_is_given = refl

first_status_by_default : first_status lifecycle None ≡ codes "new"
unfolding default_lifecycle
first_status_by_default = refl

first_status_as_given : first_status lifecycle (Some (codes "open")) ≡ codes "open"
first_status_as_given = refl

filed_as_resolved : is_creatable lifecycle (codes "resolved") ≡ true
unfolding default_lifecycle
filed_as_resolved = refl

filed_as_deleted : is_creatable lifecycle (codes "deleted") ≡ false
unfolding default_lifecycle
filed_as_deleted = refl

filed_without_a_lifecycle : is_creatable None (codes "new") ≡ false
filed_without_a_lifecycle = refl

move_to_another_status : is_allowed lifecycle (codes "open") (codes "resolved") ≡ true
unfolding default_lifecycle
move_to_another_status = refl

move_to_its_own_status : is_allowed lifecycle (codes "open") (codes "open") ≡ false
unfolding default_lifecycle
move_to_its_own_status = refl

right_to_delete : right_of lifecycle (codes "open") (codes "deleted") ≡ codes "DeleteTicket"
unfolding default_lifecycle right_of_move
right_to_delete = refl

right_to_resolve : right_of lifecycle (codes "open") (codes "resolved") ≡ codes "ModifyTicket"
unfolding default_lifecycle right_of_move
right_to_resolve = refl

new_is_initial : is_initial lifecycle (codes "new") ≡ true
unfolding default_lifecycle
new_is_initial = refl

open_is_not_initial : is_initial lifecycle (codes "open") ≡ false
unfolding default_lifecycle
open_is_not_initial = refl

resolved_is_inactive : is_inactive lifecycle (codes "resolved") ≡ true
unfolding default_lifecycle
resolved_is_inactive = refl

stalled_is_not_inactive : is_inactive lifecycle (codes "stalled") ≡ false
unfolding default_lifecycle
stalled_is_not_inactive = refl

status_of_none_is_not_inactive : is_inactive lifecycle (codes "closed") ≡ false
unfolding default_lifecycle
status_of_none_is_not_inactive = refl

reopening_opens_anew : opens_anew lifecycle (codes "resolved") (codes "open") ≡ true
unfolding default_lifecycle
reopening_opens_anew = refl

resolving_does_not : opens_anew lifecycle (codes "open") (codes "resolved") ≡ false
unfolding default_lifecycle
resolving_does_not = refl

deleting_what_is_resolved_does_not :
    opens_anew lifecycle (codes "resolved") (codes "deleted") ≡ false
unfolding default_lifecycle
deleting_what_is_resolved_does_not = refl

-- Change.antt: rows

moved_on : row_in_status lifecycle 400 (codes "stalled") open_row ≡ row (codes "stalled") turn.Desk
unfolding default_lifecycle
moved_on = refl

moved_out_of_inactive_statuses :
    row_in_status lifecycle 400 (codes "open") (row (codes "resolved") turn.Requestor)
    ≡ record (row (codes "open") turn.Requestor) { opened = 400; since = 400 }
unfolding default_lifecycle
moved_out_of_inactive_statuses = refl

without_an_owner : (with_owner None open_row).owner ≡ None
without_an_owner = refl

another_owner_alone :
    with_owner (Some (codes "cid")) open_row ≡ record open_row { owner = Some (codes "cid") }
another_owner_alone = refl

another_level_alone :
    with_level (Some (codes "fast")) open_row ≡ record open_row { level = Some (codes "fast") }
another_level_alone = refl

-- Commands/Reply.antt

reply_on_an_inactive_status : reply_target lifecycle true (codes "resolved") ≡ Some (codes "open")
unfolding default_lifecycle
reply_on_an_inactive_status = refl

reply_of_the_desk_on_a_new_request :
    reply_target lifecycle false (codes "new") ≡ Some (codes "open")
unfolding default_lifecycle
reply_of_the_desk_on_a_new_request = refl

reply_of_a_requestor_on_a_new_request : reply_target lifecycle true (codes "new") ≡ None
unfolding default_lifecycle
reply_of_a_requestor_on_a_new_request = refl

reply_on_an_active_status : reply_target lifecycle false (codes "open") ≡ None
unfolding default_lifecycle
reply_on_an_active_status = refl

reply_that_moves_adds_two : entries_of_move (Some (codes "open")) ≡ 2
reply_that_moves_adds_two = refl

reply_that_moves_nothing_adds_one : entries_of_move None ≡ 1
reply_that_moves_nothing_adds_one = refl

desk_replies :
    turned false 400 open_row ≡ record open_row { turn = turn.Requestor; since = 400 }
desk_replies = refl

-- the turn begins afresh
desk_replies_again :
    turned false 400 (row (codes "open") turn.Requestor)
    ≡ record open_row { turn = turn.Requestor; since = 400 }
desk_replies_again = refl

requestor_replies :
    turned true 400 (row (codes "open") turn.Requestor) ≡ record open_row { since = 400 }
requestor_replies = refl

-- since the first of the messages
requestor_replies_again : turned true 400 open_row ≡ open_row
requestor_replies_again = refl

-- Due.antt

sooner_of_two : sooner (Some 5) (Some 3) ≡ Some 3
sooner_of_two = refl

sooner_of_one : sooner None (Some 3) ≡ Some 3
sooner_of_one = refl

sooner_of_none : sooner None None ≡ None
sooner_of_none = refl

initial_is_live : is_live_class (Some Initial) ≡ true
initial_is_live = refl

inactive_is_not_live : is_live_class (Some Inactive) ≡ false
inactive_is_not_live = refl

no_class_is_not_live : is_live_class None ≡ false
no_class_is_not_live = refl

-- 10 minutes to respond, 20 to keep in the loop, 500 to resolve
abbrev level : Level
level =
    record {
      calendar = codes "office";
      start_immediately = true;
      response = Some (RealMinutes 10);
      keep_in_loop = Some (RealMinutes 20);
      resolve = Some (RealMinutes 500);
      ignore = codes "stalled" ∷ [];
    }

abbrev always : ℕ → Bool
always m = true

due_on_the_desk's_turn : least_due plain_rule always level open_row ≡ Some 310
due_on_the_desk's_turn = refl

due_on_the_requestor's_turn :
    least_due plain_rule always level (row (codes "open") turn.Requestor) ≡ Some 320
due_on_the_requestor's_turn = refl

-- 500 minutes after it was opened, not after the turn began
due_for_resolving :
    least_due plain_rule always (record level { response = None }) open_row ≡ Some 700
due_for_resolving = refl

resolving_before_the_response :
    least_due plain_rule always (record level { resolve = Some (RealMinutes 105) }) open_row
    ≡ Some 305
resolving_before_the_response = refl

never_due_without_limits :
    least_due plain_rule always (record level { response = None; resolve = None }) open_row ≡ None
never_due_without_limits = refl

-- stalled for five of the minutes, near the end of all moments
due_without_ignored_minutes :
    due_of_limit
    (rule_of (record { status = codes "stalled"; from = 68374005; until = Some 68374010 } ∷ []))
    always level 68374000 (Some (RealMinutes 10))
    ≡ Some 68374015
unfolding least_of_next count_of_next is_paused
due_without_ignored_minutes = refl

-- Stays.antt

abbrev entry : ℕ → ℕ → EntryKind → List ℕ → Entry
entry number moment kind body =
    record {
      id = 7;
      number = number;
      moment = moment;
      actor = codes "bob";
      kind = kind;
      head = [];
      body = body;
    }

filing_begins_a_stay : begins_stay kind.Create ≡ true
filing_begins_a_stay = refl

move_begins_a_stay : begins_stay kind.Status ≡ true
move_begins_a_stay = refl

reply_begins_no_stay : begins_stay kind.Reply ≡ false
reply_begins_no_stay = refl

stays_of_a_history :
    stays_of
    (entry 1 100 kind.Create (codes "new") ∷ entry 2 150 kind.Reply (codes "Hello")
    ∷ entry 3 150 kind.Status (codes "open") ∷ entry 4 200 kind.Status (codes "stalled") ∷ [])
    ≡ stay (codes "new") 100 (Some 150) ∷ stay (codes "open") 150 (Some 200)
    ∷ stay (codes "stalled") 200 None ∷ []
stays_of_a_history = refl

stays_of_no_history : stays_of [] ≡ []
stays_of_no_history = refl

-- the last stay ends where the move begins the next
stays_after_a_move :
    stays_after (stay (codes "new") 100 (Some 150) ∷ stay (codes "open") 150 None ∷ [])
    (entry 4 200 kind.Status (codes "stalled") ∷ [])
    ≡ stay (codes "new") 100 (Some 150) ∷ stay (codes "open") 150 (Some 200)
    ∷ stay (codes "stalled") 200 None ∷ []
stays_after_a_move = refl

stays_after_a_comment :
    stays_after (stay (codes "new") 100 None ∷ []) (entry 2 150 kind.Comment (codes "Hm") ∷ [])
    ≡ stay (codes "new") 100 None ∷ []
stays_after_a_comment = refl

stays_of_what_is_filed :
    stays_put [] (entry 1 100 kind.Create (codes "new") ∷ []) (Some open_row)
    ≡ stay (codes "new") 100 None ∷ []
stays_of_what_is_filed = refl

no_stays_where_no_row_is_put :
    stays_put (stay (codes "new") 100 None ∷ []) (entry 2 150 kind.Comment (codes "Hm") ∷ []) None
    ≡ []
no_stays_where_no_row_is_put = refl

comment_is_one : is_comment kind.Comment ≡ true
comment_is_one = refl

reply_is_no_comment : is_comment kind.Reply ≡ false
reply_is_no_comment = refl

-- Watchers.antt

cc_is_cc : is_role Cc Cc ≡ true
cc_is_cc = refl

cc_is_no_admin_cc : is_role Cc AdminCc ≡ false
cc_is_no_admin_cc = refl

-- ann is a requestor of 7 and a cc of 8
abbrev watchers : List Watcher
watchers = watcher 7 Requestor (codes "ann") ∷ watcher 8 Cc (codes "ann") ∷ []

ann_is_a_requestor_of_it : is_watching (codes "ann") 7 Requestor watchers ≡ true
ann_is_a_requestor_of_it = refl

ann_is_a_cc_of_another : is_watching (codes "ann") 7 Cc watchers ≡ false
ann_is_a_cc_of_another = refl

bob_watches_nothing : is_watching (codes "bob") 7 Requestor watchers ≡ false
bob_watches_nothing = refl

roles_of_ann :
    roles_among (codes "ann") open_row watchers
    ≡ record { owner = false; requestor = true; cc = false; admin_cc = false }
roles_of_ann = refl

roles_of_the_owner :
    roles_among (codes "bob") open_row watchers
    ≡ record { owner = true; requestor = false; cc = false; admin_cc = false }
roles_of_the_owner = refl

-- Rights.antt

bob_owns_it : owns (codes "bob") request ≡ true
bob_owns_it = refl

nobody_owns_it :
    owns (codes "bob") (record request { row = record open_row { owner = None } }) ≡ false
nobody_owns_it = refl

roles_of_cid :
    roles_on (codes "cid") request
    ≡ record { owner = false; requestor = false; cc = true; admin_cc = false }
roles_of_cid = refl

-- `ShowTicket` for requestors, and on another queue for cid
abbrev people : PeopleParts
people =
    parts_of (codes "ann" ∷ codes "bob" ∷ codes "cid" ∷ []) []
    (record { right = codes "ShowTicket"; subject = subject.Role role.Requestor; queue = None }
    ∷ record {
      right = codes "ShowTicket";
      subject = subject.Person (codes "cid");
      queue = Some (codes "sales");
    }
    ∷ [])

requestor_may_show :
    (settings : Settings) → people_of settings ≡ people
    → may_show settings (codes "ann") request ≡ true
unfolding holds is_member leads_within no_roles show_ticket super_user
requestor_may_show settings e =
    ap
    (λ p. holds p (codes "ann") show_ticket (codes "general") (roles_on (codes "ann") request))
    e

other_role_may_not :
    (settings : Settings) → people_of settings ≡ people
    → may_show settings (codes "cid") request ≡ false
unfolding holds is_member leads_within no_roles show_ticket super_user
other_role_may_not settings e =
    ap
    (λ p. holds p (codes "cid") show_ticket (codes "general") (roles_on (codes "cid") request))
    e

-- Plan.antt, Commands.antt

showing_is_about_a_request : topic_of (plan_of (command.Show 7)) ≡ Some (OneRequest 7)
showing_is_about_a_request = refl

listing_is_about_a_queue :
    topic_of (plan_of (command.List (codes "general"))) ≡ Some (OneQueue (codes "general"))
listing_is_about_a_queue = refl

overdue_is_about_the_desk : topic_of (plan_of command.Overdue) ≡ Some WholeDesk
overdue_is_about_the_desk = refl

history_reads : is_reading (plan_of (command.History 7)) ≡ true
history_reads = refl

taking_changes : is_reading (plan_of (command.Take 7)) ≡ false
taking_changes = refl

link_names_both_ends : named_by (plan_of (command.Link 7 DependsOn 8)) ≡ 7 ∷ 8 ∷ []
link_names_both_ends = refl

filed_request_is_told : answer_of_change (filing open_row [] []) ≡ answer.Created 7
filed_request_is_told = refl

comment_is_done : answer_of_change (noting []) ≡ answer.Done
comment_is_done = refl

-- Commands/Create.antt

full_at_its_limit :
    (settings : Settings) → request_limit settings ≡ 3
    → is_full settings (record no_facts { request_count = 3 }) ≡ true
full_at_its_limit settings e = ap (λ n. nat_le n 3) e

not_full_below_its_limit :
    (settings : Settings) → request_limit settings ≡ 3
    → is_full settings (record no_facts { request_count = 2 }) ≡ false
not_full_below_its_limit settings e = ap (λ n. nat_le n 2) e

-- Commands/SetStatus.antt

open_dependency :
    (settings : Settings) → lifecycle_named settings (codes "default") ≡ Some default_lifecycle
    → has_open_dependency settings (depends (codes "resolved") ∷ depends (codes "new") ∷ []) ≡ true
unfolding default_lifecycle
open_dependency settings e =
    ap
    (λ l. not (is_inactive l (codes "resolved")) || (not (is_inactive l (codes "new")) || false))
    e

resolved_dependencies :
    (settings : Settings) → lifecycle_named settings (codes "default") ≡ Some default_lifecycle
    → has_open_dependency settings (depends (codes "resolved") ∷ depends (codes "deleted") ∷ [])
    ≡ false
unfolding default_lifecycle
resolved_dependencies settings e =
    ap
    (λ l.
    not (is_inactive l (codes "resolved")) || (not (is_inactive l (codes "deleted")) || false))
    e

-- a request whose lifecycle the settings lack is open
dependency_of_no_lifecycle :
    (settings : Settings) → lifecycle_named settings (codes "default") ≡ None
    → has_open_dependency settings (depends (codes "resolved") ∷ []) ≡ true
dependency_of_no_lifecycle settings e =
    ap (λ l. not (is_inactive l (codes "resolved")) || false) e
