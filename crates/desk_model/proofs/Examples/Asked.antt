-- Examples of the commands: each refusal with those behind it, and what is changed.
use Rattle.std.specs.Prelude.{◌≡◌, refl, ℕ, true, false, List, [], ◌∷◌, codes, Some, None, map}
use Rattle.std.specs.Str.{chars}
use Rattle.std.specs.Fmt.{digits}
use Rattle.lifecycle_core.specs.Standard.{default_lifecycle}
use Rattle.rights_core.specs.People.{parts_of}
use Rattle.rights_core.specs.declared.grant.Subject.TheVariants as subject
use Rattle.desk_model.specs.Change.{no_change}
use Rattle.desk_model.specs.Commands.Comment as comment
use Rattle.desk_model.specs.Commands.Create as create
use Rattle.desk_model.specs.Commands.Give as give
use Rattle.desk_model.specs.Commands.Link as linked
use Rattle.desk_model.specs.Commands.OpenQueue as open_queue
use Rattle.desk_model.specs.Commands.Reply as reply
use Rattle.desk_model.specs.Commands.SetLevel as set_level
use Rattle.desk_model.specs.Commands.SetStatus as set_status
use Rattle.desk_model.specs.Commands.Steal as steal
use Rattle.desk_model.specs.Commands.Take as take
use Rattle.desk_model.specs.Commands.Unlink as unlinked
use Rattle.desk_model.specs.Commands.Untake as untake
use Rattle.desk_model.specs.Commands.Unwatch as unwatching
use Rattle.desk_model.specs.Commands.Watch as watching
use Rattle.desk_model.specs.Condition.{first_holding}
use Rattle.desk_model.specs.Entries.{lacks_room, owner_word}
use Rattle.desk_model.specs.Facts.{no_facts}
use Rattle.desk_model.specs.Links.{link}
use Rattle.desk_model.specs.Plan.{Call}
use Rattle.desk_model.specs.Watchers.{watcher}
use Rattle.desk_model.specs.declared.facts.Facts.{Facts}
use Rattle.desk_model.specs.declared.facts.SeenRequest.{SeenRequest}
use Rattle.desk_model.specs.declared.refusal.Refusal.TheVariants.{Denied, NoChange, BadText}
use Rattle.desk_model.specs.declared.refusal.Refusal.TheVariants.{NoTransition, OpenDependency}
use Rattle.desk_model.specs.declared.refusal.Refusal.TheVariants.{NotFound, UnknownName}
use Rattle.desk_model.specs.declared.refusal.Refusal.TheVariants.{Owned, NotOwned, NotOwner, Exists}
use Rattle.desk_model.specs.declared.refusal.Refusal.TheVariants.{SelfLink, Full}
use Rattle.desk_model.specs.declared.rows.Entry.{Entry}
use Rattle.desk_model.specs.declared.rows.EntryKind.TheVariants as kind
use Rattle.desk_model.specs.declared.rows.EntryKind.{EntryKind}
use Rattle.desk_model.specs.declared.rows.LinkKind.TheVariants.{DependsOn, MemberOf}
use Rattle.desk_model.specs.declared.rows.RequestRow.{RequestRow}
use Rattle.desk_model.specs.declared.rows.Turn.TheVariants as turn
use Rattle.desk_model.specs.declared.rows.WatchRole.TheVariants.{Requestor, Cc, AdminCc}
use Rattle.desk_model.proofs.Examples.Office.{row, open_row, request, depends, by_hand, granted_to}
use Rattle.desk_model.proofs.Examples.Office.{four, office, general, sales, told_entry}

-- ---- bob calls at 400, with these rights, where a history may have
-- four entries

abbrev by_bob : List (List ℕ) → Call
by_bob rights =
    record {
      settings = record office {
        people = parts_of four []
            (map (granted_to (subject.Person (codes "bob")) None) rights);
      };
      at = 400;
      caller = codes "bob";
    }

-- the entry of that number
abbrev noted : ℕ → EntryKind → List ℕ → List ℕ → Entry
noted number kind head body = told_entry 7 number 400 (codes "bob") kind head body

abbrev in_general : Facts
in_general = record no_facts { queue = Some general }

abbrev of_nobody : SeenRequest
of_nobody = record request { row = record open_row { owner = None } }

abbrev of_cid : SeenRequest
of_cid = record request { row = record open_row { owner = Some (codes "cid") } }

abbrev with_four : SeenRequest → SeenRequest
with_four request = record request { entry_count = 4 }

-- Entries.antt

room_for_the_fourth : lacks_room (by_bob []) request 1 ≡ false
room_for_the_fourth = refl

no_room_for_a_fifth : lacks_room (by_bob []) request 2 ≡ true
no_room_for_a_fifth = refl

owner_in_an_entry : owner_word (Some (codes "bob")) ≡ codes "bob"
owner_in_an_entry = refl

no_owner_in_an_entry : owner_word None ≡ codes "Nobody"
no_owner_in_an_entry = refl

-- Commands/Take.antt

take_without_a_right :
    first_holding (take.conditions (by_bob []) in_general of_cid) ≡ Some (Denied (codes "TakeTicket"))
unfolding by_hand
take_without_a_right = refl

take_without_the_right_to_own :
    first_holding (take.conditions (by_bob (codes "TakeTicket" ∷ [])) in_general of_cid)
    ≡ Some (Denied (codes "OwnTicket"))
unfolding by_hand
take_without_the_right_to_own = refl

abbrev may_take : Call
may_take = by_bob (codes "TakeTicket" ∷ codes "OwnTicket" ∷ [])

take_one's_own : first_holding (take.conditions may_take in_general (with_four request)) ≡ Some NoChange
unfolding by_hand
take_one's_own = refl

take_another's : first_holding (take.conditions may_take in_general (with_four of_cid)) ≡ Some Owned
unfolding by_hand
take_another's = refl

take_with_a_full_history :
    first_holding (take.conditions may_take in_general (with_four of_nobody)) ≡ Some Full
unfolding by_hand
take_with_a_full_history = refl

take_nobody's : first_holding (take.conditions may_take in_general of_nobody) ≡ None
unfolding by_hand
take_nobody's = refl

taken :
    take.change (by_bob []) in_general of_nobody
    ≡ record no_change {
      row = Some open_row;
      entries = noted 4 kind.Owner (codes "Nobody") (codes "bob") ∷ [];
    }
taken = refl

-- Commands/Steal.antt

steal_without_a_right :
    first_holding (steal.conditions (by_bob []) in_general of_nobody)
    ≡ Some (Denied (codes "StealTicket"))
unfolding by_hand
steal_without_a_right = refl

-- the right to take isn't asked for
abbrev may_steal : Call
may_steal = by_bob (codes "StealTicket" ∷ codes "OwnTicket" ∷ [])

steal_without_the_right_to_own :
    first_holding (steal.conditions (by_bob (codes "StealTicket" ∷ [])) in_general of_nobody)
    ≡ Some (Denied (codes "OwnTicket"))
unfolding by_hand
steal_without_the_right_to_own = refl

steal_one's_own : first_holding (steal.conditions may_steal in_general request) ≡ Some NoChange
unfolding by_hand
steal_one's_own = refl

steal_nobody's : first_holding (steal.conditions may_steal in_general of_nobody) ≡ Some NotOwned
unfolding by_hand
steal_nobody's = refl

steal_another's : first_holding (steal.conditions may_steal in_general of_cid) ≡ None
unfolding by_hand
steal_another's = refl

stolen :
    steal.change (by_bob []) in_general of_cid
    ≡ record no_change {
      row = Some open_row;
      entries = noted 4 kind.Owner (codes "cid") (codes "bob") ∷ [];
    }
stolen = refl

-- Commands/Untake.antt: no right is asked for

untake_nobody's : first_holding (untake.conditions (by_bob []) in_general of_nobody) ≡ Some NotOwned
untake_nobody's = refl

untake_another's : first_holding (untake.conditions (by_bob []) in_general of_cid) ≡ Some NotOwner
untake_another's = refl

untake_one's_own : first_holding (untake.conditions (by_bob []) in_general request) ≡ None
untake_one's_own = refl

untaken :
    untake.change (by_bob []) in_general request
    ≡ record no_change {
      row = Some (record open_row { owner = None });
      entries = noted 4 kind.Owner (codes "bob") (codes "Nobody") ∷ [];
    }
untaken = refl

-- Commands/Give.antt

give_to_a_stranger :
    first_holding (give.conditions (codes "eve") (by_bob []) in_general of_cid) ≡ Some UnknownName
give_to_a_stranger = refl

give_what_is_another's :
    first_holding (give.conditions (codes "bob") (by_bob []) in_general of_cid)
    ≡ Some (Denied (codes "ReassignTicket"))
unfolding by_hand
give_what_is_another's = refl

-- whose own it is needs no right, but who gets it does
give_to_one_who_may_not_own :
    first_holding (give.conditions (codes "cid") (by_bob []) in_general request)
    ≡ Some (Denied (codes "OwnTicket"))
unfolding by_hand
give_to_one_who_may_not_own = refl

give_to_oneself :
    first_holding
    (give.conditions (codes "bob") (by_bob (codes "OwnTicket" ∷ [])) in_general request)
    ≡ Some NoChange
unfolding by_hand
give_to_oneself = refl

give_by_right :
    first_holding
    (give.conditions (codes "bob") (by_bob (codes "ReassignTicket" ∷ codes "OwnTicket" ∷ []))
    in_general of_cid)
    ≡ None
unfolding by_hand
give_by_right = refl

given :
    give.change (codes "cid") (by_bob []) in_general request
    ≡ record no_change {
      row = Some (record open_row { owner = Some (codes "cid") });
      entries = noted 4 kind.Owner (codes "bob") (codes "cid") ∷ [];
    }
given = refl

-- Commands/SetStatus.antt

abbrev depending : List (List ℕ) → Facts
depending statuses = record in_general { dependencies = map depends statuses }

move_to_no_status :
    first_holding (set_status.conditions (codes "closed") (by_bob []) in_general request)
    ≡ Some UnknownName
unfolding by_hand
move_to_no_status = refl

move_without_a_right :
    first_holding (set_status.conditions (codes "open") (by_bob []) in_general request)
    ≡ Some (Denied (codes "ModifyTicket"))
unfolding by_hand
move_without_a_right = refl

delete_without_its_right :
    first_holding
    (set_status.conditions (codes "deleted") (by_bob (codes "ModifyTicket" ∷ [])) in_general request)
    ≡ Some (Denied (codes "DeleteTicket"))
unfolding by_hand
delete_without_its_right = refl

abbrev may_modify : Call
may_modify = by_bob (codes "ModifyTicket" ∷ [])

move_to_the_same_status :
    first_holding (set_status.conditions (codes "open") may_modify in_general request)
    ≡ Some NoChange
unfolding by_hand
move_to_the_same_status = refl

abbrev without_moves : Call
without_moves =
    record may_modify {
      settings = record may_modify.settings {
        lifecycles =
            record { name = codes "default"; value = record default_lifecycle { moves = [] } } ∷ [];
      };
    }

move_that_isn't_allowed :
    first_holding
    (set_status.conditions (codes "resolved") without_moves (depending (codes "new" ∷ [])) request)
    ≡ Some NoTransition
unfolding by_hand
move_that_isn't_allowed = refl

resolve_with_an_open_dependency :
    first_holding
    (set_status.conditions (codes "resolved") may_modify
    (depending (codes "resolved" ∷ codes "new" ∷ [])) (with_four request))
    ≡ Some OpenDependency
unfolding by_hand
resolve_with_an_open_dependency = refl

resolve_with_resolved_dependencies :
    first_holding
    (set_status.conditions (codes "resolved") may_modify (depending (codes "rejected" ∷ []))
    request)
    ≡ None
unfolding by_hand
resolve_with_resolved_dependencies = refl

stall_with_an_open_dependency :
    first_holding
    (set_status.conditions (codes "stalled") may_modify (depending (codes "new" ∷ [])) request)
    ≡ None
unfolding by_hand
stall_with_an_open_dependency = refl

moved :
    set_status.change (codes "resolved") (by_bob []) in_general request
    ≡ record no_change {
      row = Some (row (codes "resolved") turn.Desk);
      entries = noted 4 kind.Status (codes "open") (codes "resolved") ∷ [];
    }
unfolding by_hand
moved = refl

-- Commands/Reply.antt

abbrev may_reply : Call
may_reply = by_bob (codes "ReplyToTicket" ∷ [])

abbrev new_request : SeenRequest
new_request = record request { row = row (codes "new") turn.Desk }

reply_without_a_right :
    first_holding (reply.conditions (by_bob []) in_general (with_four request))
    ≡ Some (Denied (codes "ReplyToTicket"))
unfolding by_hand
reply_without_a_right = refl

reply_as_the_fourth_entry : first_holding (reply.conditions may_reply in_general request) ≡ None
unfolding by_hand
reply_as_the_fourth_entry = refl

-- it would be moved to `open` by a fifth
reply_that_moves_as_the_fourth_entry :
    first_holding (reply.conditions may_reply in_general new_request) ≡ Some Full
unfolding by_hand
reply_that_moves_as_the_fourth_entry = refl

desk_has_replied :
    reply.change (codes "Yes") may_reply in_general new_request
    ≡ record no_change {
      row = Some (record (row (codes "open") turn.Requestor) { since = 400 });
      entries =
          noted 4 kind.Reply [] (codes "Yes")
          ∷ noted 5 kind.Status (codes "new") (codes "open") ∷ [];
    }
unfolding by_hand
desk_has_replied = refl

requestor_has_replied :
    reply.change (codes "Yes") (record may_reply { caller = codes "ann" }) in_general new_request
    ≡ record no_change {
      row = Some (row (codes "new") turn.Desk);
      entries = record (noted 4 kind.Reply [] (codes "Yes")) { actor = codes "ann" } ∷ [];
    }
unfolding by_hand
requestor_has_replied = refl

-- Commands/Comment.antt

comment_without_a_right :
    first_holding (comment.conditions (by_bob []) in_general (with_four request))
    ≡ Some (Denied (codes "CommentOnTicket"))
unfolding by_hand
comment_without_a_right = refl

comment_with_a_full_history :
    first_holding
    (comment.conditions (by_bob (codes "CommentOnTicket" ∷ [])) in_general (with_four request))
    ≡ Some Full
unfolding by_hand
comment_with_a_full_history = refl

commented :
    comment.change (codes "Hm") (by_bob []) in_general request
    ≡ record no_change { entries = noted 4 kind.Comment [] (codes "Hm") ∷ [] }
commented = refl

-- Commands/Watch.antt, Commands/Unwatch.antt

put_oneself_in_by_the_right_to_watch :
    watching.may_set_role Cc (codes "bob") (by_bob (codes "Watch" ∷ [])) request ≡ true
unfolding by_hand
put_oneself_in_by_the_right_to_watch = refl

put_another_in_by_the_right_to_watch :
    watching.may_set_role Cc (codes "ann") (by_bob (codes "Watch" ∷ [])) request ≡ false
unfolding by_hand
put_another_in_by_the_right_to_watch = refl

become_admin_cc_by_the_right_to_watch :
    watching.may_set_role AdminCc (codes "bob") (by_bob (codes "Watch" ∷ [])) request ≡ false
unfolding by_hand
become_admin_cc_by_the_right_to_watch = refl

become_admin_cc_by_its_right :
    watching.may_set_role AdminCc (codes "bob") (by_bob (codes "WatchAsAdminCc" ∷ [])) request
    ≡ true
unfolding by_hand
become_admin_cc_by_its_right = refl

put_another_in_by_the_right_to_modify :
    watching.may_set_role AdminCc (codes "ann") may_modify request ≡ true
unfolding by_hand
put_another_in_by_the_right_to_modify = refl

put_a_stranger_in :
    first_holding (watching.conditions Cc (codes "eve") (by_bob []) in_general request)
    ≡ Some UnknownName
put_a_stranger_in = refl

put_in_without_a_right :
    first_holding (watching.conditions Cc (codes "cid") (by_bob []) in_general request)
    ≡ Some (Denied (codes "ModifyTicket"))
unfolding by_hand
put_in_without_a_right = refl

put_in_who_is_in :
    first_holding (watching.conditions Cc (codes "cid") may_modify in_general request)
    ≡ Some NoChange
unfolding by_hand
put_in_who_is_in = refl

put_in_who_is_in_another_role :
    first_holding (watching.conditions AdminCc (codes "cid") may_modify in_general request) ≡ None
unfolding by_hand
put_in_who_is_in_another_role = refl

has_been_put_in :
    watching.change AdminCc (codes "cid") (by_bob []) in_general request
    ≡ record no_change {
      put = watcher 7 AdminCc (codes "cid") ∷ [];
      entries = noted 4 kind.Watch (codes "admincc") (codes "cid") ∷ [];
    }
has_been_put_in = refl

take_out_who_is_not_in :
    first_holding (unwatching.conditions Requestor (codes "cid") may_modify in_general request)
    ≡ Some NoChange
unfolding by_hand
take_out_who_is_not_in = refl

take_out_who_is_in :
    first_holding (unwatching.conditions Cc (codes "cid") may_modify in_general request) ≡ None
unfolding by_hand
take_out_who_is_in = refl

take_out_without_a_right :
    first_holding (unwatching.conditions Cc (codes "cid") (by_bob (codes "Watch" ∷ [])) in_general request)
    ≡ Some (Denied (codes "ModifyTicket"))
unfolding by_hand
take_out_without_a_right = refl

has_been_taken_out :
    unwatching.change Cc (codes "cid") (by_bob []) in_general request
    ≡ record no_change {
      taken = watcher 7 Cc (codes "cid") ∷ [];
      entries = noted 4 kind.Unwatch (codes "cc") (codes "cid") ∷ [];
    }
has_been_taken_out = refl

-- Commands/Link.antt, Commands/Unlink.antt

link_without_a_right :
    first_holding (linked.conditions 7 (by_bob []) in_general request)
    ≡ Some (Denied (codes "ModifyTicket"))
unfolding by_hand
link_without_a_right = refl

link_that_is_there_already :
    first_holding
    (linked.conditions 8 may_modify (record in_general { is_linked = true }) request)
    ≡ Some NoChange
unfolding by_hand
link_that_is_there_already = refl

link_with_itself : first_holding (linked.conditions 7 may_modify in_general (with_four request)) ≡ Some SelfLink
unfolding by_hand
link_with_itself = refl

link_with_another : first_holding (linked.conditions 8 may_modify in_general request) ≡ None
unfolding by_hand
link_with_another = refl

has_been_linked :
    linked.change MemberOf 12 (by_bob []) in_general request
    ≡ record no_change {
      linked = Some (link 7 MemberOf 12);
      entries = noted 4 kind.Link (codes "MemberOf") (codes "12") ∷ [];
    }
unfolding digits
has_been_linked = refl

unlink_what_isn't_linked :
    first_holding (unlinked.conditions may_modify in_general request) ≡ Some NoChange
unfolding by_hand
unlink_what_isn't_linked = refl

unlink_what_is_linked :
    first_holding (unlinked.conditions may_modify (record in_general { is_linked = true }) request)
    ≡ None
unfolding by_hand
unlink_what_is_linked = refl

has_been_unlinked :
    unlinked.change DependsOn 8 (by_bob []) in_general request
    ≡ record no_change {
      unlinked = Some (link 7 DependsOn 8);
      entries = noted 4 kind.Unlink (codes "DependsOn") (codes "8") ∷ [];
    }
unfolding digits
has_been_unlinked = refl

-- Commands/SetLevel.antt

level_of_no_settings :
    first_holding (set_level.conditions (Some (codes "slow")) (by_bob []) in_general request)
    ≡ Some UnknownName
level_of_no_settings = refl

level_without_a_right :
    first_holding (set_level.conditions None (by_bob []) in_general request)
    ≡ Some (Denied (codes "ModifyTicket"))
unfolding by_hand
level_without_a_right = refl

no_level_as_before :
    first_holding (set_level.conditions None may_modify in_general request) ≡ Some NoChange
unfolding by_hand
no_level_as_before = refl

first_level :
    first_holding (set_level.conditions (Some (codes "fast")) may_modify in_general request) ≡ None
unfolding by_hand
first_level = refl

level_is_set :
    set_level.change (Some (codes "fast")) (by_bob []) in_general request
    ≡ record no_change {
      row = Some (record open_row { level = Some (codes "fast") });
      entries = noted 4 kind.Level (codes "-") (codes "fast") ∷ [];
    }
level_is_set = refl

level_goes :
    (set_level.change None (by_bob []) in_general
    (record request { row = record open_row { level = Some (codes "fast") } })).entries
    ≡ noted 4 kind.Level (codes "fast") (codes "-") ∷ []
level_goes = refl

-- Commands/Create.antt: there may be three requests

abbrev counting : ℕ → Facts
counting n = record in_general { request_count = n }

abbrev may_create : Call
may_create = by_bob (codes "CreateTicket" ∷ [])

create_without_a_subject :
    first_holding (create.beforehand [] (by_bob [])) ≡ Some BadText
unfolding chars
create_without_a_subject = refl

create_in_no_queue :
    first_holding
    (create.conditions (codes "it") None (codes "eve" ∷ []) (by_bob []) (record no_facts { request_count = 3 }))
    ≡ Some NotFound
unfolding by_hand
create_in_no_queue = refl

create_for_a_stranger :
    first_holding
    (create.conditions (codes "general") None (codes "ann" ∷ codes "eve" ∷ []) (by_bob []) (counting 3))
    ≡ Some UnknownName
unfolding by_hand
create_for_a_stranger = refl

create_in_no_status :
    first_holding
    (create.conditions (codes "general") (Some (codes "closed")) [] (by_bob []) (counting 3))
    ≡ Some UnknownName
unfolding by_hand
create_in_no_status = refl

create_without_a_right :
    first_holding
    (create.conditions (codes "general") (Some (codes "stalled")) [] (by_bob []) (counting 3))
    ≡ Some (Denied (codes "CreateTicket"))
unfolding by_hand
create_without_a_right = refl

create_in_another_status :
    first_holding
    (create.conditions (codes "general") (Some (codes "stalled")) [] may_create (counting 3))
    ≡ Some NoTransition
unfolding by_hand
create_in_another_status = refl

create_the_fourth :
    first_holding (create.conditions (codes "general") None [] may_create (counting 3))
    ≡ Some Full
unfolding by_hand
create_the_fourth = refl

create_the_third :
    first_holding (create.conditions (codes "general") None [] may_create (counting 2)) ≡ None
unfolding by_hand
create_the_third = refl

abbrev filed_row : List ℕ → RequestRow
filed_row status =
    record {
      id = 3;
      queue = codes "general";
      subject = codes "Printer";
      status = status;
      owner = None;
      level = Some (codes "fast");
      created = 400;
      opened = 400;
      turn = turn.Desk;
      since = 400;
    }

-- for the caller, in the first status and at the queue's level
created_for_the_caller :
    create.change (codes "general") (codes "Printer") None [] (by_bob []) (counting 2)
    ≡ record no_change {
      filed = Some (filed_row (codes "new"));
      put = watcher 3 Requestor (codes "bob") ∷ [];
      entries = told_entry 3 1 400 (codes "bob") kind.Create [] (codes "new") ∷ [];
    }
unfolding by_hand
created_for_the_caller = refl

-- each once, in order; not the caller
created_for_others :
    create.change (codes "general") (codes "Printer") (Some (codes "open"))
    (codes "cid" ∷ codes "ann" ∷ codes "cid" ∷ []) (by_bob []) (counting 2)
    ≡ record no_change {
      filed = Some (filed_row (codes "open"));
      put = watcher 3 Requestor (codes "ann") ∷ watcher 3 Requestor (codes "cid") ∷ [];
      entries = told_entry 3 1 400 (codes "bob") kind.Create [] (codes "open") ∷ [];
    }
unfolding by_hand
created_for_others = refl

-- Commands/OpenQueue.antt

open_a_queue_of_no_name :
    first_holding (open_queue.beforehand (codes "It") (codes "none") None (by_bob []))
    ≡ Some BadText
open_a_queue_of_no_name = refl

open_a_queue_of_no_lifecycle :
    first_holding (open_queue.beforehand (codes "it") (codes "none") None (by_bob []))
    ≡ Some UnknownName
open_a_queue_of_no_lifecycle = refl

open_a_queue_of_no_level :
    first_holding
    (open_queue.beforehand (codes "it") (codes "default") (Some (codes "slow")) (by_bob []))
    ≡ Some UnknownName
open_a_queue_of_no_level = refl

open_a_queue_without_a_right :
    first_holding (open_queue.conditions (codes "general") (by_bob []) in_general)
    ≡ Some (Denied (codes "AdminQueue"))
unfolding by_hand
open_a_queue_without_a_right = refl

abbrev may_open : Call
may_open = by_bob (codes "AdminQueue" ∷ [])

open_a_queue_that_is_open :
    first_holding
    (open_queue.conditions (codes "general") may_open (record in_general { queue_count = 1000 }))
    ≡ Some Exists
unfolding by_hand
open_a_queue_that_is_open = refl

open_queue_1001 :
    first_holding
    (open_queue.conditions (codes "it") may_open (record no_facts { queue_count = 1000 }))
    ≡ Some Full
unfolding by_hand
open_queue_1001 = refl

open_queue_1000 :
    first_holding
    (open_queue.conditions (codes "it") may_open (record no_facts { queue_count = 999 }))
    ≡ None
unfolding by_hand
open_queue_1000 = refl

queue_is_opened :
    open_queue.change (codes "it") (codes "default") None (by_bob []) no_facts
    ≡ record no_change { queue = Some (record sales { name = codes "it" }) }
queue_is_opened = refl
