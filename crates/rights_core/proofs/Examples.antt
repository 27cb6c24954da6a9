-- Examples of the definitions: members through nested groups and groups in a circle; who holds a
-- right by each kind of grant, and by which not; each fault and which of two comes first.
use Rattle.std.specs.Prelude.{◌≡◌, refl, ℕ, true, false, List, [], ◌∷◌, codes}
use Rattle.std.specs.Prelude.{Option, Some, None}
use Rattle.rights_core.specs.People.{IsChain, has_role, holds, is_member, knows, leads_within}
use Rattle.rights_core.specs.People.{is_among, no_roles, parts_of}
use Rattle.rights_core.specs.Right.{standard_rights, see_queue, create_ticket, show_ticket}
use Rattle.rights_core.specs.Right.{show_ticket_comments, modify_ticket, reply_to_ticket}
use Rattle.rights_core.specs.Right.{comment_on_ticket, own_ticket, take_ticket, steal_ticket}
use Rattle.rights_core.specs.Right.{reassign_ticket, delete_ticket, watch, watch_as_admin_cc}
use Rattle.rights_core.specs.Right.{admin_queue, super_user}
use Rattle.rights_core.specs.RightsFaults.{fault_of, misname, name_of, number_of, stranger}
use Rattle.rights_core.specs.declared.fault.RightsFault.TheVariants.{BadName, Repeated}
use Rattle.rights_core.specs.declared.fault.RightsFault.TheVariants.{UnknownMember, UnknownSubject}
use Rattle.rights_core.specs.declared.fault.RightsFault.TheVariants.{NoMemory}
use Rattle.rights_core.specs.declared.grant.Grant.{Grant}
use Rattle.rights_core.specs.declared.grant.Subject.{Subject}
use Rattle.rights_core.specs.declared.grant.Subject.TheVariants.{Everyone, Person, Group, Role}
use Rattle.rights_core.specs.declared.parts.Group.{Group as GroupParts}
use Rattle.rights_core.specs.declared.parts.Parts.{Parts}
use Rattle.rights_core.specs.declared.role.Role.TheVariants.{Owner, Requestor, Cc, AdminCc}
use Rattle.rights_core.specs.declared.role.Roles.{Roles}

-- `desk` has bob and the group `night`, which has cid and `ring`; `ring` has dora, and `night`
-- again. ann is in no group.

abbrev group : List ℕ → List (List ℕ) → GroupParts
group name members = record { name = name; members = members }

abbrev groups : List GroupParts
groups =
    group (codes "desk") (codes "bob" ∷ codes "night" ∷ [])
    ∷ group (codes "night") (codes "cid" ∷ codes "ring" ∷ [])
    ∷ group (codes "ring") (codes "dora" ∷ codes "night" ∷ []) ∷ []

abbrev grant : List ℕ → Subject → Option (List ℕ) → Grant
grant right subject queue = record { right = right; subject = subject; queue = queue }

abbrev grants : List Grant
grants =
    grant (codes "Watch") Everyone None
    ∷ grant (codes "TakeTicket") (Group (codes "desk")) (Some (codes "general"))
    ∷ grant (codes "SuperUser") (Person (codes "eve")) (Some (codes "general"))
    ∷ grant (codes "OwnTicket") (Person (codes "ann")) None
    ∷ grant (codes "ReplyToTicket") (Role Requestor) None
    ∷ grant (codes "ShowTicket") (Role Cc) None ∷ []

abbrev people : Parts
people =
    parts_of
    (codes "ann" ∷ codes "bob" ∷ codes "cid" ∷ codes "dora" ∷ codes "eve" ∷ [])
    groups grants

-- People.antt: persons and members

person_is_known : knows people (codes "eve") ≡ true
person_is_known = refl

group_is_no_person : knows people (codes "desk") ≡ false
group_is_no_person = refl

no_bytes_are_no_person : knows people [] ≡ false
no_bytes_are_no_person = refl

member_that_is_listed : is_member people (codes "bob") (codes "desk") ≡ true
unfolding is_member leads_within
member_that_is_listed = refl

member_of_an_inner_group : is_member people (codes "cid") (codes "desk") ≡ true
unfolding is_member leads_within
member_of_an_inner_group = refl

-- by `night` and `ring`
member_three_groups_deep : is_member people (codes "dora") (codes "desk") ≡ true
unfolding is_member leads_within
member_three_groups_deep = refl

-- `ring` and `night` stand in one another
member_round_a_circle : is_member people (codes "cid") (codes "ring") ≡ true
unfolding is_member leads_within
member_round_a_circle = refl

outer_group's_member_is_not_of_the_inner : is_member people (codes "bob") (codes "night") ≡ false
unfolding is_member leads_within
outer_group's_member_is_not_of_the_inner = refl

member_of_none : is_member people (codes "ann") (codes "desk") ≡ false
unfolding is_member leads_within
member_of_none = refl

-- `night` is in `desk`, but is no person
group_is_no_member : is_member people (codes "night") (codes "desk") ≡ false
unfolding is_member leads_within
group_is_no_member = refl

no_group_has_no_member : is_member people (codes "bob") (codes "day") ≡ false
unfolding is_member leads_within
no_group_has_no_member = refl

-- People.antt: roles

abbrev as_requestor : Roles
as_requestor = record no_roles { requestor = true }

abbrev as_cc : Roles
as_cc = record no_roles { cc = true }

requestor_has_that_role : has_role as_requestor Requestor ≡ true
unfolding no_roles
requestor_has_that_role = refl

requestor_has_no_other_role : has_role as_requestor Owner ≡ false
unfolding no_roles
requestor_has_no_other_role = refl

cc_has_that_role : has_role as_cc Cc ≡ true
unfolding no_roles
cc_has_that_role = refl

owner_has_that_role : has_role (record no_roles { owner = true }) Owner ≡ true
unfolding no_roles
owner_has_that_role = refl

admin_cc_has_that_role : has_role (record no_roles { admin_cc = true }) AdminCc ≡ true
unfolding no_roles
admin_cc_has_that_role = refl

cc_is_not_admin_cc : has_role as_cc AdminCc ≡ false
unfolding no_roles
cc_is_not_admin_cc = refl

-- People.antt: who holds a right

everyone_holds : holds people (codes "ann") (codes "Watch") (codes "general") no_roles ≡ true
unfolding holds is_member leads_within no_roles super_user
everyone_holds = refl

stranger_holds_nothing :
    holds people (codes "fred") (codes "Watch") (codes "general") no_roles ≡ false
unfolding holds is_member leads_within no_roles super_user
stranger_holds_nothing = refl

group_holds_by_inner_members :
    holds people (codes "dora") (codes "TakeTicket") (codes "general") no_roles ≡ true
unfolding holds is_member leads_within no_roles super_user
group_holds_by_inner_members = refl

grant_of_a_queue_is_not_for_others :
    holds people (codes "dora") (codes "TakeTicket") (codes "sales") no_roles ≡ false
unfolding holds is_member leads_within no_roles super_user
grant_of_a_queue_is_not_for_others = refl

grant_to_a_group_is_for_its_members :
    holds people (codes "ann") (codes "TakeTicket") (codes "general") no_roles ≡ false
unfolding holds is_member leads_within no_roles super_user
grant_to_a_group_is_for_its_members = refl

grant_without_a_queue_is_for_all :
    holds people (codes "ann") (codes "OwnTicket") (codes "sales") no_roles ≡ true
unfolding holds is_member leads_within no_roles super_user
grant_without_a_queue_is_for_all = refl

grant_to_a_person_is_for_that_one :
    holds people (codes "bob") (codes "OwnTicket") (codes "sales") no_roles ≡ false
unfolding holds is_member leads_within no_roles super_user
grant_to_a_person_is_for_that_one = refl

-- a right that no grant names
super_user_holds_each_right :
    holds people (codes "eve") (codes "Approve") (codes "general") no_roles ≡ true
unfolding holds is_member leads_within no_roles super_user
super_user_holds_each_right = refl

super_user_of_a_queue_holds_there :
    holds people (codes "eve") (codes "Approve") (codes "sales") no_roles ≡ false
unfolding holds is_member leads_within no_roles super_user
super_user_of_a_queue_holds_there = refl

role_holds : holds people (codes "bob") (codes "ReplyToTicket") (codes "sales") as_requestor ≡ true
unfolding holds is_member leads_within no_roles super_user
role_holds = refl

other_role_does_not :
    holds people (codes "bob") (codes "ReplyToTicket") (codes "sales") as_cc ≡ false
unfolding holds is_member leads_within no_roles super_user
other_role_does_not = refl

stranger_holds_nothing_by_a_role :
    holds people (codes "fred") (codes "ReplyToTicket") (codes "sales") as_requestor ≡ false
unfolding holds is_member leads_within no_roles super_user
stranger_holds_nothing_by_a_role = refl

-- Right.antt

sixteen_rights :
    standard_rights
    ≡ codes "SeeQueue"
    ∷ codes "CreateTicket"
    ∷ codes "ShowTicket"
    ∷ codes "ShowTicketComments"
    ∷ codes "ModifyTicket"
    ∷ codes "ReplyToTicket"
    ∷ codes "CommentOnTicket"
    ∷ codes "OwnTicket"
    ∷ codes "TakeTicket"
    ∷ codes "StealTicket"
    ∷ codes "ReassignTicket"
    ∷ codes "DeleteTicket"
    ∷ codes "Watch"
    ∷ codes "WatchAsAdminCc"
    ∷ codes "AdminQueue"
    ∷ codes "SuperUser" ∷ []
unfolding standard_rights see_queue create_ticket show_ticket show_ticket_comments modify_ticket
    reply_to_ticket comment_on_ticket own_ticket take_ticket steal_ticket reassign_ticket
    delete_ticket watch watch_as_admin_cc admin_queue super_user
sixteen_rights = refl

first_right_is_standard : is_among standard_rights (codes "SeeQueue") ≡ true
unfolding standard_rights see_queue create_ticket show_ticket show_ticket_comments modify_ticket
    reply_to_ticket comment_on_ticket own_ticket take_ticket steal_ticket reassign_ticket
    delete_ticket watch watch_as_admin_cc admin_queue super_user
first_right_is_standard = refl

right_in_small_letters_is_not : is_among standard_rights (codes "seequeue") ≡ false
unfolding standard_rights see_queue create_ticket show_ticket show_ticket_comments modify_ticket
    reply_to_ticket comment_on_ticket own_ticket take_ticket steal_ticket reassign_ticket
    delete_ticket watch watch_as_admin_cc admin_queue super_user
right_in_small_letters_is_not = refl

-- RightsFaults.antt: numbers and names

number_of_the_first_fault : number_of BadName ≡ 1
number_of_the_first_fault = refl

number_of_the_last_fault : number_of NoMemory ≡ 5
number_of_the_last_fault = refl

name_of_the_third_fault : name_of UnknownMember ≡ codes "UnknownMember"
name_of_the_third_fault = refl

name_of_the_last_fault : name_of NoMemory ≡ codes "NoMemory"
name_of_the_last_fault = refl

-- RightsFaults.antt: what a fault is of

right_before_queue : misname (grant (codes "Own-It") Everyone (Some (codes "Help")))
    ≡ Some (codes "Own-It")
right_before_queue = refl

queue_of_no_name : misname (grant (codes "OwnTicket") Everyone (Some (codes "Help")))
    ≡ Some (codes "Help")
queue_of_no_name = refl

right_and_queue_of_names : misname (grant (codes "OwnTicket") Everyone (Some (codes "help")))
    ≡ None
right_and_queue_of_names = refl

right_for_all_queues : misname (grant (codes "OwnTicket") Everyone None) ≡ None
right_for_all_queues = refl

-- `ann` is a person and `desk` a group
first_of_two_strangers :
    stranger (codes "ann" ∷ []) groups
    (codes "ann" ∷ codes "desk" ∷ codes "zed" ∷ codes "yan" ∷ [])
    ≡ Some (codes "zed")
first_of_two_strangers = refl

no_stranger : stranger (codes "ann" ∷ []) groups (codes "ann" ∷ codes "desk" ∷ []) ≡ None
no_stranger = refl

-- RightsFaults.antt: the least fault

abbrev two : List (List ℕ)
two = codes "ann" ∷ codes "bob" ∷ []

people_have_no_fault : fault_of people ≡ None
unfolding fault_of
people_have_no_fault = refl

no_people_have_no_fault : fault_of (parts_of [] [] []) ≡ None
unfolding fault_of
no_people_have_no_fault = refl

person_with_a_large_letter : fault_of (parts_of (codes "Ann" ∷ []) [] []) ≡ Some BadName
unfolding fault_of
person_with_a_large_letter = refl

group_without_a_name : fault_of (parts_of two (group [] [] ∷ []) []) ≡ Some BadName
unfolding fault_of
group_without_a_name = refl

right_that_is_no_right's_name :
    fault_of (parts_of two [] (grant (codes "Own-It") Everyone None ∷ [])) ≡ Some BadName
unfolding fault_of
right_that_is_no_right's_name = refl

queue_that_is_no_name :
    fault_of (parts_of two [] (grant (codes "Watch") Everyone (Some (codes "1")) ∷ []))
    ≡ Some BadName
unfolding fault_of
queue_that_is_no_name = refl

-- it needn't be there
queue_that_is_not_there :
    fault_of (parts_of two [] (grant (codes "Watch") Everyone (Some (codes "sales")) ∷ [])) ≡ None
unfolding fault_of
queue_that_is_not_there = refl

person_twice : fault_of (parts_of (codes "ann" ∷ codes "ann" ∷ []) [] []) ≡ Some Repeated
unfolding fault_of
person_twice = refl

group_twice :
    fault_of (parts_of two (group (codes "day") [] ∷ group (codes "day") [] ∷ []) [])
    ≡ Some Repeated
unfolding fault_of
group_twice = refl

group_named_as_a_person : fault_of (parts_of two (group (codes "bob") [] ∷ []) []) ≡ Some Repeated
unfolding fault_of
group_named_as_a_person = refl

member_twice_is_no_fault :
    fault_of (parts_of two (group (codes "day") (codes "ann" ∷ codes "ann" ∷ []) ∷ []) []) ≡ None
unfolding fault_of
member_twice_is_no_fault = refl

group_in_itself_is_no_fault :
    fault_of (parts_of two (group (codes "day") (codes "day" ∷ []) ∷ []) []) ≡ None
unfolding fault_of
group_in_itself_is_no_fault = refl

member_that_is_not_there :
    fault_of (parts_of two (group (codes "day") (codes "cid" ∷ []) ∷ []) []) ≡ Some UnknownMember
unfolding fault_of
member_that_is_not_there = refl

grant_to_a_person_who_is_not_there :
    fault_of (parts_of two [] (grant (codes "Watch") (Person (codes "cid")) None ∷ []))
    ≡ Some UnknownSubject
unfolding fault_of
grant_to_a_person_who_is_not_there = refl

grant_to_a_group_as_a_person :
    fault_of
    (parts_of two (group (codes "day") [] ∷ [])
    (grant (codes "Watch") (Person (codes "day")) None ∷ []))
    ≡ Some UnknownSubject
unfolding fault_of
grant_to_a_group_as_a_person = refl

grant_to_a_person_as_a_group :
    fault_of (parts_of two [] (grant (codes "Watch") (Group (codes "ann")) None ∷ []))
    ≡ Some UnknownSubject
unfolding fault_of
grant_to_a_person_as_a_group = refl

bad_name_before_repeated :
    fault_of (parts_of (codes "1" ∷ codes "1" ∷ []) [] []) ≡ Some BadName
unfolding fault_of
bad_name_before_repeated = refl

repeated_before_unknown_member :
    fault_of (parts_of two (group (codes "ann") (codes "cid" ∷ []) ∷ []) []) ≡ Some Repeated
unfolding fault_of
repeated_before_unknown_member = refl

unknown_member_before_unknown_subject :
    fault_of
    (parts_of two (group (codes "day") (codes "cid" ∷ []) ∷ [])
    (grant (codes "Watch") (Person (codes "cid")) None ∷ []))
    ≡ Some UnknownMember
unfolding fault_of
unknown_member_before_unknown_subject = refl

-- People.antt: chains of groups

chain_of_one : IsChain groups (codes "desk") [] (codes "bob")
chain_of_one = refl

chain_of_three : IsChain groups (codes "desk") (codes "night" ∷ codes "ring" ∷ []) (codes "dora")
chain_of_three = (refl, (refl, refl))

-- by `night` twice
chain_in_a_circle :
    IsChain groups (codes "night") (codes "ring" ∷ codes "night" ∷ []) (codes "cid")
chain_in_a_circle = (refl, (refl, refl))
