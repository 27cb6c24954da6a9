-- Which persons, groups and grants make no people, and the numbers and names of their faults.
use Rattle.std.specs.Prelude.{ℕ, Bool, true, not, ◌&&◌, ◌||◌, List, ◌++◌, map}
use Rattle.std.specs.Prelude.{Option, Some, None, codes, find, option_and_then}
use Rattle.std.specs.Prelude.{if◌then◌else◌}
use Rattle.std.specs.Option.{option_or, option_map_or}
use Rattle.std.specs.List.{list_all, list_any}
use Rattle.std.specs.Str.{bytes_eq}
use Rattle.text_core.specs.Form.{is_name, is_right_name}
use Rattle.text_core.specs.Texts.{is_among, repeats_text}
use Rattle.rights_core.specs.declared.fault.RightsFault.{RightsFault}
use Rattle.rights_core.specs.declared.fault.RightsFault.TheVariants.{BadName, Repeated}
use Rattle.rights_core.specs.declared.fault.RightsFault.TheVariants.{UnknownMember, UnknownSubject}
use Rattle.rights_core.specs.declared.fault.RightsFault.TheVariants.{NoMemory}
use Rattle.rights_core.specs.declared.grant.Grant.{Grant}
use Rattle.rights_core.specs.declared.grant.Subject.{Subject}
use Rattle.rights_core.specs.declared.grant.Subject.TheVariants as subject
use Rattle.rights_core.specs.declared.parts.Group.{Group}
use Rattle.rights_core.specs.declared.parts.Parts.{Parts}

abbrev pub number_of : RightsFault → ℕ
number_of BadName = 1
number_of Repeated = 2
number_of UnknownMember = 3
number_of UnknownSubject = 4
number_of NoMemory = 5

abbrev pub name_of : RightsFault → List ℕ
name_of BadName = codes "BadName"
name_of Repeated = codes "Repeated"
name_of UnknownMember = codes "UnknownMember"
name_of UnknownSubject = codes "UnknownSubject"
name_of NoMemory = codes "NoMemory"

-- the right is a right's name, and the queue, if one is given, a name
abbrev pub has_grant_names : Grant → Bool
has_grant_names grant = is_right_name grant.right && option_map_or is_name grant.queue true

-- the right that isn't a right's name, or else the queue that isn't a name
abbrev pub misname : Grant → Option (List ℕ)
misname grant =
    if is_right_name grant.right
    then option_and_then (λ queue. if is_name queue then None else Some queue) grant.queue
    else Some grant.right

-- persons, groups, rights and queues are named as they may be
abbrev pub has_names : Parts → Bool
has_names parts =
    list_all is_name parts.persons && list_all (λ g. is_name g.name) parts.groups
    && list_all has_grant_names parts.grants

-- a group has this name
abbrev pub has_group : List Group → List ℕ → Bool
has_group groups name = list_any (λ g. bytes_eq g.name name) groups

abbrev pub group_names : List Group → List (List ℕ)
group_names groups = map (λ g. g.name) groups

-- persons and groups share one space of names, in which one name stands twice
abbrev pub repeats_name : List (List ℕ) → List Group → Bool
repeats_name persons groups = repeats_text (persons ++ group_names groups)

-- each member of the group is a person or a group
abbrev pub has_known_members : List (List ℕ) → List Group → Group → Bool
has_known_members persons groups group =
    list_all (λ name. is_among persons name || has_group groups name) group.members

-- the first of the members that is neither a person nor a group
abbrev pub stranger : List (List ℕ) → List Group → List (List ℕ) → Option (List ℕ)
stranger persons groups members =
    find (λ name. not (is_among persons name || has_group groups name)) members

-- the person or the group that a grant is for is there
abbrev pub is_there : List (List ℕ) → List Group → Subject → Bool
is_there persons groups (subject.Person name) = is_among persons name
is_there persons groups (subject.Group name) = has_group groups name
is_there persons groups subject.Everyone = true
is_there persons groups (subject.Role _) = true

-- this fault, if it applies
abbrev pub when : RightsFault → Bool → Option RightsFault
when fault applies = if applies then Some fault else None

-- each group has known members
abbrev pub knows_members : Parts → Bool
knows_members parts = list_all (has_known_members parts.persons parts.groups) parts.groups

-- each grant's subject is there
abbrev pub knows_subjects : Parts → Bool
knows_subjects parts = list_all (λ g. is_there parts.persons parts.groups g.subject) parts.grants

-- the first fault that applies, by number
unfoldable pub fault_of : Parts → Option RightsFault
fault_of parts =
    option_or (when BadName (not (has_names parts)))
    (option_or (when Repeated (repeats_name parts.persons parts.groups))
    (option_or (when UnknownMember (not (knows_members parts)))
    (when UnknownSubject (not (knows_subjects parts)))))
