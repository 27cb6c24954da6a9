-- What of a settings text has its fault first.
use Rattle.std.specs.Prelude.{ℕ, not, List, [], ◌∷◌, Option, Some, None, codes, find, is_some}
use Rattle.std.specs.Prelude.{option_and_then, unwrap_or, if◌then◌else◌}
use Rattle.std.specs.List.{position}
use Rattle.std.specs.Option.{option_map, option_or}
use Rattle.toml.specs.Data.{Members}
use Rattle.hours_core.specs.declared.level.Level.{Level}
use Rattle.lifecycle_core.specs.declared.parts.Parts as lifecycles
use Rattle.text_core.specs.Form.{is_name}
use Rattle.rights_core.specs.People.{is_among, knows}
use Rattle.rights_core.specs.RightsFaults.{has_grant_names, has_group, is_there, misname}
use Rattle.rights_core.specs.RightsFaults.{repeats_name, stranger}
use Rattle.rights_core.specs.declared.fault.RightsFault.{RightsFault}
use Rattle.rights_core.specs.declared.fault.RightsFault.TheVariants as rights
use Rattle.rights_core.specs.declared.grant.Grant.{Grant}
use Rattle.rights_core.specs.declared.parts.Parts.{Parts}
use Rattle.settings_form.specs.Places.{KeyAt, fault_key, seen_key}
use Rattle.settings_form.specs.declared.fault.FormFault.{FormFault}
use Rattle.settings_form.specs.declared.fault.FormFault.TheVariants as form
use Rattle.settings_parts.specs.PeopleParts.{people_in, tokens_of}
use Rattle.settings_parts.specs.Values.{text_at}
use Rattle.settings_parts.specs.declared.people.Token.{Token}
use Rattle.settings_core.specs.Levels.{levels_of}
use Rattle.settings_core.specs.Lifecycles.{lifecycles_of}
use Rattle.settings_core.specs.Names.{knows_calendar, knows_right, knows_status}
use Rattle.settings_core.specs.Reading.{build_fault}
use Rattle.settings_core.specs.Tokens.{is_token}
use Rattle.settings_core.specs.declared.fault.SettingsFault.{SettingsFault}
use Rattle.settings_core.specs.declared.fault.SettingsFault.TheVariants.{NotToml, UnknownKey}
use Rattle.settings_core.specs.declared.fault.SettingsFault.TheVariants.{Missing, WrongKind, Hours}
use Rattle.settings_core.specs.declared.fault.SettingsFault.TheVariants.{Lifecycle, Rights}
use Rattle.settings_core.specs.declared.fault.SettingsFault.TheVariants.{UnknownName, BadToken}
use Rattle.settings_core.specs.declared.fault.SettingsFault.TheVariants.{BadLimit, NoMemory}
use Rattle.settings_core.specs.declared.named.Named.{Named}
use Rattle.settings_places.specs.Grants.{grant_at}
use Rattle.settings_core.specs.Limits.{bad_count, bad_limit}
use Rattle.settings_places.specs.Parts.{bad_calendar, bad_lifecycle}
use Rattle.settings_places.specs.declared.place.FaultPlace.{FaultPlace as PlaceInCode}
use Rattle.settings_places.specs.declared.place.FaultPlace.TheVariants as code

-- what has a fault: a table by a key; a part by its name; a person or a group by its own name, or
-- two of them by the one that they share; a group by a member; a grant by whom it is for, by a right
-- or a queue; a level by a calendar, a status or a limit; a token by its person or by its own form
pub data FaultPlace : Type 0 where
  key : KeyAt → FaultPlace
  calendar : List ℕ → FaultPlace
  lifecycle : List ℕ → FaultPlace
  person_named : List ℕ → FaultPlace
  group_named : List ℕ → FaultPlace
  granted : ℕ → List ℕ → FaultPlace
  group_member : List ℕ → List ℕ → FaultPlace
  subject : ℕ → List ℕ → FaultPlace
  person_twice : List ℕ → FaultPlace
  person_and_group : List ℕ → FaultPlace
  people : FaultPlace
  right : ℕ → List ℕ → FaultPlace
  calendar_of : List ℕ → List ℕ → FaultPlace
  status_of : List ℕ → List ℕ → FaultPlace
  person_of : List ℕ → List ℕ → FaultPlace
  token : List ℕ → List ℕ → FaultPlace
  limit : List ℕ → List ℕ → FaultPlace
  count : List ℕ → FaultPlace

-- the first table that has a fault of form, and the key by which it does
abbrev pub key_place : FormFault → Members → Option FaultPlace
key_place f ms = option_map key (fault_key f ms)

-- ---- persons, groups and grants

abbrev pub granted_place : Members → Parts → Option FaultPlace
granted_place ms parts =
    option_and_then
    (λ i. option_and_then
    (λ at. option_map (granted at.0) (misname at.2)) (grant_at ms parts.grants i))
    (position (λ g. not (has_grant_names g)) parts.grants)

-- a person, a group, or a right or the queue of a grant
abbrev pub misnamed_place : Members → Parts → Option FaultPlace
misnamed_place ms parts =
    option_or (option_map person_named (find (λ name. not (is_name name)) parts.persons))
    (option_or
    (option_map (λ g. group_named g.name) (find (λ g. not (is_name g.name)) parts.groups))
    (granted_place ms parts))

-- the first of the names that is one of those before it
abbrev pub first_again : List (List ℕ) → List (List ℕ) → Option (List ℕ)
first_again earlier [] = None
first_again earlier (name ∷ names) =
    if is_among earlier name then Some name else first_again (name ∷ earlier) names

-- two persons, or else a person and a group; or two groups, which a table can't have
abbrev pub repeated_place : Parts → Option FaultPlace
repeated_place parts =
    option_or (option_map person_twice (first_again [] parts.persons))
    (option_or (option_map person_and_group (find (has_group parts.groups) parts.persons))
    (Some people))

-- a group by its first member that is no one, where no name stands twice
abbrev pub member_place : Parts → Option FaultPlace
member_place parts =
    if repeats_name parts.persons parts.groups then None
    else option_and_then
    (λ g. option_map (group_member g.name) (stranger parts.persons parts.groups g.members))
    (find (λ g. is_some (stranger parts.persons parts.groups g.members)) parts.groups)

-- a grant by the text that says for whom it is, where no name stands twice
abbrev pub subject_place : Members → Parts → Option FaultPlace
subject_place ms parts =
    if repeats_name parts.persons parts.groups then None
    else option_and_then
    (λ i. option_map
    (λ at. subject at.0 (unwrap_or (text_at (codes "to") at.1) [])) (grant_at ms parts.grants i))
    (position (λ g. not (is_there parts.persons parts.groups g.subject)) parts.grants)

abbrev pub people_place : Members → RightsFault → Option FaultPlace
people_place ms rights.BadName = misnamed_place ms (people_in ms)
people_place ms rights.UnknownMember = member_place (people_in ms)
people_place ms rights.UnknownSubject = subject_place ms (people_in ms)
people_place ms rights.Repeated = repeated_place (people_in ms)
people_place ms rights.NoMemory = Some people

-- ---- names

abbrev pub right_place : Members → List (Named lifecycles.Parts) → List Grant → Option FaultPlace
right_place ms ls grants =
    option_and_then
    (λ i. option_map (λ at. right at.0 at.2.right) (grant_at ms grants i))
    (position (λ g. not (knows_right ls g.right)) grants)

abbrev pub calendar_place : Members → List (Named Level) → Option FaultPlace
calendar_place ms levels =
    option_map
    (λ l. calendar_of l.name l.value.calendar)
    (find (λ l. not (knows_calendar ms l.value.calendar)) levels)

abbrev pub status_place : List (Named lifecycles.Parts) → List (Named Level) → Option FaultPlace
status_place ls levels =
    option_and_then
    (λ l. option_map (status_of l.name) (find (λ s. not (knows_status ls s)) l.value.ignore))
    (find (λ l. is_some (find (λ s. not (knows_status ls s)) l.value.ignore)) levels)

abbrev pub person_place : Parts → List Token → Option FaultPlace
person_place parts tokens =
    option_map
    (λ t. person_of t.token t.person)
    (find (λ t. not (knows parts t.person)) tokens)

-- a granted right, a level's calendar, a status that one ignores, a token's person
abbrev pub unknown_name : Members → List (Named lifecycles.Parts) → Parts → List (Named Level)
    → List Token → Option FaultPlace
unknown_name ms ls parts levels tokens =
    option_or (right_place ms ls parts.grants)
    (option_or (calendar_place ms levels)
    (option_or (status_place ls levels) (person_place parts tokens)))

abbrev pub named_place : Members → Option FaultPlace
named_place ms =
    unknown_name ms (lifecycles_of ms) (people_in ms) (levels_of ms) (tokens_of ms)

-- which names there are isn't known where a calendar, a lifecycle or the people have a fault
abbrev pub name_place : Members → Option FaultPlace
name_place ms = if is_some (build_fault ms) then None else named_place ms

-- ---- tokens and limits

abbrev pub token_place : Members → Option FaultPlace
token_place ms =
    option_map (λ t. token t.token t.person) (find (λ t. not (is_token t.token)) (tokens_of ms))

-- a limit of a level, or else a count
abbrev pub limit_place : Members → Option FaultPlace
limit_place ms =
    option_or (option_map (λ found. limit found.0 found.1) (bad_limit ms))
    (option_map count (bad_count ms))

-- what has the fault first
abbrev pub place_of_fault : Members → SettingsFault → Option FaultPlace
place_of_fault ms NotToml = None
place_of_fault ms UnknownKey = key_place form.UnknownKey ms
place_of_fault ms Missing = key_place form.Missing ms
place_of_fault ms WrongKind = key_place form.WrongKind ms
place_of_fault ms (Hours fault) = option_map calendar (bad_calendar ms)
place_of_fault ms (Lifecycle fault) = option_map lifecycle (bad_lifecycle ms)
place_of_fault ms (Rights fault) = people_place ms fault
place_of_fault ms UnknownName = name_place ms
place_of_fault ms BadToken = token_place ms
place_of_fault ms BadLimit = limit_place ms
place_of_fault ms NoMemory = None

-- ---- as the code holds it

abbrev pub seen : PlaceInCode → FaultPlace
seen (code.Key found) = key (seen_key found)
seen (code.Calendar name) = calendar name.now
seen (code.Lifecycle name) = lifecycle name.now
seen (code.Person name) = person_named name
seen (code.Group name) = group_named name
seen (code.Granted n name) = granted n name
seen (code.Member group name) = group_member group name
seen (code.Subject n to) = subject n to
seen (code.PersonTwice name) = person_twice name
seen (code.PersonAndGroup name) = person_and_group name
seen code.People = people
seen (code.Right n name) = right n name
seen (code.CalendarOf of name) = calendar_of of name
seen (code.StatusOf of name) = status_of of name
seen (code.PersonOf of name) = person_of of name
seen (code.Token of name) = token of name
seen (code.Limit of name) = limit of.now name.now
seen (code.Count name) = count name.now
