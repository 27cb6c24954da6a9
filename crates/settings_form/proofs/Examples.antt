-- Examples of the definitions: keys and what stands at them; whom a grant is for; days, intervals
-- and moves as texts, at their limits; each fault of form, in tables inside too, and which comes
-- first; the key by which a table has a fault, and how that table is reached.
use Rattle.std.specs.Prelude.{◌≡◌, refl, true, false, pos, List, [], ◌∷◌, codes, Some, None}
use Rattle.std.proofs.Common.{Bor}
use Rattle.toml.specs.Data.{Data, string, integer, boolean, array, table, no_items, item}
use Rattle.toml.specs.Data.{Members, no_members, member}
use Rattle.rights_core.specs.declared.grant.Subject.TheVariants as subject
use Rattle.rights_core.specs.declared.role.Role.TheVariants.{Owner, AdminCc}
use Rattle.settings_form.specs.Form.{field_of, free, keys, keys_of, kind_of, listed, may, must}
use Rattle.settings_form.specs.Form.{one_of}
use Rattle.settings_form.specs.Grantee.{subject_in, subject_of}
use Rattle.settings_form.specs.Keys.{key_of}
use Rattle.settings_form.specs.Kinds.{has_clash, has_unknown_key, has_wrong_kind, lacks_key, two_of}
use Rattle.settings_form.specs.Places.{at, fault_key, path_to, seen_key}
use Rattle.settings_form.specs.TextForms.{after_space, before_space, day_of, has_form, interval_of}
use Rattle.settings_form.specs.Walk.{form_fault, has_fault}
use Rattle.settings_form.specs.declared.fault.FormFault.TheVariants.{UnknownKey, Missing, WrongKind}
use Rattle.settings_form.specs.declared.form.Keys.TheVariants.{Free, OneOf}
use Rattle.settings_form.specs.declared.form.Row.{Row}
use Rattle.settings_form.specs.declared.grantee.Grantee.TheVariants as grantee
use Rattle.settings_form.specs.declared.walk.KeyAt.{KeyAt}
use Rattle.settings_form.specs.declared.form.Item.TheVariants.{Integer, Pair, Table, Text}
use Rattle.settings_form.specs.declared.form.Kind.TheVariants.{One, Many}
use Rattle.settings_form.specs.declared.form.Place.TheVariants.{Top, Groups, Grant, Tokens}
use Rattle.settings_form.specs.declared.form.Place.TheVariants.{Lifecycles, Lifecycle, Calendars}
use Rattle.settings_form.specs.declared.form.Place.TheVariants.{RightNames, Calendar, Level, Limit}
use Rattle.settings_form.specs.declared.form.TextForm.TheVariants.{Any, Name, To, RightKey}
use Rattle.settings_form.specs.declared.form.TextForm.TheVariants.{Day, Interval}

-- Form.antt

persons_are_texts : kind_of Top (codes "persons") ≡ Some (Many (Text Any))
persons_are_texts = refl

entries_are_a_number : kind_of Top (codes "max_entries") ≡ Some (One Integer)
entries_are_a_number = refl

grants_are_tables : kind_of Top (codes "grant") ≡ Some (Many (Table Grant))
grants_are_tables = refl

no_key_of_a_text : kind_of Top (codes "colour") ≡ None
no_key_of_a_text = refl

key_in_large_letters : kind_of Top (codes "Persons") ≡ None
key_in_large_letters = refl

any_key_of_a_group : kind_of Groups (codes "colour") ≡ Some (Many (Text Any))
any_key_of_a_group = refl

last_day_of_a_week : kind_of Calendar (codes "sat") ≡ Some (Many (Text Interval))
last_day_of_a_week = refl

changes_are_pairs : kind_of Calendar (codes "changes") ≡ Some (Many Pair)
changes_are_pairs = refl

no_key_of_a_limit : kind_of Limit (codes "minutes") ≡ None
no_key_of_a_limit = refl

-- Grantee.antt

to_everyone : subject_in (codes "everyone") ≡ Some subject.Everyone
to_everyone = refl

to_everyone_in_large_letters : subject_in (codes "Everyone") ≡ None
to_everyone_in_large_letters = refl

to_a_person : subject_in (codes "person:ann") ≡ Some (subject.Person (codes "ann"))
to_a_person = refl

-- whether such a person is there is asked later
to_a_person_without_a_name : subject_in (codes "person:") ≡ Some (subject.Person [])
to_a_person_without_a_name = refl

to_a_group : subject_in (codes "group:staff") ≡ Some (subject.Group (codes "staff"))
to_a_group = refl

-- the first word decides
to_a_person_named_as_a_group :
    subject_in (codes "person:group:a") ≡ Some (subject.Person (codes "group:a"))
to_a_person_named_as_a_group = refl

to_the_owner : subject_in (codes "role:owner") ≡ Some (subject.Role Owner)
to_the_owner = refl

to_admin_cc : subject_in (codes "role:admincc") ≡ Some (subject.Role AdminCc)
to_admin_cc = refl

to_no_role : subject_in (codes "role:boss") ≡ None
to_no_role = refl

to_a_bare_name : subject_in (codes "ann") ≡ None
to_a_bare_name = refl

-- TextForms.antt: moves

move_of_two_statuses : has_form RightKey (codes "new -> open") ≡ true
move_of_two_statuses = refl

move_of_any_statuses : has_form RightKey (codes "* -> *") ≡ true
move_of_any_statuses = refl

move_without_spaces : has_form RightKey (codes "new->open") ≡ false
move_without_spaces = refl

move_with_two_spaces : has_form RightKey (codes "new  -> open") ≡ false
move_with_two_spaces = refl

move_with_two_spaces_after : has_form RightKey (codes "new ->  open") ≡ false
move_with_two_spaces_after = refl

move_from_nothing : has_form RightKey (codes " -> open") ≡ false
move_from_nothing = refl

move_to_nothing : has_form RightKey (codes "new -> ") ≡ false
move_to_nothing = refl

move_with_a_space_at_its_end : has_form RightKey (codes "new -> open ") ≡ false
move_with_a_space_at_its_end = refl

first_of_three_words : before_space (codes "a b c") ≡ codes "a"
first_of_three_words = refl

rest_of_three_words : after_space (codes "a b c") ≡ codes "b c"
rest_of_three_words = refl

first_of_one_word : before_space (codes "abc") ≡ codes "abc"
first_of_one_word = refl

rest_of_one_word : after_space (codes "abc") ≡ []
rest_of_one_word = refl

-- TextForms.antt: days

first_day : has_form Day (codes "2000-01-01") ≡ true
first_day = refl

day_before_the_first : has_form Day (codes "1999-12-31") ≡ false
day_before_the_first = refl

last_day : has_form Day (codes "2099-12-31") ≡ true
last_day = refl

day_after_the_last : has_form Day (codes "2100-01-01") ≡ false
day_after_the_last = refl

leap_day : has_form Day (codes "2028-02-29") ≡ true
leap_day = refl

no_leap_day : has_form Day (codes "2026-02-29") ≡ false
no_leap_day = refl

day_of_one_digit : has_form Day (codes "2026-03-9") ≡ false
day_of_one_digit = refl

day_with_points : has_form Day (codes "2026.03.09") ≡ false
day_with_points = refl

day_with_a_time : has_form Day (codes "2026-03-09 ") ≡ false
day_with_a_time = refl

no_day_has_number_0 : day_of (codes "2026-02-29") ≡ 0
no_day_has_number_0 = refl

-- TextForms.antt: intervals

interval_of_a_working_day : has_form Interval (codes "09:00-18:00") ≡ true
interval_of_a_working_day = refl

interval_up_to_midnight : has_form Interval (codes "00:00-24:00") ≡ true
interval_up_to_midnight = refl

interval_past_midnight : has_form Interval (codes "00:00-24:01") ≡ false
interval_past_midnight = refl

interval_to_the_last_minute : has_form Interval (codes "23:59-24:00") ≡ true
interval_to_the_last_minute = refl

interval_of_sixty_minutes : has_form Interval (codes "09:60-18:00") ≡ false
interval_of_sixty_minutes = refl

interval_from_one_digit : has_form Interval (codes "9:00-18:00") ≡ false
interval_from_one_digit = refl

-- that it ends after it begins is asked by the calendar
interval_turned_round : has_form Interval (codes "18:00-09:00") ≡ true
interval_turned_round = refl

minutes_of_a_working_day : interval_of (codes "09:05-18:30") ≡ (545, 1110)
minutes_of_a_working_day = refl

minutes_up_to_midnight : interval_of (codes "00:00-24:00") ≡ (0, 1440)
minutes_up_to_midnight = refl

-- TextForms.antt: names, and any text

name_of_a_lifecycle : has_form Name (codes "default") ≡ true
name_of_a_lifecycle = refl

name_with_a_space : has_form Name (codes "my hours") ≡ false
name_with_a_space = refl

any_text : has_form Any [] ≡ true
any_text = refl

to_nobody : has_form To (codes "nobody") ≡ false
to_nobody = refl

-- Kinds.antt

abbrev one : Data
one = integer (pos 1)

abbrev text : Data
text = string (codes "a")

two_integers : two_of (item one (item text no_items)) ≡ Some (one, text)
two_integers = refl

list_of_one : two_of (item one no_items) ≡ None
list_of_one = refl

list_of_three : two_of (item one (item one (item one no_items))) ≡ None
list_of_three = refl

grant_with_a_colour : has_unknown_key Grant (member (codes "colour") one no_members) ≡ true
grant_with_a_colour = refl

group_with_a_colour : has_unknown_key Groups (member (codes "colour") one no_members) ≡ false
group_with_a_colour = refl

-- `rights` is there, but not `to`
grant_to_nobody : lacks_key Grant (member (codes "rights") (array no_items) no_members) ≡ true
grant_to_nobody = refl

grant_without_a_queue :
    lacks_key Grant
    (member (codes "rights") (array no_items)
    (member (codes "to") (string (codes "everyone")) no_members))
    ≡ false
grant_without_a_queue = refl

limit_without_a_unit : lacks_key Limit no_members ≡ true
limit_without_a_unit = refl

limit_with_one_unit : lacks_key Limit (member (codes "real_minutes") one no_members) ≡ false
limit_with_one_unit = refl

-- that there are both is found later
limit_with_both_units :
    lacks_key Limit
    (member (codes "business_minutes") one (member (codes "real_minutes") one no_members))
    ≡ false
limit_with_both_units = refl

level_without_a_calendar : lacks_key Level no_members ≡ true
level_without_a_calendar = refl

calendar_needs_no_key : lacks_key Calendar no_members ≡ false
calendar_needs_no_key = refl

offset_as_a_text : has_wrong_kind Calendar (member (codes "offset") text no_members) ≡ true
offset_as_a_text = refl

start_as_a_choice :
    has_wrong_kind Level (member (codes "start_immediately") (boolean false) no_members) ≡ false
start_as_a_choice = refl

start_as_a_number : has_wrong_kind Level (member (codes "start_immediately") one no_members) ≡ true
start_as_a_number = refl

lifecycle_with_a_bad_name :
    has_wrong_kind Lifecycles (member (codes "My") (table no_members) no_members) ≡ true
lifecycle_with_a_bad_name = refl

right_of_a_bad_move : has_wrong_kind RightNames (member (codes "new") text no_members) ≡ true
right_of_a_bad_move = refl

rule_beside_an_offset :
    has_clash Calendar (member (codes "offset") one (member (codes "rule") text no_members)) ≡ true
rule_beside_an_offset = refl

rule_beside_changes :
    has_clash Calendar
    (member (codes "changes") (array no_items) (member (codes "rule") text no_members))
    ≡ true
rule_beside_changes = refl

rule_alone : has_clash Calendar (member (codes "rule") text no_members) ≡ false
rule_alone = refl

offset_beside_changes :
    has_clash Calendar
    (member (codes "changes") (array no_items) (member (codes "offset") one no_members))
    ≡ false
offset_beside_changes = refl

-- Walk.antt

empty_text_has_no_fault : form_fault no_members ≡ None
empty_text_has_no_fault = refl

-- persons = 1
-- colour = 1
unknown_key_before_wrong_kind :
    form_fault (member (codes "colour") one (member (codes "persons") one no_members))
    ≡ Some UnknownKey
unknown_key_before_wrong_kind = refl

-- persons = 1
persons_as_a_number : form_fault (member (codes "persons") one no_members) ≡ Some WrongKind
persons_as_a_number = refl

-- max_entries = 0
-- [level.l]
level_without_a_key :
    form_fault
    (member (codes "level") (table (member (codes "l") (table no_members) no_members))
    (member (codes "max_entries") (integer (pos 0)) no_members))
    ≡ Some Missing
level_without_a_key = refl

-- max_entries = 10001
limits_are_no_form :
    form_fault (member (codes "max_entries") (integer (pos 10001)) no_members) ≡ None
limits_are_no_form = refl

-- [calendar.x]
-- years = [2026]
calendar_of_one_year :
    form_fault
    (member (codes "calendar")
    (table
    (member (codes "x")
    (table (member (codes "years") (array (item (integer (pos 2026)) no_items)) no_members))
    no_members))
    no_members)
    ≡ Some WrongKind
calendar_of_one_year = refl

abbrev everyone : Members
everyone =
    member (codes "rights") (array no_items)
    (member (codes "to") (string (codes "everyone")) no_members)

two_grants :
    form_fault
    (member (codes "grant") (array (item (table everyone) (item (table everyone) no_items)))
    no_members)
    ≡ None
two_grants = refl

second_grant_lacks_a_key :
    form_fault
    (member (codes "grant") (array (item (table everyone) (item (table no_members) no_items)))
    no_members)
    ≡ Some Missing
second_grant_lacks_a_key = refl

-- [level.l]
-- response = { minutes = 1 }
-- where `calendar` is missing, and the unit
unknown_key_inside_before_missing :
    form_fault
    (member (codes "level")
    (table
    (member (codes "l")
    (table
    (member (codes "response") (table (member (codes "minutes") one no_members)) no_members))
    no_members))
    no_members)
    ≡ Some UnknownKey
unknown_key_inside_before_missing = refl

-- a table where none belongs isn't looked into
table_in_place_of_a_number :
    form_fault
    (member (codes "max_entries") (table (member (codes "colour") one no_members)) no_members)
    ≡ Some WrongKind
table_in_place_of_a_number = refl

-- Keys.antt: the keys of a table stand in the order of their bytes

first_of_two_unknown_keys :
    key_of UnknownKey Top
    (member (codes "colour") one
    (member (codes "max_entries") one (member (codes "size") one no_members)))
    ≡ Some (codes "colour")
first_of_two_unknown_keys = refl

known_keys_alone : key_of UnknownKey Top (member (codes "max_entries") text no_members) ≡ None
known_keys_alone = refl

-- any word may be a token
no_token_is_unknown : key_of UnknownKey Tokens (member (codes "colour") one no_members) ≡ None
no_token_is_unknown = refl

grant_lacks_the_key_that_is_named_first : key_of Missing Grant no_members ≡ Some (codes "to")
grant_lacks_the_key_that_is_named_first = refl

grant_lacks_its_rights :
    key_of Missing Grant (member (codes "to") text no_members) ≡ Some (codes "rights")
grant_lacks_its_rights = refl

-- a value of another kind isn't missing
grant_lacks_nothing :
    key_of Missing Grant (member (codes "rights") one (member (codes "to") one no_members)) ≡ None
grant_lacks_nothing = refl

lifecycle_lacks_on_create :
    key_of Missing Lifecycle
    (member (codes "active") one
    (member (codes "create") one (member (codes "initial") one no_members)))
    ≡ Some (codes "on_create")
lifecycle_lacks_on_create = refl

limit_lacks_the_first_unit : key_of Missing Limit no_members ≡ Some (codes "real_minutes")
limit_lacks_the_first_unit = refl

limit_with_the_second_unit :
    key_of Missing Limit (member (codes "business_minutes") text no_members) ≡ None
limit_with_the_second_unit = refl

-- a key that isn't one of its units is none
limit_with_another_key :
    key_of Missing Limit (member (codes "minutes") one no_members)
    ≡ Some (codes "real_minutes")
limit_with_another_key = refl

first_of_two_wrong_kinds :
    key_of WrongKind Top
    (member (codes "max_entries") one
    (member (codes "max_requests") text (member (codes "persons") text no_members)))
    ≡ Some (codes "max_requests")
first_of_two_wrong_kinds = refl

second_person_is_a_number :
    key_of WrongKind Top
    (member (codes "persons") (array (item text (item one no_items))) no_members)
    ≡ Some (codes "persons")
second_person_is_a_number = refl

-- whose value is of the right kind
name_that_is_none :
    key_of WrongKind Calendars (member (codes "My") (table no_members) no_members)
    ≡ Some (codes "My")
name_that_is_none = refl

-- an unknown key is another fault
unknown_key_is_of_no_wrong_kind :
    key_of WrongKind Grant (member (codes "colour") one no_members) ≡ None
unknown_key_is_of_no_wrong_kind = refl

rule_is_the_key_that_clashes :
    key_of WrongKind Calendar
    (member (codes "offset") one (member (codes "rule") text no_members))
    ≡ Some (codes "rule")
rule_is_the_key_that_clashes = refl

-- which is looked for behind all wrong kinds
week_of_a_clashing_calendar :
    key_of WrongKind Calendar
    (member (codes "offset") one
    (member (codes "rule") text (member (codes "wed") one no_members)))
    ≡ Some (codes "wed")
week_of_a_clashing_calendar = refl

-- Places.antt

no_key_of_an_empty_text : fault_key Missing no_members ≡ None
no_key_of_an_empty_text = refl

-- the first table of the list has an unknown key, but so has the text itself
own_key_before_those_inside :
    fault_key UnknownKey
    (member (codes "grant")
    (array (item (table (member (codes "colour") one no_members)) no_items))
    (member (codes "size") one no_members))
    ≡ Some (at Top (path_to [] [] 0) (codes "size"))
own_key_before_those_inside = refl

key_of_the_second_grant :
    fault_key Missing
    (member (codes "grant") (array (item (table everyone) (item (table no_members) no_items)))
    no_members)
    ≡ Some (at Grant (path_to [] (codes "grant") 2) (codes "to"))
key_of_the_second_grant = refl

-- [level.l]
-- response = { minutes = 1 }
abbrev one_level : Members
one_level =
    member (codes "level")
    (table
    (member (codes "l")
    (table
    (member (codes "response") (table (member (codes "minutes") one no_members)) no_members))
    no_members))
    no_members

key_of_a_limit :
    fault_key UnknownKey one_level
    ≡ Some (at Limit (path_to (codes "l") (codes "response") 0) (codes "minutes"))
key_of_a_limit = refl

-- before the unit that its limit lacks
key_of_a_level :
    fault_key Missing one_level
    ≡ Some (at Level (path_to (codes "level") (codes "l") 0) (codes "calendar"))
key_of_a_level = refl

no_wrong_kind_of_a_level : fault_key WrongKind one_level ≡ None
no_wrong_kind_of_a_level = refl

-- [calendar.a]
-- years = 1
-- [calendar.b]
-- offset = "a"
two_calendars :
    fault_key WrongKind
    (member (codes "calendar")
    (table
    (member (codes "a") (table (member (codes "years") one no_members))
    (member (codes "b") (table (member (codes "offset") text no_members)) no_members)))
    no_members)
    ≡ Some (at Calendar (path_to (codes "calendar") (codes "a") 0) (codes "years"))
two_calendars = refl

-- a table where none belongs isn't looked into, nor is a list of tables
no_key_of_a_table_in_place_of_a_number :
    fault_key UnknownKey
    (member (codes "max_entries") (table (member (codes "colour") one no_members))
    (member (codes "persons")
    (array (item (table (member (codes "colour") one no_members)) no_items)) no_members))
    ≡ None
no_key_of_a_table_in_place_of_a_number = refl

-- Form.antt: the keys of a table

grants_have_three_keys :
    keys Grant
    ≡ listed
    (must (codes "to") (One (Text To)) ∷ must (codes "rights") (Many (Text Any))
    ∷ may (codes "queue") (One (Text Any)) ∷ [])
grants_have_three_keys = refl

limit_is_in_one_unit :
    keys Limit
    ≡ one_of (may (codes "real_minutes") (One Integer) ∷ may (codes "business_minutes") (One Integer) ∷ [])
limit_is_in_one_unit = refl

lifecycles_are_named : keys Lifecycles ≡ free Name (One (Table Lifecycle))
lifecycles_are_named = refl

moves_as_the_code_holds_them : keys_of (Free RightKey (One (Text Any))) ≡ keys RightNames
moves_as_the_code_holds_them = refl

rows_as_the_code_holds_them :
    (rows : Bor (List Row)) (a b : Row) → rows.now ≡ a ∷ b ∷ []
    → keys_of (OneOf rows) ≡ one_of (field_of a ∷ field_of b ∷ [])
rows_as_the_code_holds_them rows a b are = rw are refl

row_as_the_code_holds_it :
    (row : Row) → row.key.now ≡ codes "to" → row.is_required ≡ true → row.kind ≡ One (Text To)
    → field_of row ≡ must (codes "to") (One (Text To))
row_as_the_code_holds_it row key required kind = rw (key, required, kind) refl

-- Grantee.antt: as the code says it

everyone_as_the_code_says_it : subject_of grantee.Everyone ≡ subject.Everyone
everyone_as_the_code_says_it = refl

role_as_the_code_says_it : subject_of (grantee.Role AdminCc) ≡ subject.Role AdminCc
role_as_the_code_says_it = refl

-- Walk.antt: one fault

text_with_an_unknown_key : has_fault UnknownKey (member (codes "colour") one no_members) ≡ true
text_with_an_unknown_key = refl

unknown_key_is_no_other_fault :
    has_fault Missing (member (codes "colour") one no_members) ≡ false
unknown_key_is_no_other_fault = refl

-- the second of two grants
grant_inside_lacks_a_key :
    has_fault Missing
    (member (codes "grant") (array (item (table everyone) (item (table no_members) no_items)))
    no_members)
    ≡ true
grant_inside_lacks_a_key = refl

-- [calendar.x]
-- offset = 1
-- rule = "a"
calendar_inside_clashes :
    has_fault WrongKind
    (member (codes "calendar")
    (table
    (member (codes "x")
    (table (member (codes "offset") one (member (codes "rule") text no_members)))
    no_members))
    no_members)
    ≡ true
calendar_inside_clashes = refl

-- a list where one table belongs isn't looked into, but is itself of the wrong kind
list_in_place_of_a_table :
    has_fault UnknownKey
    (member (codes "tokens")
    (array (item (table (member (codes "colour") one no_members)) no_items)) no_members)
    ≡ false
list_in_place_of_a_table = refl

list_in_place_of_a_table_is_wrong :
    has_fault WrongKind
    (member (codes "tokens")
    (array (item (table (member (codes "colour") one no_members)) no_items)) no_members)
    ≡ true
list_in_place_of_a_table_is_wrong = refl

-- Places.antt: as the code holds it

key_as_the_code_holds_it :
    (found : KeyAt) → found.place ≡ Grant → found.path.around.now ≡ []
    → found.path.key.now ≡ codes "grant" → found.path.number ≡ 2 → found.key.now ≡ codes "to"
    → seen_key found ≡ at Grant (path_to [] (codes "grant") 2) (codes "to")
key_as_the_code_holds_it found place around at_key number key =
    rw (place, around, at_key, number, key) refl

key_inside_as_the_code_holds_it :
    (found : KeyAt) → found.place ≡ Limit → found.path.around.now ≡ codes "fast"
    → found.path.key.now ≡ codes "response" → found.path.number ≡ 0
    → found.key.now ≡ codes "minutes"
    → seen_key found ≡ at Limit (path_to (codes "fast") (codes "response") 0) (codes "minutes")
key_inside_as_the_code_holds_it found place around at_key number key =
    rw (place, around, at_key, number, key) refl
