-- Examples of the definitions: what is read of the tables of a settings text, with each key there
-- and without it, and limits at their least and most and one past these.
use Rattle.std.specs.Prelude.{◌≡◌, refl, ℕ, true, false, pos, neg_ℤ, List, [], ◌∷◌, codes}
use Rattle.std.specs.Prelude.{Some, None, Ok, Err}
use Rattle.toml.specs.Data.{Data, string, integer, boolean, array, table, no_items, item}
use Rattle.toml.specs.Data.{Members, no_members, member}
use Rattle.hours_core.specs.declared.fault.HoursFault.TheVariants.{BadOffset, BadYears}
use Rattle.hours_core.specs.declared.level.Limit.TheVariants.{RealMinutes, BusinessMinutes}
use Rattle.lifecycle_core.specs.Standard.{move_to}
use Rattle.rights_core.specs.Right.{super_user}
use Rattle.rights_core.specs.declared.grant.Subject.TheVariants.{Everyone, Person}
use Rattle.settings_parts.specs.CalendarParts.{hours_of, hours_stated, week_of, years_of}
use Rattle.settings_parts.specs.LevelParts.{has_limits, is_from_one, level_of, limit_in, limit_of}
use Rattle.settings_parts.specs.LevelParts.{number_up_to}
use Rattle.settings_parts.specs.LifecycleParts.{lifecycle_of}
use Rattle.settings_parts.specs.PeopleParts.{people_in, tokens_of}
use Rattle.settings_parts.specs.Values.{boolean_at, integer_at, items_at, members_of, pair_at}
use Rattle.settings_parts.specs.Values.{pairs_at, table_at, text_at, texts_at, texts_of}
use Rattle.settings_parts.specs.Whole.{IsRight, restored}
use Rattle.settings_parts.specs.declared.calendar.CalendarParts.{CalendarParts}
use Rattle.settings_form.specs.declared.form.Item.TheVariants.{Boolean, Integer, Pair}
use Rattle.settings_form.specs.declared.form.Item.TheVariants.{Text}
use Rattle.settings_form.specs.declared.form.Kind.TheVariants.{Many, One}
use Rattle.settings_form.specs.declared.form.TextForm.TheVariants.{Any}

abbrev text : List ℕ → Data
text t = string t

abbrev texts_1 : List ℕ → Data
texts_1 a = array (item (string a) no_items)

abbrev texts_2 : List ℕ → List ℕ → Data
texts_2 a b = array (item (string a) (item (string b) no_items))

abbrev minutes : ℕ → Data
minutes n = integer (pos n)

-- LevelParts.antt: limits

one_real_minute : limit_in (Some (pos 1)) None ≡ Some (RealMinutes 1)
one_real_minute = refl

no_real_minute : limit_in (Some (pos 0)) None ≡ None
no_real_minute = refl

fewer_than_none : limit_in (Some (neg_ℤ (pos 1))) None ≡ None
fewer_than_none = refl

year_of_minutes : limit_in None (Some (pos 525600)) ≡ Some (BusinessMinutes 525600)
year_of_minutes = refl

more_than_a_year : limit_in None (Some (pos 525601)) ≡ None
more_than_a_year = refl

both_units : limit_in (Some (pos 1)) (Some (pos 1)) ≡ None
both_units = refl

neither_unit : limit_in None None ≡ None
neither_unit = refl

limit_of_real_minutes :
    limit_of (member (codes "real_minutes") (minutes 60) no_members) ≡ Some (RealMinutes 60)
limit_of_real_minutes = refl

limit_of_business_minutes :
    limit_of (member (codes "business_minutes") (minutes 60) no_members) ≡ Some (BusinessMinutes 60)
limit_of_business_minutes = refl

least_of_a_count : is_from_one 10000 (pos 1) ≡ true
least_of_a_count = refl

most_of_a_count : is_from_one 10000 (pos 10000) ≡ true
most_of_a_count = refl

past_the_most_of_a_count : is_from_one 10000 (pos 10001) ≡ false
past_the_most_of_a_count = refl

-- LevelParts.antt: levels

abbrev limit : ℕ → Data
limit n = table (member (codes "real_minutes") (minutes n) no_members)

-- calendar = "office"
level_of_a_calendar_alone :
    level_of (member (codes "calendar") (text (codes "office")) no_members)
    ≡ record {
      calendar = codes "office";
      start_immediately = false;
      response = None;
      keep_in_loop = None;
      resolve = None;
      ignore = [];
    }
level_of_a_calendar_alone = refl

level_with_all_keys :
    level_of
    (member (codes "calendar") (text (codes "office"))
    (member (codes "ignore") (texts_1 (codes "stalled"))
    (member (codes "keep_in_loop") (limit 2)
    (member (codes "resolve") (limit 3)
    (member (codes "response") (limit 1)
    (member (codes "start_immediately") (boolean true) no_members))))))
    ≡ record {
      calendar = codes "office";
      start_immediately = true;
      response = Some (RealMinutes 1);
      keep_in_loop = Some (RealMinutes 2);
      resolve = Some (RealMinutes 3);
      ignore = codes "stalled" ∷ [];
    }
level_with_all_keys = refl

level_without_limits : has_limits no_members ≡ true
level_without_limits = refl

level_whose_last_limit_is_none :
    has_limits (member (codes "resolve") (limit 0) (member (codes "response") (limit 1) no_members))
    ≡ false
level_whose_last_limit_is_none = refl

-- CalendarParts.antt

years_that_are_stated :
    years_of
    (member (codes "years") (array (item (minutes 2026) (item (minutes 2027) no_items))) no_members)
    ≡ (pos 2026, pos 2027)
years_that_are_stated = refl

years_by_default : years_of no_members ≡ (pos 2000, pos 2099)
years_by_default = refl

-- it begins with Sunday
week_of_a_monday :
    week_of (member (codes "mon") (texts_2 (codes "09:00-12:00") (codes "13:00-24:00")) no_members)
    ≡ [] ∷ ((540, 720) ∷ (780, 1440) ∷ []) ∷ [] ∷ [] ∷ [] ∷ [] ∷ [] ∷ []
week_of_a_monday = refl

week_of_a_saturday_and_a_sunday :
    week_of
    (member (codes "sat") (texts_1 (codes "00:00-00:01"))
    (member (codes "sun") (texts_1 (codes "00:00-00:02")) no_members))
    ≡ ((0, 2) ∷ []) ∷ [] ∷ [] ∷ [] ∷ [] ∷ [] ∷ ((0, 1) ∷ []) ∷ []
week_of_a_saturday_and_a_sunday = refl

calendar_without_keys :
    hours_of no_members
    ≡ record {
      zone = Ok (record { first = pos 0; changes = [] });
      week = [] ∷ [] ∷ [] ∷ [] ∷ [] ∷ [] ∷ [] ∷ [];
      holidays = [];
      years = (pos 2000, pos 2099);
    }
calendar_without_keys = refl

abbrev change : Data
change = array (item (minutes 29579100) (item (minutes 120) no_items))

zone_of_an_offset_and_a_change :
    (hours_of
    (member (codes "changes") (array (item change no_items))
    (member (codes "offset") (minutes 60) no_members))).zone
    ≡ Ok (record { first = pos 60; changes = (pos 29579100, pos 120) ∷ [] })
zone_of_an_offset_and_a_change = refl

zone_of_a_bad_offset :
    (hours_of (member (codes "offset") (minutes 1440) no_members)).zone ≡ Err BadOffset
zone_of_a_bad_offset = refl

-- the rule's fault is asked by the calendar's years
zone_of_a_rule :
    (hours_of
    (member (codes "rule") (text (codes "CET-1"))
    (member (codes "years") (array (item (minutes 2027) (item (minutes 2026) no_items)))
    no_members))).zone
    ≡ Err BadYears
zone_of_a_rule = refl

-- the parts as the code holds them: a table's hours come out again

abbrev no_hours : List (List (ℕ × ℕ))
no_hours = [] ∷ [] ∷ [] ∷ [] ∷ [] ∷ [] ∷ [] ∷ []

hours_of_parts_without_a_rule :
    (parts : CalendarParts) → parts.rule ≡ None → parts.offset ≡ pos 60
    → parts.changes.items ≡ (pos 29579100, pos 120) ∷ [] → parts.week ≡ no_hours
    → parts.holidays.items ≡ 20522 ∷ [] → parts.years ≡ (pos 2026, pos 2027)
    → hours_stated parts
    ≡ record {
      zone = Ok (record { first = pos 60; changes = (pos 29579100, pos 120) ∷ [] });
      week = no_hours;
      holidays = 20522 ∷ [];
      years = (pos 2026, pos 2027);
    }
hours_of_parts_without_a_rule parts rule offset changes week holidays years =
    rw (rule, offset, changes, week, holidays, years) refl

-- the rule's fault, whatever offset stands beside it
zone_of_parts_with_a_rule :
    (parts : CalendarParts) → parts.rule ≡ Some (codes "CET-1")
    → parts.years ≡ (pos 2027, pos 2026) → (hours_stated parts).zone ≡ Err BadYears
zone_of_parts_with_a_rule parts rule years = rw (rule, years) refl

zone_of_parts_with_a_bad_offset :
    (parts : CalendarParts) → parts.rule ≡ None → parts.offset ≡ pos 1440
    → (hours_stated parts).zone ≡ Err BadOffset
zone_of_parts_with_a_bad_offset parts rule offset = rw (rule, offset) refl

-- LifecycleParts.antt

lifecycle_with_all_keys :
    lifecycle_of
    (member (codes "active") (texts_1 (codes "open"))
    (member (codes "create") (texts_2 (codes "new") (codes "open"))
    (member (codes "inactive") (texts_1 (codes "done"))
    (member (codes "initial") (texts_1 (codes "new"))
    (member (codes "on_create") (text (codes "new"))
    (member (codes "rights")
    (table (member (codes "* -> done") (text (codes "Close")) no_members))
    (member (codes "transitions")
    (table
    (member (codes "new") (texts_2 (codes "open") (codes "done"))
    (member (codes "open") (texts_1 (codes "done")) no_members)))
    no_members)))))))
    ≡ record {
      initial = codes "new" ∷ [];
      active = codes "open" ∷ [];
      inactive = codes "done" ∷ [];
      on_create = codes "new";
      create = codes "new" ∷ codes "open" ∷ [];
      moves =
          move_to (codes "new") (codes "open") ∷ move_to (codes "new") (codes "done")
          ∷ move_to (codes "open") (codes "done") ∷ [];
      rights = record { from = codes "*"; to = codes "done"; right = codes "Close" } ∷ [];
    }
lifecycle_with_all_keys = refl

-- without `inactive`, `transitions` and `rights`
lifecycle_with_few_keys :
    lifecycle_of
    (member (codes "active") (texts_1 (codes "open"))
    (member (codes "create") (texts_1 (codes "new"))
    (member (codes "initial") (texts_1 (codes "new"))
    (member (codes "on_create") (text (codes "new")) no_members))))
    ≡ record {
      initial = codes "new" ∷ [];
      active = codes "open" ∷ [];
      inactive = [];
      on_create = codes "new";
      create = codes "new" ∷ [];
      moves = [];
      rights = [];
    }
lifecycle_with_few_keys = refl

-- PeopleParts.antt

root_alone_has_every_right :
    people_in no_members
    ≡ record {
      persons = codes "root" ∷ [];
      groups = [];
      grants =
          record { right = codes "SuperUser"; subject = Person (codes "root"); queue = None } ∷ [];
    }
unfolding super_user
root_alone_has_every_right = refl

-- a key of people, though it has none
no_root_beside_persons :
    people_in (member (codes "persons") (array no_items) no_members)
    ≡ record { persons = []; groups = []; grants = [] }
no_root_beside_persons = refl

no_root_beside_groups :
    people_in (member (codes "groups") (table no_members) no_members)
    ≡ record { persons = []; groups = []; grants = [] }
no_root_beside_groups = refl

no_root_beside_grants :
    people_in (member (codes "grant") (array no_items) no_members)
    ≡ record { persons = []; groups = []; grants = [] }
no_root_beside_grants = refl

abbrev a_grant : Members
a_grant =
    member (codes "queue") (text (codes "general"))
    (member (codes "rights") (texts_2 (codes "Watch") (codes "OwnTicket"))
    (member (codes "to") (text (codes "everyone")) no_members))

-- one grant for each right
people_of_all_keys :
    people_in
    (member (codes "grant") (array (item (table a_grant) no_items))
    (member (codes "groups") (table (member (codes "staff") (texts_1 (codes "ann")) no_members))
    (member (codes "persons") (texts_2 (codes "ann") (codes "bob")) no_members)))
    ≡ record {
      persons = codes "ann" ∷ codes "bob" ∷ [];
      groups = record { name = codes "staff"; members = codes "ann" ∷ [] } ∷ [];
      grants =
          record { right = codes "Watch"; subject = Everyone; queue = Some (codes "general") }
          ∷ record { right = codes "OwnTicket"; subject = Everyone; queue = Some (codes "general") }
          ∷ [];
    }
people_of_all_keys = refl

no_tokens : tokens_of no_members ≡ []
no_tokens = refl

token_of_a_person :
    tokens_of
    (member (codes "tokens")
    (table (member (codes "ann-token-0000000") (text (codes "ann")) no_members))
    no_members)
    ≡ record { token = codes "ann-token-0000000"; person = codes "ann" } ∷ []
token_of_a_person = refl

-- LevelParts.antt: numbers

number_below_the_least : number_up_to 10000 (pos 0) ≡ 0
number_below_the_least = refl

least_number : number_up_to 10000 (pos 1) ≡ 1
least_number = refl

most_of_a_number : number_up_to 10000 (pos 10000) ≡ 10000
most_of_a_number = refl

number_past_the_most : number_up_to 10000 (pos 10001) ≡ 0
number_past_the_most = refl

number_below_zero : number_up_to 10000 (neg_ℤ (pos 5)) ≡ 0
number_below_zero = refl

-- Values.antt

abbrev pair : ℕ → ℕ → Data
pair a b = array (item (minutes a) (item (minutes b) no_items))

-- by the order of their keys
abbrev values : Members
values =
    member (codes "choice") (boolean true)
    (member (codes "list") (texts_2 (codes "a") (codes "b"))
    (member (codes "number") (integer (neg_ℤ (pos 5)))
    (member (codes "pair") (pair 2026 2027)
    (member (codes "pairs") (array (item (pair 1 2) (item (pair 3 4) no_items)))
    (member (codes "table") (table (member (codes "a") (text (codes "b")) no_members))
    (member (codes "text") (text (codes "t")) no_members))))))

text_at_its_key : text_at (codes "text") values ≡ Some (codes "t")
text_at_its_key = refl

text_at_another_kind : text_at (codes "number") values ≡ None
text_at_another_kind = refl

text_at_no_key : text_at (codes "tex") values ≡ None
text_at_no_key = refl

integer_at_its_key : integer_at (codes "number") values ≡ Some (neg_ℤ (pos 5))
integer_at_its_key = refl

integer_at_a_text : integer_at (codes "text") values ≡ None
integer_at_a_text = refl

choice_at_its_key : boolean_at (codes "choice") values ≡ Some true
choice_at_its_key = refl

choice_at_a_number : boolean_at (codes "number") values ≡ None
choice_at_a_number = refl

texts_at_their_key : texts_at (codes "list") values ≡ codes "a" ∷ codes "b" ∷ []
texts_at_their_key = refl

texts_at_no_key : texts_at (codes "lists") values ≡ []
texts_at_no_key = refl

one_text_is_no_list : texts_of (text (codes "t")) ≡ []
one_text_is_no_list = refl

pair_at_its_key : pair_at (codes "pair") values ≡ Some (pos 2026, pos 2027)
pair_at_its_key = refl

list_of_two_pairs_is_no_pair : pair_at (codes "pairs") values ≡ None
list_of_two_pairs_is_no_pair = refl

pairs_at_their_key : pairs_at (codes "pairs") values ≡ (pos 1, pos 2) ∷ (pos 3, pos 4) ∷ []
pairs_at_their_key = refl

one_pair_is_no_list_of_pairs : pairs_at (codes "pair") values ≡ []
one_pair_is_no_list_of_pairs = refl

table_at_its_key :
    table_at (codes "table") values ≡ member (codes "a") (text (codes "b")) no_members
table_at_its_key = refl

table_at_no_key : table_at (codes "tables") values ≡ no_members
table_at_no_key = refl

text_has_no_members : members_of (text (codes "t")) ≡ no_members
text_has_no_members = refl

items_at_their_key :
    items_at (codes "pair") values ≡ item (minutes 2026) (item (minutes 2027) no_items)
items_at_their_key = refl

items_at_a_text : items_at (codes "text") values ≡ no_items
items_at_a_text = refl

-- Whole.antt

number_is_restored : restored (One Integer) (minutes 5) ≡ minutes 5
number_is_restored = refl

pairs_are_restored :
    restored (Many Pair) (array (item (pair 1 2) (item (pair 3 4) no_items)))
    ≡ array (item (pair 1 2) (item (pair 3 4) no_items))
pairs_are_restored = refl

texts_are_restored :
    restored (Many (Text Any)) (texts_2 (codes "a") (codes "b"))
    ≡ texts_2 (codes "a") (codes "b")
texts_are_restored = refl

-- of a value of another kind nothing is left
number_is_not_restored_as_a_choice : restored (One Boolean) (minutes 5) ≡ table no_members
number_is_not_restored_as_a_choice = refl

empty_text_is_right : IsRight no_members
empty_text_is_right = (refl, tt)

text_with_a_number_is_right : IsRight (member (codes "max_entries") (minutes 5) no_members)
text_with_a_number_is_right =
    (refl, ((One Integer, record { known = refl; key = refl; value = refl }, tt), tt))
