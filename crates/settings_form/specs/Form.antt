-- The form of a settings text: the keys of its tables, and what stands at each.
use Rattle.std.specs.Prelude.{ℕ, Bool, true, false, List, [], ◌∷◌, map}
use Rattle.std.specs.Prelude.{Option, Some, None, codes, if◌then◌else◌}
use Rattle.std.specs.Str.{bytes_eq}
use Rattle.settings_form.specs.declared.form.Place.{Place}
use Rattle.settings_form.specs.declared.form.Place.TheVariants.{Top, Groups, Grant, Tokens}
use Rattle.settings_form.specs.declared.form.Place.TheVariants.{Lifecycles, Lifecycle, Transitions}
use Rattle.settings_form.specs.declared.form.Place.TheVariants.{RightNames, Calendars, Calendar}
use Rattle.settings_form.specs.declared.form.Place.TheVariants.{Levels, Level, Limit}
use Rattle.settings_form.specs.declared.form.TextForm.{TextForm}
use Rattle.settings_form.specs.declared.form.TextForm.TheVariants.{Any, Name, To, RightKey}
use Rattle.settings_form.specs.declared.form.TextForm.TheVariants.{Day, Interval}
use Rattle.settings_form.specs.declared.form.Item.TheVariants.{Integer, Boolean, Text, Pair, Table}
use Rattle.settings_form.specs.declared.form.Kind.{Kind}
use Rattle.settings_form.specs.declared.form.Kind.TheVariants.{One, Many}
use Rattle.settings_form.specs.declared.form.Row.{Row}
use Rattle.settings_form.specs.declared.form.Keys.{Keys as KeysInCode}
use Rattle.settings_form.specs.declared.form.Keys.TheVariants.{Listed, OneOf, Free}

-- a key of a table, whether the table must have it, and what stands at it
pub record Field : Type 0 where
  pub key : List ℕ
  pub is_required : Bool
  pub kind : Kind

-- these keys alone; these alone and at least one of them; any keys of a form, all with one kind
pub data Keys : Type 0 where
  listed : List Field → Keys
  one_of : List Field → Keys
  free : TextForm → Kind → Keys

abbrev pub must : List ℕ → Kind → Field
must k kind = record { key = k; is_required = true; kind = kind }

abbrev pub may : List ℕ → Kind → Field
may k kind = record { key = k; is_required = false; kind = kind }

-- the keys of each table
abbrev pub keys : Place → Keys
keys Top =
    listed (
    may (codes "max_requests") (One Integer) ∷
    may (codes "max_entries") (One Integer) ∷
    may (codes "persons") (Many (Text Any)) ∷
    may (codes "groups") (One (Table Groups)) ∷
    may (codes "grant") (Many (Table Grant)) ∷
    may (codes "tokens") (One (Table Tokens)) ∷
    may (codes "lifecycle") (One (Table Lifecycles)) ∷
    may (codes "calendar") (One (Table Calendars)) ∷
    may (codes "level") (One (Table Levels)) ∷
    [])
keys Groups = free Any (Many (Text Any))
keys Grant =
    listed (
    must (codes "to") (One (Text To)) ∷
    must (codes "rights") (Many (Text Any)) ∷
    may (codes "queue") (One (Text Any)) ∷
    [])
keys Tokens = free Any (One (Text Any))
keys Lifecycles = free Name (One (Table Lifecycle))
keys Lifecycle =
    listed (
    must (codes "initial") (Many (Text Any)) ∷
    must (codes "active") (Many (Text Any)) ∷
    must (codes "create") (Many (Text Any)) ∷
    must (codes "on_create") (One (Text Any)) ∷
    may (codes "inactive") (Many (Text Any)) ∷
    may (codes "transitions") (One (Table Transitions)) ∷
    may (codes "rights") (One (Table RightNames)) ∷
    [])
keys Transitions = free Any (Many (Text Any))
keys RightNames = free RightKey (One (Text Any))
keys Calendars = free Name (One (Table Calendar))
keys Calendar =
    listed (
    may (codes "years") (One Pair) ∷
    may (codes "offset") (One Integer) ∷
    may (codes "changes") (Many Pair) ∷
    may (codes "rule") (One (Text Any)) ∷
    may (codes "holidays") (Many (Text Day)) ∷
    may (codes "sun") (Many (Text Interval)) ∷
    may (codes "mon") (Many (Text Interval)) ∷
    may (codes "tue") (Many (Text Interval)) ∷
    may (codes "wed") (Many (Text Interval)) ∷
    may (codes "thu") (Many (Text Interval)) ∷
    may (codes "fri") (Many (Text Interval)) ∷
    may (codes "sat") (Many (Text Interval)) ∷
    [])
keys Levels = free Name (One (Table Level))
keys Level =
    listed (
    must (codes "calendar") (One (Text Any)) ∷
    may (codes "start_immediately") (One Boolean) ∷
    may (codes "response") (One (Table Limit)) ∷
    may (codes "keep_in_loop") (One (Table Limit)) ∷
    may (codes "resolve") (One (Table Limit)) ∷
    may (codes "ignore") (Many (Text Any)) ∷
    [])
keys Limit =
    one_of (
    may (codes "real_minutes") (One Integer) ∷
    may (codes "business_minutes") (One Integer) ∷
    [])

-- what stands at a key
abbrev pub kind_in : List Field → List ℕ → Option Kind
kind_in [] k = None
kind_in (f ∷ fs) k = (if bytes_eq k f.key then Some f.kind else kind_in fs k)

abbrev pub kind_by : Keys → List ℕ → Option Kind
kind_by (listed fs) k = kind_in fs k
kind_by (one_of fs) k = kind_in fs k
kind_by (free form kind) k = Some kind

abbrev pub kind_of : Place → List ℕ → Option Kind
kind_of p k = kind_by (keys p) k

-- the keys as the code holds them
abbrev pub field_of : Row → Field
field_of r = record { key = r.key.now; is_required = r.is_required; kind = r.kind }

abbrev pub keys_of : KeysInCode → Keys
keys_of (Listed rows) = listed (map field_of rows.now)
keys_of (OneOf rows) = one_of (map field_of rows.now)
keys_of (Free form kind) = free form kind
