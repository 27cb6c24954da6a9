-- The first key by which a settings text has a fault of form, and how its table is reached.
use Rattle.std.specs.Prelude.{ℕ, ◌+◌, List, [], Option, Some, None}
use Rattle.std.specs.Option.{option_map, option_or}
use Rattle.toml.specs.Data.{Data, array, table, Items, no_items, item, Members, no_members, member}
use Rattle.settings_form.specs.declared.form.Place.{Place}
use Rattle.settings_form.specs.declared.form.Place.TheVariants.{Top}
use Rattle.settings_form.specs.declared.form.Item.TheVariants.{Table}
use Rattle.settings_form.specs.declared.form.Kind.{Kind}
use Rattle.settings_form.specs.declared.form.Kind.TheVariants.{One, Many}
use Rattle.settings_form.specs.declared.fault.FormFault.{FormFault}
use Rattle.settings_form.specs.Form.{kind_of}
use Rattle.settings_form.specs.Keys.{key_of}
use Rattle.settings_form.specs.declared.walk.KeyAt.{KeyAt as KeyInCode}
use Rattle.settings_form.specs.declared.walk.TablePath.{TablePath as PathInCode}

-- the key of the table around a table, its own key, and which of a list it is: 0 for none
pub record TablePath : Type 0 where
  pub around : List ℕ
  pub key : List ℕ
  pub number : ℕ

-- a key of a table of this form, which is reached so
pub record KeyAt : Type 0 where
  pub place : Place
  pub path : TablePath
  pub key : List ℕ

abbrev pub path_to : List ℕ → List ℕ → ℕ → TablePath
path_to around key number = record { around = around; key = key; number = number }

abbrev pub at : Place → TablePath → List ℕ → KeyAt
at place path key = record { place = place; path = path; key = key }

-- a table's own key goes before those of the tables inside it
abbrev pub own_or : Place → TablePath → Option (List ℕ) → Option KeyAt → Option KeyAt
own_or place path own inside = option_or (option_map (at place path) own) inside

abbrev mutual
  -- inside a table that stands at this key
  pub key_inside : FormFault → Place → List ℕ → Members → Option KeyAt
  key_inside f p around no_members = None
  key_inside f p around (member k d ms) =
      option_or (key_at f (kind_of p k) (path_to around k 0) d) (key_inside f p around ms)

  -- of a value: a table, or a list of tables
  pub key_at : FormFault → Option Kind → TablePath → Data → Option KeyAt
  key_at f (Some (One (Table p))) path (table ms) =
      own_or p path (key_of f p ms) (key_inside f p path.key ms)
  key_at f (Some (Many (Table p))) path (array ds) = key_in_items f p path 1 ds
  key_at f _ path _ = None

  -- of the items of a list, of which the first has this number
  pub key_in_items : FormFault → Place → TablePath → ℕ → Items → Option KeyAt
  key_in_items f p path n no_items = None
  key_in_items f p path n (item d ds) =
      option_or (key_at f (Some (One (Table p))) (path_to path.around path.key n) d)
      (key_in_items f p path (n + 1) ds)

-- of a text
abbrev pub fault_key : FormFault → Members → Option KeyAt
fault_key f ms = own_or Top (path_to [] [] 0) (key_of f Top ms) (key_inside f Top [] ms)

-- ---- as the code holds them

abbrev pub seen_path : PathInCode → TablePath
seen_path path = path_to path.around.now path.key.now path.number

abbrev pub seen_key : KeyInCode → KeyAt
seen_key found = at found.place (seen_path found.path) found.key.now
