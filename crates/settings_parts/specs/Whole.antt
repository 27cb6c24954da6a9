-- A text without a fault of form has the form through and through, and the words that read its
-- values lose nothing.
use Rattle.std.specs.Prelude.{◌≡◌, ℕ, ℤ, true, false, List, [], ◌∷◌, Some}
use Rattle.std.specs.Option.{option_map_or}
use Rattle.toml.specs.Data.{Data, string, integer, boolean, array, table, Items, no_items}
use Rattle.toml.specs.Data.{item, Members, no_members, member, as_str, as_integer, as_bool}
use Rattle.settings_form.specs.Form.{keys, kind_of}
use Rattle.settings_form.specs.Kinds.{has_kind, is_key, lacks_key, has_clash}
use Rattle.settings_form.specs.declared.form.Place.{Place}
use Rattle.settings_form.specs.declared.form.Place.TheVariants.{Top}
use Rattle.settings_form.specs.declared.form.Item.TheVariants.{Integer, Boolean, Text, Pair, Table}
use Rattle.settings_form.specs.declared.form.Kind.{Kind}
use Rattle.settings_form.specs.declared.form.Kind.TheVariants.{One, Many}
use Rattle.settings_parts.specs.Values.{texts_of, pair_of, pairs_of, members_of, items_of}

-- the key is one of the place's and of its form, and the value is of the key's kind
pub record IsRightAt (p : Place) (k : List ℕ) (d : Data) (kind : Kind) : Type 0 where
  pub known : kind_of p k ≡ Some kind
  pub key : is_key (keys p) k ≡ true
  pub value : has_kind kind d ≡ true

abbrev mutual
  -- each member of the table is right, and so are the tables inside, in which no key stands beside
  -- one that it doesn't stand beside
  pub AreRight : Place → Members → Type 0
  AreRight p no_members = Unit {0}
  AreRight p (member k d ms) =
      ((kind : Kind) × IsRightAt p k d kind × IsRightInside kind d) × AreRight p ms

  pub IsRightInside : Kind → Data → Type 0
  IsRightInside (One (Table p)) (table ms) =
      (lacks_key p ms ≡ false) × (has_clash p ms ≡ false) × AreRight p ms
  IsRightInside (Many (Table p)) (array ds) = AreRightItems p ds
  IsRightInside _ _ = Unit {0}

  pub AreRightItems : Place → Items → Type 0
  AreRightItems p no_items = Unit {0}
  AreRightItems p (item d ds) = IsRightInside (One (Table p)) d × AreRightItems p ds

-- no key is missing that must be there, and all are right
abbrev pub IsRight : Members → Type 0
IsRight ms = (lacks_key Top ms ≡ false) × AreRight Top ms

-- lists of texts, of pairs and of tables
abbrev pub text_items : List (List ℕ) → Items
text_items [] = no_items
text_items (t ∷ ts) = item (string t) (text_items ts)

abbrev pub pair_data : ℤ × ℤ → Data
pair_data pair = array (item (integer pair.0) (item (integer pair.1) no_items))

abbrev pub pair_items : List (ℤ × ℤ) → Items
pair_items [] = no_items
pair_items (p ∷ ps) = item (pair_data p) (pair_items ps)

abbrev pub table_items : Items → Items
table_items no_items = no_items
table_items (item d ds) = item (table (members_of d)) (table_items ds)

abbrev pub nothing : Data
nothing = table no_members

-- the value made again of what is read of it; no key has a list of integers or of choices
abbrev pub restored : Kind → Data → Data
restored (One Integer) d = option_map_or integer (as_integer d) nothing
restored (One Boolean) d = option_map_or boolean (as_bool d) nothing
restored (One (Text form)) d = option_map_or string (as_str d) nothing
restored (One Pair) d = option_map_or pair_data (pair_of d) nothing
restored (One (Table p)) d = table (members_of d)
restored (Many (Text form)) d = array (text_items (texts_of d))
restored (Many Pair) d = array (pair_items (pairs_of d))
restored (Many (Table p)) d = array (table_items (items_of d))
restored (Many _) d = d
