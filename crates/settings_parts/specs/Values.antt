-- The values of a settings text that has no fault of form. Of a value of another kind these words
-- give nothing, and that is never asked of such a text.
use Rattle.std.specs.Prelude.{ℕ, ℤ, Bool, List, [], ◌∷◌, Option, Some, None, option_and_then}
use Rattle.toml.specs.Data.{Data, array, table, Items, no_items, item, Members}
use Rattle.toml.specs.Data.{no_members, get_member, as_str, as_integer, as_bool}
use Rattle.settings_form.specs.Kinds.{two_of}

-- the text at a key, and the integer, and the choice
abbrev pub text_at : List ℕ → Members → Option (List ℕ)
text_at k ms = option_and_then as_str (get_member k ms)

abbrev pub integer_at : List ℕ → Members → Option ℤ
integer_at k ms = option_and_then as_integer (get_member k ms)

abbrev pub boolean_at : List ℕ → Members → Option Bool
boolean_at k ms = option_and_then as_bool (get_member k ms)

-- the value, if there is one, and then the rest
abbrev pub put_before : {X : Type 0} → Option X → List X → List X
put_before None rest = rest
put_before (Some x) rest = x ∷ rest

-- the texts of a list
abbrev pub texts_in : Items → List (List ℕ)
texts_in no_items = []
texts_in (item d ds) = put_before (as_str d) (texts_in ds)

abbrev pub texts_of : Data → List (List ℕ)
texts_of (array ds) = texts_in ds
texts_of _ = []

-- the texts at a key, none where the key is absent
abbrev pub texts_of_some : Option Data → List (List ℕ)
texts_of_some None = []
texts_of_some (Some d) = texts_of d

abbrev pub texts_at : List ℕ → Members → List (List ℕ)
texts_at k ms = texts_of_some (get_member k ms)

-- a list of two integers
abbrev pub both : Option ℤ → Option ℤ → Option (ℤ × ℤ)
both (Some a) (Some b) = Some (a, b)
both _ _ = None

abbrev pub integers_of : Data × Data → Option (ℤ × ℤ)
integers_of pair = both (as_integer pair.0) (as_integer pair.1)

abbrev pub pair_of : Data → Option (ℤ × ℤ)
pair_of (array ds) = option_and_then integers_of (two_of ds)
pair_of _ = None

abbrev pub pair_at : List ℕ → Members → Option (ℤ × ℤ)
pair_at k ms = option_and_then pair_of (get_member k ms)

-- the pairs of a list
abbrev pub pairs_in : Items → List (ℤ × ℤ)
pairs_in no_items = []
pairs_in (item d ds) = put_before (pair_of d) (pairs_in ds)

abbrev pub pairs_of : Data → List (ℤ × ℤ)
pairs_of (array ds) = pairs_in ds
pairs_of _ = []

abbrev pub pairs_of_some : Option Data → List (ℤ × ℤ)
pairs_of_some None = []
pairs_of_some (Some d) = pairs_of d

abbrev pub pairs_at : List ℕ → Members → List (ℤ × ℤ)
pairs_at k ms = pairs_of_some (get_member k ms)

-- the members of a table, none of another value
abbrev pub members_of : Data → Members
members_of (table ms) = ms
members_of _ = no_members

abbrev pub members_of_some : Option Data → Members
members_of_some None = no_members
members_of_some (Some d) = members_of d

-- the members of the table at a key, none where the key is absent
abbrev pub table_at : List ℕ → Members → Members
table_at k ms = members_of_some (get_member k ms)

-- the items of the list at a key
abbrev pub items_of : Data → Items
items_of (array ds) = ds
items_of _ = no_items

abbrev pub items_of_some : Option Data → Items
items_of_some None = no_items
items_of_some (Some d) = items_of d

abbrev pub items_at : List ℕ → Members → Items
items_at k ms = items_of_some (get_member k ms)
