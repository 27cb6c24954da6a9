-- A value of its kind is made again of what is read of it.
use Rattle.std.proofs.Common.{◌≡◌, true, ◌&&◌, refl, ap}
use Rattle.std.proofs.lemmas.Bool.{and_parts}
use Rattle.toml.specs.Data.{Data, string, integer, boolean}
use Rattle.toml.specs.Data.{array, table, Items, no_items, item}
use Rattle.settings_form.specs.Kinds.{has_kind, is_text, is_integer}
use Rattle.settings_form.specs.Kinds.{is_pair, are_items, are_integers, two_of}
use Rattle.settings_form.specs.declared.form.TextForm.{TextForm}
use Rattle.settings_form.specs.declared.form.Place.{Place}
use Rattle.settings_form.specs.declared.form.Item.TheVariants.{Integer, Boolean, Text, Pair, Table}
use Rattle.settings_form.specs.declared.form.Kind.{Kind}
use Rattle.settings_form.specs.declared.form.Kind.TheVariants.{One, Many}
use Rattle.settings_parts.specs.Values.{texts_in, pairs_in}
use Rattle.settings_parts.specs.Whole.{restored, text_items, pair_items, table_items}

one_text : (form : TextForm) (d : Data) → is_text form d ≡ true → restored (One (Text form)) d ≡ d
one_text form (string s) h = refl
one_text form _ h = cc

one_integer : (d : Data) → is_integer d ≡ true → restored (One Integer) d ≡ d
one_integer (integer z) h = refl
one_integer _ h = cc

one_boolean : (d : Data) → has_kind (One Boolean) d ≡ true → restored (One Boolean) d ≡ d
one_boolean (boolean b) h = refl
one_boolean _ h = cc

one_table : (p : Place) (d : Data) → has_kind (One (Table p)) d ≡ true
    → restored (One (Table p)) d ≡ d
one_table p (table ms) h = refl
one_table p _ h = cc

two : (d e : Data) → is_integer d ≡ true → is_integer e ≡ true
    → restored (One Pair) (array (item d (item e no_items))) ≡ array (item d (item e no_items))
two (integer a) (integer b) h k = refl
two (integer a) _ h k = cc
two _ e h k = cc

pair_of_items : (ds : Items) → are_integers (two_of ds) ≡ true
    → restored (One Pair) (array ds) ≡ array ds
pair_of_items (item d (item e no_items)) h =
    let parts = and_parts (is_integer d) (is_integer e) h in
    two d e parts.0 parts.1
pair_of_items _ h = cc

one_pair : (d : Data) → is_pair d ≡ true → restored (One Pair) d ≡ d
one_pair (array ds) h = pair_of_items ds h
one_pair _ h = cc

texts_again : (form : TextForm) (ds : Items) → are_items (Text form) ds ≡ true
    → text_items (texts_in ds) ≡ ds
texts_again form no_items h = refl
texts_again form (item (string s) ds) h =
    let parts = and_parts (is_text form (string s)) (are_items (Text form) ds) h in
    ap (item (string s)) (texts_again form ds parts.1)
texts_again form (item d ds) h = cc

tables_again : (p : Place) (ds : Items) → are_items (Table p) ds ≡ true → table_items ds ≡ ds
tables_again p no_items h = refl
tables_again p (item (table ms) ds) h = ap (item (table ms)) (tables_again p ds h)
tables_again p (item d ds) h = cc

pair_before : (d e : Data) (ds : Items) → is_integer d ≡ true → is_integer e ≡ true
    → pair_items (pairs_in ds) ≡ ds
    → pair_items (pairs_in (item (array (item d (item e no_items))) ds))
    ≡ item (array (item d (item e no_items))) ds
pair_before (integer a) (integer b) ds h k rest =
    ap (item (array (item (integer a) (item (integer b) no_items)))) rest
pair_before (integer a) _ ds h k rest = cc
pair_before _ e ds h k rest = cc

pairs_again : (ds : Items) → are_items Pair ds ≡ true → pair_items (pairs_in ds) ≡ ds
pairs_again no_items h = refl
pairs_again (item (array (item d (item e no_items))) ds) h =
    let parts = and_parts (is_integer d && is_integer e) (are_items Pair ds) h in
    let numbers = and_parts (is_integer d) (is_integer e) parts.0 in
    pair_before d e ds numbers.0 numbers.1 (pairs_again ds parts.1)
pairs_again (item d ds) h = cc

many : (kind : Kind) (d : Data) → has_kind kind d ≡ true → restored kind d ≡ d
many (One Integer) d h = one_integer d h
many (One Boolean) d h = one_boolean d h
many (One (Text form)) d h = one_text form d h
many (One Pair) d h = one_pair d h
many (One (Table p)) d h = one_table p d h
many (Many Integer) d h = refl
many (Many Boolean) d h = refl
many (Many (Text form)) (array ds) h = ap array (texts_again form ds h)
many (Many (Text form)) d h = cc
many (Many Pair) (array ds) h = ap array (pairs_again ds h)
many (Many Pair) d h = cc
many (Many (Table p)) (array ds) h = ap array (tables_again p ds h)
many (Many (Table p)) d h = cc

pub whole : (kind : Kind) (d : Data) → has_kind kind d ≡ true → restored kind d ≡ d
whole = many
