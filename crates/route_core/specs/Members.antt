-- The body of a message as the members of a JSON object, and what they are.
use Rattle.std.specs.Prelude.{ℕ, Bool, true, ◌&&◌, ◌^◌, nat_lt, if◌then◌else◌}
use Rattle.std.specs.Prelude.{List, [], ◌∷◌, Option, Some, None, option_and_then}
use Rattle.std.specs.Str.{is_utf8}
use Rattle.serde_json.specs.Data.{Data, array, null, string, Items, no_items, item}
use Rattle.serde_json.specs.Data.{Members, no_members, member}
use Rattle.serde_json.specs.Find.{as_number, as_object, as_str, as_u64, get_member}
use Rattle.serde_json.specs.Read.{read}
use Rattle.desk_forms.specs.Keys.{is_key}
use Rattle.desk_forms.specs.Kinds.{Argument}
use Rattle.desk_forms.specs.Paths.{PathParameter}

-- the members of the object that a text is, if it is one
abbrev pub members_of_text : List ℕ → Option Members
members_of_text text = if is_utf8 text then option_and_then as_object (read text) else None

-- the same of a body: an empty one has no members
abbrev pub members_of : List ℕ → Option Members
members_of [] = Some no_members
members_of (b ∷ bs) = members_of_text (b ∷ bs)

-- each key is that of an argument that is posted
abbrev pub has_only : PathParameter → List Argument → Members → Bool
has_only b args no_members = true
has_only b args (member key value rest) = is_key b args key && has_only b args rest

-- the text at a key, if there is one
abbrev pub text_at : List ℕ → Members → Option (List ℕ)
text_at key members = option_and_then as_str (get_member key members)

-- the text that a value is, or none where it is null; nothing where it is something else
abbrev pub text_or_null : Data → Option (Option (List ℕ))
text_or_null null = Some None
text_or_null (string text) = Some (Some text)
text_or_null other = None

-- the text that may be left out, also as null; nothing where something else stands for it
abbrev pub text_or_none : Option Data → Option (Option (List ℕ))
text_or_none None = Some None
text_or_none (Some value) = text_or_null value

abbrev pub text_or_none_at : List ℕ → Members → Option (Option (List ℕ))
text_or_none_at key members = text_or_none (get_member key members)

-- the text in front of others, where all are texts
abbrev pub before_texts : Option (List ℕ) → Option (List (List ℕ)) → Option (List (List ℕ))
before_texts (Some text) (Some texts) = Some (text ∷ texts)
before_texts text texts = None

-- the items, where each is a text
abbrev pub texts_in : Items → Option (List (List ℕ))
texts_in no_items = Some []
texts_in (item value rest) = before_texts (as_str value) (texts_in rest)

-- the list of texts that may be left out; nothing where something else stands for it
abbrev pub texts_or_none : Option Data → Option (List (List ℕ))
texts_or_none None = Some []
texts_or_none (Some (array items)) = texts_in items
texts_or_none (Some other) = None

abbrev pub texts_at : List ℕ → Members → Option (List (List ℕ))
texts_at key members = texts_or_none (get_member key members)

-- the number, if it is less than 2^32
abbrev pub below_limit : ℕ → Option ℕ
below_limit n = if nat_lt n (2 ^ 32) then Some n else None

-- the whole number that a value is, written in digits alone and less than 2^32
abbrev pub whole_number : Data → Option ℕ
whole_number value = option_and_then below_limit (option_and_then as_u64 (as_number value))

abbrev pub number_at : List ℕ → Members → Option ℕ
number_at key members = option_and_then whole_number (get_member key members)
