-- Walks of a map's entries and of a list beside walks of what they stand for.
use Rattle.std.proofs.Common.{◌≡◌, List, [], ◌∷◌, String, Global, string_bytes}
use Rattle.std.proofs.Common.{Some, None, option_map, is_some, if◌then◌else◌, refl}
use Rattle.std.specs.List.{list_all}
use Rattle.std.specs.Map.{keys_of}
use Rattle.serde_json.specs.Data.{Data, null, boolean, number, string, array, object}
use Rattle.serde_json.specs.Find.{as_null, as_str}
use Rattle.serde_json.specs.View.{members_view}
use Rattle.serde_json.specs.declared.value.Value.{Value}
use Rattle.desk_forms.specs.Keys.{is_key}
use Rattle.desk_forms.specs.Kinds.{Argument}
use Rattle.desk_forms.specs.Paths.{PathParameter}
use Rattle.route_core.specs.Members.{has_only, text_or_null}

pub only_these : (b : PathParameter) (args : List Argument) (es : List (String Global × Value))
    → list_all (λ key. is_key b args (string_bytes key)) (keys_of es)
    ≡ has_only b args (members_view es)
only_these b args [] = refl
only_these b args (e ∷ es) = rw (only_these b args es) refl

pub null_or_text : (value : Data) → text_or_null value
    ≡ (if is_some (as_null value) then Some None else option_map Some (as_str value))
null_or_text null = refl
null_or_text (boolean b) = refl
null_or_text (number n) = refl
null_or_text (string text) = refl
null_or_text (array items) = refl
null_or_text (object tree) = refl
