-- Minutes that don't count: those that lie in a stay whose status a level ignores.
use Rattle.std.specs.Prelude.{ℕ, Bool, true, false, ◌&&◌, nat_le, nat_lt, List, [], ◌∷◌}
use Rattle.std.specs.Prelude.{◌≡◌, Option, Some, None}
use Rattle.std.specs.List.{list_any}
use Rattle.text_core.specs.Texts.{is_among}
use Rattle.hours_core.specs.declared.stay.Stay.{Stay}

-- a minute is before an end, if there is one
abbrev pub is_before : Option ℕ → ℕ → Bool
is_before None m = true
is_before (Some end) m = nat_lt m end

-- a minute lies in a stay from its start to before its end, or from its start on where it has none
abbrev pub lies_in : Stay → ℕ → Bool
lies_in stay m = nat_le stay.from m && is_before stay.until m

-- a minute lies in a stay whose status is ignored
abbrev pub pauses : List (List ℕ) → ℕ → Stay → Bool
pauses ignored m stay = is_among ignored stay.status && lies_in stay m

-- a minute is paused by one of the stays
unfoldable pub is_paused : List (List ℕ) → List Stay → ℕ → Bool
is_paused ignored stays m = list_any (pauses ignored m) stays

-- each stay begins at a minute or later, and not before the one before it
abbrev pub are_in_order : ℕ → List Stay → Bool
are_in_order earliest [] = true
are_in_order earliest (stay ∷ stays) = nat_le earliest stay.from && are_in_order stay.from stays

-- no stay's status is ignored
abbrev pub IgnoresNone : List (List ℕ) → List Stay → Type 0
IgnoresNone ignored stays = list_any (λ stay. is_among ignored stay.status) stays ≡ false
