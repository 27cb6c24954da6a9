-- What holds of the style sheet, byte by byte.
use Rattle.std.specs.Prelude.{ℕ, ◌==◌, nat_lt, Bool, true, false, not, ◌&&◌, ◌||◌, List, []}
use Rattle.std.specs.Prelude.{◌∷◌}

-- ASCII, and no `<`
abbrev pub is_plain : ℕ → Bool
is_plain b = nat_lt b 128 && not (b == 60)

-- the bytes begin with this text
abbrev pub begins : List ℕ → List ℕ → Bool
begins [] bytes = true
begins (c ∷ text) [] = false
begins (c ∷ text) (b ∷ bytes) = (c == b) && begins text bytes

-- this text stands in the bytes
abbrev pub has_text : List ℕ → List ℕ → Bool
has_text text [] = begins text []
has_text text (b ∷ bytes) = begins text (b ∷ bytes) || has_text text bytes
