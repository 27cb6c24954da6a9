-- A text as markup shows it.
use Rattle.std.specs.Prelude.{ℕ, ◌==◌, Bool, not, ◌||◌, if◌then◌else◌, List, [], ◌∷◌, codes}
use Rattle.std.specs.List.{flat_map}

-- & < > " and ' as entities, any other byte as it is
abbrev pub escape : ℕ → List ℕ
escape b =
    if b == 38 then codes "&amp;"
    else if b == 60 then codes "&lt;"
    else if b == 62 then codes "&gt;"
    else if b == 34 then codes "&quot;"
    else if b == 39 then codes "&#39;"
    else b ∷ []

abbrev pub escaped : List ℕ → List ℕ
escaped text = flat_map escape text

-- none of < > " and '
abbrev pub is_harmless : ℕ → Bool
is_harmless b = not ((b == 60) || (b == 62) || (b == 34) || (b == 39))
