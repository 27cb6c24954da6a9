-- Which texts stand in a list, and which stand there twice.
use Rattle.std.specs.Prelude.{ℕ, Bool, false, ◌||◌, List, [], ◌∷◌}
use Rattle.std.specs.List.{list_any}
use Rattle.std.specs.Str.{bytes_eq}

-- the text is one of the list
abbrev pub is_among : List (List ℕ) → List ℕ → Bool
is_among texts text = list_any (λ t. bytes_eq t text) texts

-- a text of the list stands again further on
abbrev pub repeats_text : List (List ℕ) → Bool
repeats_text [] = false
repeats_text (text ∷ rest) = is_among rest text || repeats_text rest

-- a text of the first list is in the second too
abbrev pub shares_text : List (List ℕ) → List (List ℕ) → Bool
shares_text texts others = list_any (is_among others) texts
