-- Which words stand in a text, without regard to the case of letters, of any script.
use Rattle.std.specs.Prelude.{ℕ, Bool, true, false, ◌&&◌, ◌||◌, ◌==◌, List, [], ◌∷◌, chars}
use Rattle.std.specs.List.{list_all, list_any}
use Rattle.caseless.specs.Caseless.{default_case_fold}

-- the letters of a text, folded by Unicode's default case folding: in full, and as no single
-- language would do it
abbrev pub folded : List ℕ → List ℕ
folded text = default_case_fold (chars text)

-- the letters begin with those of the word
abbrev pub begins : List ℕ → List ℕ → Bool
begins [] letters = true
begins (w ∷ word) [] = false
begins (w ∷ word) (l ∷ letters) = (w == l) && begins word letters

-- the letters, or what is left of them after some of them, begin with those of the word
abbrev pub stands_among : List ℕ → List ℕ → Bool
stands_among word [] = begins word []
stands_among word (l ∷ letters) = begins word (l ∷ letters) || stands_among word letters

-- the word, folded, stands in the folded text
abbrev pub stands_in : List ℕ → List ℕ → Bool
stands_in word text = stands_among (folded word) (folded text)

-- each of the words stands in one of the texts
abbrev pub has_words : List (List ℕ) → List (List ℕ) → Bool
has_words words texts = list_all (λ word. list_any (stands_in word) texts) words
