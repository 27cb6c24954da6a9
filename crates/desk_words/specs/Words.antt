-- The words of a line. It is read from its front: each character goes onto the word that what
-- follows begins with.
use Rattle.std.specs.Prelude.{ℕ, List, [], ◌∷◌, ◌++◌, Option, Some, None, ◌==◌, if◌then◌else◌}
use Rattle.std.specs.Prelude.{encode_utf8}
use Rattle.std.specs.Option.{option_map}
use Rattle.std.specs.Str.{chars}

-- what is left of a word, and the words after it
abbrev pub Rest : Type 0
Rest = List ℕ × List (List ℕ)

-- these bytes come first in what is left of the word
abbrev pub onto : List ℕ → Option Rest → Option Rest
onto bytes rest = option_map (λ r. (bytes ++ r.0, r.1)) rest

-- the word that begins with these bytes, and the words after it
abbrev pub word_of : List ℕ → Option Rest → Option (List (List ℕ))
word_of bytes rest = option_map (λ r. (bytes ++ r.0) ∷ r.1) rest

-- nothing is left of the word
abbrev pub ended : Option (List (List ℕ)) → Option Rest
ended words = option_map (λ ws. ([], ws)) words

-- what a character after a backslash stands for
abbrev pub meant : ℕ → Option ℕ
meant c =
    if c == 34 then Some 34
    else if c == 92 then Some 92
    else if c == 110 then Some 10
    else if c == 116 then Some 9
    else None

-- a character that is meant, if one is
abbrev pub meant_onto : Option ℕ → Option Rest → Option Rest
meant_onto None rest = None
meant_onto (Some c) rest = onto (encode_utf8 c) rest

abbrev mutual
  -- between words
  pub between : List ℕ → Option (List (List ℕ))
  between [] = Some []
  between (c ∷ cs) =
      if c == 32 then between cs
      else if c == 34 then word_of [] (quoted cs)
      else word_of (encode_utf8 c) (bare cs)

  -- in a word without quotes, which ends at a space
  pub bare : List ℕ → Option Rest
  bare [] = ended (Some [])
  bare (c ∷ cs) =
      if c == 32 then ended (between cs)
      else if c == 34 then None
      else onto (encode_utf8 c) (bare cs)

  -- within quotes
  pub quoted : List ℕ → Option Rest
  quoted [] = None
  quoted (c ∷ cs) =
      if c == 34 then closed cs
      else if c == 92 then escaped cs
      else onto (encode_utf8 c) (quoted cs)

  -- within quotes after a backslash
  pub escaped : List ℕ → Option Rest
  escaped [] = None
  escaped (c ∷ cs) = meant_onto (meant c) (quoted cs)

  -- after the closing quote, where a space or the end has to come
  pub closed : List ℕ → Option Rest
  closed [] = ended (Some [])
  closed (c ∷ cs) = if c == 32 then ended (between cs) else None

-- the words of a text, both in bytes
abbrev pub words_of : List ℕ → Option (List (List ℕ))
words_of line = between (chars line)
