-- What is still to come from a line that is read in part.
use Rattle.std.specs.Prelude.{ℕ, List, ◌++◌, Option, string_bytes}
use Rattle.std.specs.Option.{option_map}
use Rattle.desk_words.specs.Words.{word_of, between, bare, quoted, escaped, closed}
use Rattle.desk_words.specs.declared.words.Place.{Place}
use Rattle.desk_words.specs.declared.words.Place.TheVariants.{Between, Bare, Quoted, Escaped}
use Rattle.desk_words.specs.declared.words.Place.TheVariants.{Closed}

-- the words of the text, read from that place
abbrev pub read_at : Place → List ℕ → Option (List (List ℕ))
read_at Between text = between text
read_at (Bare word) text = word_of (string_bytes word) (bare text)
read_at (Quoted word) text = word_of (string_bytes word) (quoted text)
read_at (Escaped word) text = word_of (string_bytes word) (escaped text)
read_at (Closed word) text = word_of (string_bytes word) (closed text)

-- those words, after the words had before
abbrev pub after : List (List ℕ) → Option (List (List ℕ)) → Option (List (List ℕ))
after had rest = option_map (λ ws. had ++ ws) rest
