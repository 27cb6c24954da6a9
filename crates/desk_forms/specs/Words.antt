-- The words of commands.
use Rattle.std.specs.Prelude.{ℕ, Bool, List, Option, find}
use Rattle.std.specs.Str.{bytes_eq}
use Rattle.desk_forms.specs.declared.table.CommandForm.{CommandForm}
use Rattle.desk_forms.specs.declared.words.Word.{Word}

-- a word and the form of the command for which it asks
pub record Row : Type 0 where
  pub word : List ℕ
  pub leads : CommandForm

abbrev pub asks : List ℕ → CommandForm → Row
asks word leads = record { word = word; leads = leads }

abbrev pub is_named : List ℕ → Row → Bool
is_named word row = bytes_eq row.word word

-- the first row of a word, if it has one
abbrev pub row_in : List Row → List ℕ → Option Row
row_in rows word = find (is_named word) rows

-- a row as the code holds it
abbrev pub word_of : Word → Row
word_of w = asks w.0.now w.1
