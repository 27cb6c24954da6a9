-- A set of the texts of a list.
use Rattle.std.specs.Prelude.{◌≡◌, ℕ, List, String}
use Rattle.std.specs.HashSet.{HashSet, contains_text}
use Rattle.text_core.specs.Texts.{is_among}

-- the set has just these texts
abbrev pub IsSetOf : {Y S : Type 0} → List (List ℕ) → HashSet (String Y) S → Type 0
IsSetOf texts set = (text : List ℕ) → contains_text set text ≡ is_among texts text
