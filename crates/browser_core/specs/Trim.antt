-- Bytes without the spaces and tabs round them.
use Rattle.std.specs.Prelude.{ℕ, ◌==◌, Bool, ◌||◌, if◌then◌else◌, List, [], ◌∷◌}
use Rattle.std.specs.List.{list_all}

abbrev pub is_blank : ℕ → Bool
is_blank b = (b == 32) || (b == 9)

abbrev pub without_front : List ℕ → List ℕ
without_front [] = []
without_front (b ∷ bytes) = if is_blank b then without_front bytes else b ∷ bytes

abbrev pub without_back : List ℕ → List ℕ
without_back [] = []
without_back (b ∷ bytes) =
    if list_all is_blank (b ∷ bytes) then [] else b ∷ without_back bytes

abbrev pub trimmed : List ℕ → List ℕ
trimmed bytes = without_back (without_front bytes)
