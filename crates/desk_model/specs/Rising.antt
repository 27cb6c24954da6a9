-- Lists in which each comes before the next.
use Rattle.std.specs.Prelude.{Bool, true, ◌&&◌, List, [], ◌∷◌}

abbrev pub comes_first : {X : Type 0} → (X → X → Bool) → X → List X → Bool
comes_first comes_before x [] = true
comes_first comes_before x (y ∷ ys) = comes_before x y

-- each comes before the next
abbrev pub is_rising : {X : Type 0} → (X → X → Bool) → List X → Bool
is_rising comes_before [] = true
is_rising comes_before (x ∷ xs) = comes_first comes_before x xs && is_rising comes_before xs
