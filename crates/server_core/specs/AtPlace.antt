-- What a server has answered at one place.
use Rattle.std.specs.Prelude.{◌≢◌, ℕ, zero, suc, ◌+◌, List, [], ◌∷◌, Option, Some, None, ⊤}
use Rattle.server_core.specs.Served.{Turn}
use Rattle.server_core.specs.Turns.{Answered}

abbrev pub counts : Option Answered → ℕ
counts None = 0
counts (Some a) = 1

-- in a turn
abbrev pub answered_at : ℕ → List (Option Answered) → ℕ
answered_at place [] = 0
answered_at zero (m ∷ ms) = counts m
answered_at (suc place) (m ∷ ms) = answered_at place ms

-- over all its turns
abbrev pub answers_at : ℕ → List Turn → ℕ
answers_at place [] = 0
answers_at place (t ∷ ts) = answered_at place t.answered + answers_at place ts

abbrev pub IsNotAmong : ℕ → List ℕ → Type 0
IsNotAmong place [] = ⊤
IsNotAmong place (p ∷ ps) = (p ≢ place) × IsNotAmong place ps

-- it gives the place to no other connection
abbrev pub KeepsPlace : ℕ → List Turn → Type 0
KeepsPlace place [] = ⊤
KeepsPlace place (t ∷ ts) = IsNotAmong place t.places × KeepsPlace place ts
