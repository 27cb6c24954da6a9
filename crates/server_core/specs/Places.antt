-- The places of a server, and what is so far in a turn.
use Rattle.std.specs.Prelude.{◌≡◌, ◌≤◌, ◌<◌, ℕ, List, [], ◌∷◌, Option, map, length, take, drop, get_or, ⊤}
use Rattle.connection_core.specs.Machine.{Conn, closed}
use Rattle.connection_core.specs.Seen.{seen}
use Rattle.connection_core.specs.declared.phase.Phase.TheVariants.{Closed}
use Rattle.server_core.specs.Calls.{Adds, Call, Io, from_place}
use Rattle.server_core.specs.Turns.{Answered, TakeTurns, somes}
use Rattle.server_core.specs.Works.{Works, WorksAmong, unmarked}
use Rattle.server_core.specs.declared.host.Readiness.{Readiness}
use Rattle.server_core.specs.declared.slot.Slot.{Slot}

-- the connections at the places
abbrev pub conns : {S : Type 0} → List (Slot S) → List Conn
conns slots = map (λ slot. seen slot.connection) slots

abbrev pub Each : (Conn → Type 0) → List Conn → Type 0
Each P [] = ⊤
Each P (c ∷ cs) = P c × Each P cs

-- one of them is free
abbrev pub HasFree : List Conn → Type 0
HasFree cs = (place : ℕ) × (place < length cs) × ((get_or cs place closed).phase ≡ Closed)

-- so many connections have had their turn, with so many answers; the others are as they were
abbrev pub SoFar : {D : Type 0} → (List ℕ → Option ℕ → Type 0) → (D → Answered → D → Type 0)
    → Option (List Call) → Option (List Call) → ℕ → List Readiness → List Conn → D → ℕ
    → List Readiness → List Conn → D → ℕ → Type 0
SoFar States Steps calls called now marks olds desk place left news next count =
    (ms : List (Option Answered)) × (length (somes ms) ≡ count)
    × TakeTurns States Steps now ms (take place olds) desk (take place news) next
    × (drop place news ≡ drop place olds) × (length news ≡ length olds)
    × (ios : List (List Io)) × Adds calls called (from_place 0 ios)
    × (length ms ≡ place) × (length ios ≡ place)
    × ((seat : ℕ) → seat < place → WorksAmong marks olds ms ios left seat)
    × ((seat : ℕ) → place ≤ seat → get_or left seat unmarked ≡ get_or marks seat unmarked)

-- all have had their turn
abbrev pub TurnsOf : {D : Type 0} → (List ℕ → Option ℕ → Type 0) → (D → Answered → D → Type 0)
    → Option (List Call) → Option (List Call) → ℕ → List Readiness → List Conn → D
    → List Readiness → List Conn → D → ℕ → Type 0
TurnsOf States Steps calls called now marks olds desk left news next count =
    (ms : List (Option Answered)) × (length (somes ms) ≡ count)
    × TakeTurns States Steps now ms olds desk news next
    × (ios : List (List Io)) × Adds calls called (from_place 0 ios)
    × Works marks olds ms ios left
