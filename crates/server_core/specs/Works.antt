-- What is read and written of each place in a turn, and which marks are left.
use Rattle.std.specs.Prelude.{◌≡◌, ◌≤◌, ◌<◌, ◌⊎◌, ℕ, Bool, true, false, List, [], ◌∷◌, Option, Some, None}
use Rattle.std.specs.Prelude.{is_some, length, get_or, set}
use Rattle.connection_core.specs.Machine.{Conn, closed}
use Rattle.connection_core.specs.declared.phase.Phase.TheVariants.{Writing}
use Rattle.server_core.specs.Calls.{Io, Reads, Writes, how_many, is_failed_read, is_idle_write, is_read}
use Rattle.server_core.specs.Calls.{is_write}
use Rattle.server_core.specs.Reads.{HasRead, HasWritten, listens}
use Rattle.server_core.specs.Turns.{Answered}
use Rattle.server_core.specs.declared.host.Readiness.{Readiness}

-- nothing was read at a place, or its stream once: no byte comes but from there
abbrev pub HasReadAt : {S : Type 0} → (List ℕ → Option ℕ → Type 0) → (S → Option (List ℕ))
    → List Io → Option S → Conn → Option S → Conn → Type 0
HasReadAt {S} States remaining ios had old has new =
    ((ios ≡ []) × (has ≡ had) × (new ≡ old))
    ⊎ ((was : S) × (is : S) × (got : Option ℕ) × (ios ≡ Reads got ∷ []) × (had ≡ Some was)
    × (has ≡ Some is) × HasRead States (remaining was) (remaining is) got old new)

-- nothing was written at a place, or to its stream once, at this moment
abbrev pub HasWrittenAt : {S : Type 0} → ℕ → (S → Option (List ℕ)) → List Io → Option S → Conn
    → Option S → Conn → Type 0
HasWrittenAt {S} now contents ios had old has new =
    ((ios ≡ []) × (has ≡ had) × (new ≡ old))
    ⊎ ((was : S) × (is : S) × (took : Option ℕ) × (ios ≡ Writes took ∷ []) × (had ≡ Some was)
    × (has ≡ Some is) × HasWritten now (contents was) (contents is) took old new)

abbrev pub unmarked : Readiness
unmarked = record { readable = false; writable = false }

abbrev pub marked : Readiness
marked = record { readable = true; writable = true }

-- the marks after connections were accepted at these places
abbrev pub marked_at : List ℕ → List Readiness → List Readiness
marked_at [] marks = marks
marked_at (place ∷ rest) marks = marked_at rest (set marks place marked)

-- A mark stays, or such a call took it away.
abbrev pub IsLeft : Bool → Bool → (Io → Bool) → List Io → Type 0
IsLeft old new is ios = (new ≡ old) ⊎ ((new ≡ false) × (1 ≤ how_many is ios))

-- A place's turn. Where it is marked readable and what comes is looked at, its stream is read; where
-- it is marked writable and its reply is on its way, or its message is answered now, what is left of
-- the reply is offered. It is read at most twice and written at most once. A mark is taken away only
-- by a read that failed, and by a write that failed or took nothing.
abbrev pub WorksAt : Readiness → Conn → Bool → List Io → Readiness → Type 0
WorksAt mark old answered ios left =
    (mark.readable ≡ true → listens old.phase ≡ true → 1 ≤ how_many is_read ios)
    × (mark.writable ≡ true → (old.phase ≡ Writing) ⊎ (answered ≡ true)
    → 1 ≤ how_many is_write ios)
    × (how_many is_read ios ≤ 2) × (how_many is_write ios ≤ 1)
    × IsLeft mark.readable left.readable is_failed_read ios
    × IsLeft mark.writable left.writable is_idle_write ios

-- the same at this place of all
abbrev pub WorksAmong : List Readiness → List Conn → List (Option Answered) → List (List Io) → List Readiness
    → ℕ → Type 0
WorksAmong marks olds ms calls left place =
    WorksAt (get_or marks place unmarked) (get_or olds place closed) (is_some (get_or ms place None))
    (get_or calls place []) (get_or left place unmarked)

-- the same of all places: their marks, their connections, the messages that are answered, the calls
-- of their streams, and the marks that are left
abbrev pub Works : List Readiness → List Conn → List (Option Answered) → List (List Io) → List Readiness → Type 0
Works marks olds ms calls left =
    (length calls ≡ length olds)
    × ((place : ℕ) → place < length olds → WorksAmong marks olds ms calls left place)
