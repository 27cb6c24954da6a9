-- What happens to connections and to the desk in a turn of the server.
use Rattle.std.specs.Prelude.{◌≡◌, ◌<◌, ◌⊎◌, ℕ, true, List, [], ◌∷◌, Option, ⊤}
use Rattle.std.specs.Prelude.{Some, None, length, map}
use Rattle.connection_core.specs.Machine.{AreTold, Conn, Event, Came, Ended, Wrote, Broke, Passed}
use Rattle.connection_core.specs.Machine.{Settled, afters, answered}
use Rattle.server_core.specs.Host.{AppendsLines, HasSameClock, Line, Told}
use Rattle.connection_core.specs.declared.phase.Phase.TheVariants.{Ready, Lingering, Closed}

-- ---- one stream

-- it happens at this moment
abbrev pub IsAt : ℕ → Event → Type 0
IsAt now (Came said bytes) = ⊤
IsAt now Ended = ⊤
IsAt now (Wrote n at) = at ≡ now
IsAt now Broke = ⊤
IsAt now (Passed at) = at ≡ now
IsAt now Settled = ⊤

abbrev pub AreAt : ℕ → List Event → Type 0
AreAt now [] = ⊤
AreAt now (e ∷ es) = IsAt now e × AreAt now es

-- a connection moves by its own events, at this moment, and each head states what it is told to
abbrev pub Moves : (List ℕ → Option ℕ → Type 0) → ℕ → Conn → Conn → Type 0
Moves States now old new =
    (es : List Event) × AreAt now es × AreTold States old es × (new ≡ afters old es)

-- ---- one connection, and the desk

-- a message that was answered: at which minute, its reply, and what the log notes of it
pub record Answered : Type 0 where
  pub at : ℕ
  pub message : List ℕ
  pub reply : List ℕ
  pub note : List ℕ

-- A connection's turn at a moment. Where its message isn't answered it moves by its own events, and
-- the desk stays. Where it is, it moves until its message is whole, the desk makes the step of just
-- that message, and it moves on with just the reply of that step.
abbrev pub TakesTurn : {D : Type 0} → (List ℕ → Option ℕ → Type 0)
    → (D → Answered → D → Type 0) → ℕ → Option Answered → Conn → D → Conn → D → Type 0
TakesTurn States Steps now None old desk new next = Moves States now old new × (next ≡ desk)
TakesTurn States Steps now (Some a) old desk new next =
    (whole : Conn) × Moves States now old whole × (whole.phase ≡ Ready)
    × (whole.came ≡ a.message) × Steps desk a next
    × Moves States now (answered whole.more a.reply now) new

-- the steps of this minute
abbrev pub at_minute : {D : Type 0} → ℕ → (D → Answered → D → Type 0)
    → D → Answered → D → Type 0
at_minute minute Steps desk a next = (a.at ≡ minute) × Steps desk a next

-- it is over, or its deadline hasn't come
abbrev pub IsInTime : ℕ → Conn → Type 0
IsInTime now c = (c.phase ≡ Closed) ⊎ (now < c.deadline)

-- where its reply has gone out, more than its message came or may come
abbrev pub IsSettled : Conn → Type 0
IsSettled c = c.phase ≡ Lingering → c.more ≡ true

-- what each connection is after its turn at this moment
abbrev pub IsDone : ℕ → Conn → Type 0
IsDone now c = IsInTime now c × IsSettled c

-- ---- all connections, in the order of their places

abbrev pub TakeTurns : {D : Type 0} → (List ℕ → Option ℕ → Type 0)
    → (D → Answered → D → Type 0) → ℕ → List (Option Answered) → List Conn → D
    → List Conn → D → Type 0
TakeTurns {D} States Steps now [] [] desk [] next = next ≡ desk
TakeTurns {D} States Steps now (a ∷ ms) (old ∷ olds) desk (new ∷ news) next =
    (mid : D) × TakesTurn States Steps now a old desk new mid
    × TakeTurns States Steps now ms olds mid news next
TakeTurns {D} States Steps now ms olds desk news next = ⊥

-- the messages that were answered
abbrev pub somes : List (Option Answered) → List Answered
somes [] = []
somes (None ∷ ms) = somes ms
somes (Some a ∷ ms) = a ∷ somes ms

-- ---- what the host's log tells

-- what is told of a message beside its time: its minute, its note, and how long its reply is
abbrev pub line_of : Answered → Line
line_of a = record { minute = a.at; note = a.note; bytes = length a.reply }

-- a line for each of these messages, in their order, and nothing else
abbrev pub TellsLines : Told → Told → List Answered → Type 0
TellsLines old new answered =
    AppendsLines old.lines new.lines (map line_of answered) × HasSameClock old new
    × (new.failed ≡ old.failed)

-- the steps of a desk whose host tells of each
abbrev pub logged : {D : Type 0} → (D → Answered → D → Type 0)
    → D × Told → Answered → D × Told → Type 0
logged Steps old a new = Steps old.0 a new.0 × TellsLines old.1 new.1 (a ∷ [])
