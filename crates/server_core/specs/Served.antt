-- What a server does, over all its turns.
use Rattle.std.specs.Prelude.{◌≡◌, ◌≢◌, ◌≤◌, ◌<◌, ◌-◌, ◌^◌, ◌⊎◌, ℕ, Bool, true, false, List, [], ◌∷◌, ◌++◌}
use Rattle.std.specs.Prelude.{Option, length, map, set, replicate}
use Rattle.connection_core.specs.Machine.{Conn, closed, opened}
use Rattle.connection_core.specs.declared.phase.Phase.TheVariants.{Ready, Writing, Lingering, Closed}
use Rattle.std.specs.Io.KnownBytes.{Appends}
use Rattle.server_core.specs.Calls.{Adds, Begins, Call, Io, from_place}
use Rattle.server_core.specs.Host.{AppendsLines, Told}
use Rattle.server_core.specs.Places.{Each}
use Rattle.server_core.specs.Rests.{Accept, AcceptsBy, IsPause, Known, Rest, accept_call, at_first}
use Rattle.server_core.specs.Rests.{may_answer, places_of, queue_then, rest_calls}
use Rattle.server_core.specs.Turns.{Answered, IsDone, TakeTurns, at_minute, line_of, somes}
use Rattle.server_core.specs.Wait.{IsToGiveWay, NoneGivesWay}
use Rattle.server_core.specs.Works.{Works, marked_at}
use Rattle.server_core.specs.declared.admit.Queue.TheVariants.{Full}
use Rattle.server_core.specs.declared.host.Readiness.{Readiness}
use Rattle.server_core.specs.declared.ending.Ending.{Ending}
use Rattle.server_core.specs.declared.ending.Ending.TheVariants.{Counted, Network, Shut, OutOfTurns}

-- a connection was accepted at each of these places in turn, at this moment
abbrev pub Admits : ℕ → List ℕ → List Conn → List Conn → Type 0
Admits now [] old new = new ≡ old
Admits now (place ∷ rest) old new =
    IsToGiveWay now place old × Admits now rest (set old place (opened now)) new

-- These accepts were asked for: connections were accepted where the network gave one, and their places
-- are marked.
abbrev pub IsAdmitted : Option (List Call) → Option (List Call) → ℕ → List Accept
    → List Conn → List Conn → List Readiness → List Readiness → Type 0
IsAdmitted calls called now accepts old new marks left =
    Admits now (places_of accepts) old new × Adds calls called (map accept_call accepts)
    × (left ≡ marked_at (places_of accepts) marks)

-- A turn: its moment and its minute, the places at which it accepts connections, and which messages
-- are answered then, in the order of the places. Before it there is a wait. In it connections are asked
-- for, and the stream at each place is read and written, in the order of the places. What is known then
-- holds until the next wait.
pub record Turn : Type 0 where
  pub now : ℕ
  pub minute : ℕ
  pub places : List ℕ
  pub answered : List (Option Answered)
  pub rest : Rest
  pub accepts : List Accept
  pub calls : List (List Io)
  pub left : Known

-- what the host tells of it
abbrev pub turn_calls : Turn → List Call
turn_calls t = rest_calls t.rest ++ (map accept_call t.accepts ++ from_place 0 t.calls)

-- In a turn connections are accepted, and then each has its turn, at the same moment. After it none
-- is left whose deadline has come, and none that is to be settled. A desk that was shut answers no
-- message; else each message that is whole is answered, unless as many were as were to be. The wait
-- before was just as long as there was nothing to do. The places are those at which the network gave a
-- connection; where a client is known to be left, none could be given to it. Each stream is read and
-- written where it is marked, by the wait or as a new one.
abbrev pub DoesTurn : {D : Type 0} → (List ℕ → Option ℕ → Type 0) → (D → Answered → D → Type 0)
    → (D → Bool) → ℕ → Turn → List Conn → D → List Conn → D → Type 0
DoesTurn States Steps shuts most t olds desk news next =
    (mids : List Conn) × Admits t.now t.places olds mids
    × TakeTurns States (at_minute t.minute Steps) t.now t.answered mids desk news next
    × Each (IsDone t.now) news
    × (shuts desk ≡ true → length (somes t.answered) ≡ 0)
    × (shuts desk ≡ false → length (somes t.answered) < most → Each (λ c. c.phase ≢ Ready) news)
    × IsPause t.rest olds
    × (t.places ≡ places_of t.accepts)
    × AcceptsBy (queue_then t.rest) (may_answer (shuts desk) most) t.accepts t.left.queue
    × (t.left.queue ≡ Full → NoneGivesWay t.now mids)
    × Works (marked_at t.places t.rest.marks) mids t.answered t.calls t.left.marks

-- it has these turns, one after the other, and answers at most so many messages
abbrev pub Serves : {D : Type 0} → (List ℕ → Option ℕ → Type 0) → (D → Answered → D → Type 0)
    → (D → Bool) → ℕ → List Turn → List Conn → D → List Conn → D → Type 0
Serves States Steps shuts most [] olds desk news next = (news ≡ olds) × (next ≡ desk)
Serves {D} States Steps shuts most (t ∷ ts) olds desk news next =
    (mids : List Conn) × (mid : D) × DoesTurn States Steps shuts most t olds desk mids mid
    × Serves States Steps shuts (most - length (somes t.answered)) ts mids mid news next

-- the messages that were answered, in their order
abbrev pub answers : List Turn → List Answered
answers [] = []
answers (t ∷ ts) = somes t.answered ++ answers ts

-- the moments and the minutes of its turns
abbrev pub nows : List Turn → List ℕ
nows ts = map (λ t. t.now) ts

abbrev pub minutes : List Turn → List ℕ
minutes ts = map (λ t. t.minute) ts

-- the host told these moments and minutes, and its log has these messages
abbrev pub TellsAll : Told → Told → List ℕ → List ℕ → List Answered → Type 0
TellsAll old new moments minutes answered =
    Appends old.moments new.moments moments × Appends old.minutes new.minutes minutes
    × AppendsLines old.lines new.lines (map line_of answered)

-- what is known before each wait is what was left after the turn before
abbrev pub AreLinked : Known → List Turn → Known → Type 0
AreLinked known [] left = left ≡ known
AreLinked known (t ∷ ts) left = (t.rest.known ≡ known) × AreLinked t.left ts left

-- all that the host tells of them
abbrev pub turns_calls : List Turn → List Call
turns_calls [] = []
turns_calls (t ∷ ts) = turn_calls t ++ turns_calls ts

-- A server of so many places that began with no connection has answered so many messages in so many
-- turns. Their moments and minutes are those that its host told, one each, and its log has a line for
-- each message. What it asked of the network is what its host told, and nothing else.
abbrev pub ServesFrom : {D : Type 0} → (List ℕ → Option ℕ → Type 0)
    → (D → Answered → D → Type 0) → (D → Bool) → Told → Told
    → Option (List Call) → Option (List Call) → ℕ → ℕ → D → List Conn → D
    → Known → ℕ → ℕ → Type 0
ServesFrom States Steps shuts told tells calls called places most desk news next left count turns =
    (ts : List Turn) × Serves States Steps shuts most ts (replicate places closed) desk news next
    × (length (answers ts) ≡ count) × (length ts ≡ turns)
    × TellsAll told tells (nows ts) (minutes ts) (answers ts)
    × AreLinked (at_first places) ts left × Adds calls called (turns_calls ts)

-- after this wait connections are accepted, and then each has its turn, in which so many messages are
-- answered
abbrev pub GoesOn : {D : Type 0} → (List ℕ → Option ℕ → Type 0) → (D → Answered → D → Type 0)
    → (D → Bool) → Told → Told → Option (List Call) → Option (List Call) → ℕ → Rest
    → List Conn → D → List Conn → D → Known → ℕ → Type 0
GoesOn States Steps shuts told tells calls called most rest olds desk news next left count =
    (t : Turn) × (t.rest ≡ rest) × (t.left ≡ left)
    × DoesTurn States Steps shuts most t olds desk news next
    × (length (somes t.answered) ≡ count)
    × TellsAll told tells (t.now ∷ []) (t.minute ∷ []) (somes t.answered)
    × Adds calls called (map accept_call t.accepts ++ from_place 0 t.calls)

-- no reply is on its way
abbrev pub IsStill : Conn → Type 0
IsStill c = (c.phase ≢ Writing) × (c.phase ≢ Lingering)

-- It ends by its count exactly where it has answered as many messages as it was to, and where the
-- desk is shut only where that is, both once the replies have gone out; for the network only where a
-- wait has failed, or sixteen accepts in a row, with no connection left; and else only after 2^64 - 1 turns.
abbrev pub EndsAt : Ending → ℕ → ℕ → ℕ → Bool → Told → List Conn → Type 0
EndsAt Counted most count turns shut tells news = (count ≡ most) × Each IsStill news
EndsAt Network most count turns shut tells news =
    (count ≤ most)
    × ((tells.wait_failed ≡ true)
    ⊎ ((16 ≤ tells.failed) × Each (λ c. c.phase ≡ Closed) news))
EndsAt Shut most count turns shut tells news = (count < most) × (shut ≡ true) × Each IsStill news
EndsAt OutOfTurns most count turns shut tells news = (count ≤ most) × (turns ≡ 2 ^ 64 - 1)

-- nothing was asked of the network after its last turn, but a wait that failed
abbrev pub EndsCalls : Option (List Call) → Option (List Call) → Type 0
EndsCalls calls called = Adds calls called [] ⊎ ((began : ℕ) × Adds calls called (Begins began ∷ []))

-- what a server of so many places, which answers at most so many messages, has done when it ends
abbrev pub IsServed : {D : Type 0} → (List ℕ → Option ℕ → Type 0) → (D → Answered → D → Type 0)
    → (D → Bool) → Told → Told → Option (List Call) → Option (List Call) → ℕ → ℕ → D → Ending → D
    → Type 0
IsServed States Steps shuts told tells calls called places most desk ending next =
    (news : List Conn) × (left : Known) × (count : ℕ) × (turns : ℕ) × (last : Option (List Call))
    × ServesFrom States Steps shuts told tells calls last places most desk news next left count turns
    × EndsAt ending most count turns (shuts next) tells news
    × EndsCalls last called

-- ---- the desk alone

-- the desk makes the steps of these messages, one after the other
abbrev pub Runs : {D : Type 0} → (D → Answered → D → Type 0) → List Answered → D → D
    → Type 0
Runs Steps [] desk next = next ≡ desk
Runs {D} Steps (a ∷ rest) desk next =
    (mid : D) × Steps desk a mid × Runs Steps rest mid next
