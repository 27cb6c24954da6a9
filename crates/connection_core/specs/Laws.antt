-- The words of the laws on connections.
use Rattle.std.specs.Prelude.{◌≡◌, ◌≤◌, ◌<◌, ℕ, ◌+◌, Bool, true, false, List, [], ◌∷◌, ◌++◌, length}
use Rattle.std.specs.Prelude.{take, Option, IfSome, ⊤}
use Rattle.connection_core.specs.Machine.{Conn, Event, Came, Ended, Wrote, Broke, Passed, Settled, after, afters}
use Rattle.connection_core.specs.Machine.{takes}
use Rattle.connection_core.specs.declared.phase.Part.TheVariants.{Blank, Line, Start, Return, Body}
use Rattle.connection_core.specs.declared.phase.Phase.{Phase}
use Rattle.connection_core.specs.declared.phase.Phase.TheVariants.{Reading, Ready, Writing}
use Rattle.connection_core.specs.declared.phase.Phase.TheVariants.{Lingering, Closed}

-- it was answered, or dropped: it takes no message any more
abbrev pub is_over : Phase → Bool
is_over (Reading part) = false
is_over Ready = false
is_over Writing = true
is_over Lingering = true
is_over Closed = true

-- no head has more than 8,192 bytes, and no body more than the limit: so many bytes are held in a
-- phase
abbrev pub HoldsAtMost : ℕ → Phase → ℕ → Type 0
HoldsAtMost limit (Reading (Body missing)) n = (0 < missing) × (n + missing ≤ 8192 + limit)
HoldsAtMost limit (Reading Blank) n = n < 8192
HoldsAtMost limit (Reading Line) n = n < 8192
HoldsAtMost limit (Reading Start) n = n < 8192
HoldsAtMost limit (Reading Return) n = n < 8192
HoldsAtMost limit Ready n = n ≤ 8192 + limit
HoldsAtMost limit Writing n = n ≡ 0
HoldsAtMost limit Lingering n = n ≡ 0
HoldsAtMost limit Closed n = n ≡ 0

abbrev pub IsBounded : ℕ → Conn → Type 0
IsBounded limit c = HoldsAtMost limit c.phase (length c.came)

-- no body is longer than the limit
abbrev pub StatesAtMost : ℕ → (List ℕ → Option ℕ → Type 0) → Type 0
StatesAtMost limit States =
    (head : List ℕ) (said : Option ℕ) → States head said → IfSome said (λ n. n ≤ limit)

-- ---- what comes

-- the bytes that come in these events
abbrev pub sent_in : Event → List ℕ
sent_in (Came said bytes) = bytes
sent_in Ended = []
sent_in (Wrote n now) = []
sent_in Broke = []
sent_in (Passed now) = []
sent_in Settled = []

abbrev pub sent_by : List Event → List ℕ
sent_by [] = []
sent_by (e ∷ es) = sent_in e ++ sent_by es

abbrev pub IsFront : List ℕ → List ℕ → Type 0
IsFront front whole = (rest : List ℕ) × (whole ≡ front ++ rest)

-- the bytes that come were taken up to some place, and the rest was passed over
abbrev pub TakesFront : Option ℕ → Conn → List ℕ → Type 0
TakesFront said c bytes =
    (front : List ℕ) × (rest : List ℕ) × (bytes ≡ front ++ rest)
    × ((takes said c bytes).came ≡ c.came ++ front)

-- ---- what is written

abbrev pub written_in : Phase → List ℕ → Event → List ℕ
written_in Writing left (Wrote n now) = take n left
written_in Writing left (Came said bytes) = []
written_in Writing left Ended = []
written_in Writing left Broke = []
written_in Writing left (Passed now) = []
written_in Writing left Settled = []
written_in (Reading part) left e = []
written_in Ready left e = []
written_in Lingering left e = []
written_in Closed left e = []

-- the bytes that are written in these events
abbrev pub written : Conn → List Event → List ℕ
written c [] = []
written c (e ∷ es) = written_in c.phase c.left e ++ written (after c e) es

-- what of a reply isn't written: what is left of it; nothing, where it has gone out whole
abbrev pub IsUnwritten : Phase → List ℕ → List ℕ → Type 0
IsUnwritten Writing left rest = rest ≡ left
IsUnwritten Lingering left rest = rest ≡ []
IsUnwritten Closed left rest = ⊤
IsUnwritten (Reading part) left rest = ⊤
IsUnwritten Ready left rest = ⊤

-- a front of a reply is written, in the order of its bytes
abbrev pub WritesFront : List ℕ → Conn → List Event → Type 0
WritesFront reply c es =
    (rest : List ℕ) × (reply ≡ written c es ++ rest)
    × IsUnwritten (afters c es).phase (afters c es).left rest
