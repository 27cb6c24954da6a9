-- Which connection gives way to a new one, and for how long is waited.
use Rattle.std.specs.Prelude.{◌≡◌, ◌≢◌, ◌≤◌, ◌<◌, ◌⊎◌, ◌+◌, ◌-◌, ℕ, Bool, true, false, List, [], ◌∷◌}
use Rattle.std.specs.Prelude.{Option, Some, None, min, nat_le, length, get_or, if◌then◌else◌}
use Rattle.connection_core.specs.Machine.{Conn, closed}
use Rattle.connection_core.specs.declared.phase.Phase.{Phase}
use Rattle.connection_core.specs.declared.phase.Phase.TheVariants.{Reading, Ready, Writing}
use Rattle.connection_core.specs.declared.phase.Phase.TheVariants.{Lingering, Closed}
use Rattle.server_core.specs.Places.{Each}
use Rattle.server_core.specs.declared.admit.Kind.{Kind}
use Rattle.server_core.specs.declared.admit.Kind.TheVariants.{Lingers, Reads}
use Rattle.server_core.specs.declared.admit.Queue.{Queue}
use Rattle.server_core.specs.declared.admit.Queue.TheVariants.{Empty, More, Full, Held, Unknown}
use Rattle.server_core.specs.declared.admit.Waiting.{Waiting}
use Rattle.server_core.specs.declared.host.Readiness.{Readiness}

-- its message isn't whole
abbrev pub reads : Phase → Bool
reads (Reading part) = true
reads Ready = false
reads Writing = false
reads Lingering = false
reads Closed = false

-- its reply has gone out
abbrev pub lingers : Phase → Bool
lingers (Reading part) = false
lingers Ready = false
lingers Writing = false
lingers Lingering = true
lingers Closed = false

abbrev pub is_of : Kind → Phase → Bool
is_of Lingers p = lingers p
is_of Reads p = reads p

-- none is to be dropped sooner of those of its kind
abbrev pub IsSoonest : Kind → Conn → List Conn → Type 0
IsSoonest kind c cs =
    (is_of kind c.phase ≡ true)
    × Each (λ other. is_of kind other.phase ≡ true → c.deadline ≤ other.deadline) cs

abbrev pub NoneIs : Kind → List Conn → Type 0
NoneIs kind cs = Each (λ c. is_of kind c.phase ≡ false) cs

-- none is free, and of those whose reply has gone out it has lingered longest
abbrev pub HasLingeredLongest : Conn → List Conn → Type 0
HasLingeredLongest c cs = Each (λ other. other.phase ≢ Closed) cs × IsSoonest Lingers c cs

-- None is free, and none lingers. Its message isn't whole, no other such one is to be dropped sooner,
-- and it was accepted a quarter of a second ago or more, of its thirty seconds.
abbrev pub HasWaitedLongest : ℕ → Conn → List Conn → Type 0
HasWaitedLongest now c cs =
    Each (λ other. other.phase ≢ Closed) cs × NoneIs Lingers cs × IsSoonest Reads c cs
    × (c.deadline ≤ now + 29750)

-- at this moment it is free, or it has lingered longest, or it has waited longest
abbrev pub IsToGiveWay : ℕ → ℕ → List Conn → Type 0
IsToGiveWay now place cs =
    (place < length cs)
    × (((get_or cs place closed).phase ≡ Closed)
    ⊎ HasLingeredLongest (get_or cs place closed) cs
    ⊎ HasWaitedLongest now (get_or cs place closed) cs)

-- at this moment no place could be given to a client
abbrev pub NoneGivesWay : ℕ → List Conn → Type 0
NoneGivesWay now cs = (place : ℕ) → IsToGiveWay now place cs → ⊥

-- ---- of some connections so far

abbrev pub sooner_of : Option Waiting → Waiting → Option Waiting
sooner_of None w = Some w
sooner_of (Some b) w = if nat_le b.deadline w.deadline then Some b else Some w

abbrev pub longer_in : Kind → Phase → Option Waiting → ℕ → ℕ → Option Waiting
longer_in kind p best deadline place =
    if is_of kind p then sooner_of best (record { place = place; deadline = deadline }) else best

abbrev pub IsLongest : Kind → Option Waiting → List Conn → Type 0
IsLongest kind None cs = NoneIs kind cs
IsLongest kind (Some w) cs =
    (w.place < length cs) × (is_of kind (get_or cs w.place closed).phase ≡ true)
    × ((get_or cs w.place closed).deadline ≡ w.deadline)
    × Each (λ c. is_of kind c.phase ≡ true → w.deadline ≤ c.deadline) cs

-- ---- for how long is waited, in milliseconds

-- a client may wait, and no place could be given to it
abbrev pub is_full : Queue → Bool
is_full Empty = false
is_full More = false
is_full Full = true
is_full Held = false
is_full Unknown = false

-- where nothing is known of the connections
abbrev pub begins : Queue → ℕ
begins Empty = 60000
begins More = 0
begins Full = 60000
begins Held = 60000
begins Unknown = 100

-- until a connection gives way to a client that waits
abbrev pub gives_in : ℕ → Conn → Phase → ℕ
gives_in now c (Reading part) = c.deadline - 29750 - now
gives_in now c Ready = c.deadline - now
gives_in now c Writing = c.deadline - now
gives_in now c Lingering = 0
gives_in now c Closed = 0

-- until there is something to do with a connection, if nothing happens
abbrev pub idles : ℕ → Conn → Readiness → Phase → ℕ
idles now c mark (Reading part) = if mark.readable then 0 else c.deadline - now
idles now c mark Ready = c.deadline - now
idles now c mark Writing = if mark.writable then 0 else c.deadline - now
idles now c mark Lingering = if mark.readable then 0 else c.deadline - now
idles now c mark Closed = 60000

abbrev pub pause_at : Bool → ℕ → Conn → Readiness → ℕ
pause_at full now c mark =
    if full then min (gives_in now c c.phase) (idles now c mark c.phase)
    else idles now c mark c.phase

-- the least of all
abbrev pub pauses : Bool → ℕ → ℕ → List Conn → List Readiness → ℕ
pauses full now pause [] marks = pause
pauses full now pause (c ∷ cs) [] = pause
pauses full now pause (c ∷ cs) (m ∷ ms) =
    pauses full now (min pause (pause_at full now c m)) cs ms
