-- How a server waits between two turns, and what it knows then of the clients that wait.
use Rattle.std.specs.Prelude.{◌≡◌, ◌≤◌, ℕ, zero, suc, Bool, true, false, List, [], ◌∷◌, length}
use Rattle.std.specs.Prelude.{replicate, nat_lt, if◌then◌else◌}
use Rattle.connection_core.specs.Machine.{Conn}
use Rattle.server_core.specs.Calls.{Accepted, Accepts, Begins, Call, Comes, Fails, Nobody, Waits}
use Rattle.server_core.specs.Wait.{begins, is_full, pauses}
use Rattle.server_core.specs.Works.{unmarked}
use Rattle.server_core.specs.declared.admit.Queue.{Queue}
use Rattle.server_core.specs.declared.admit.Queue.TheVariants.{Empty, More, Full, Held, Unknown}
use Rattle.server_core.specs.declared.host.Readiness.{Readiness}

-- what is known after a turn: whether clients wait, and for what each place is marked
pub record Known : Type 0 where
  pub queue : Queue
  pub marks : List Readiness

-- before the first turn of so many places
abbrev pub at_first : ℕ → Known
at_first places = record { queue = More; marks = replicate places unmarked }

-- A wait: what was known before it, the moment at which it began, for how many milliseconds it was at
-- most, the marks that it gave back, and whether it told that a connection may wait.
pub record Rest : Type 0 where
  pub known : Known
  pub began : ℕ
  pub pause : ℕ
  pub marks : List Readiness
  pub comes : Bool

-- what the host tells of it
abbrev pub rest_calls : Rest → List Call
rest_calls rest =
    Begins rest.began ∷ Waits rest.pause rest.known.marks rest.marks rest.comes ∷ []

-- it waits just for as long as there is nothing to do with these connections, each of which has a mark
abbrev pub IsPause : Rest → List Conn → Type 0
IsPause rest cs =
    (length cs ≤ length rest.known.marks)
    × (rest.pause
    ≡ pauses (is_full rest.known.queue) rest.began (begins rest.known.queue) cs rest.known.marks)

-- whether clients wait, after it
abbrev pub queue_then : Rest → Queue
queue_then rest = if rest.comes then More else rest.known.queue

-- ---- accepting

pub record Accept : Type 0 where
  pub place : ℕ
  pub answer : Accepted

abbrev pub accept_call : Accept → Call
accept_call a = Accepts a.place a.answer

-- the place, where it answered a connection, and then these
abbrev pub place_of : Accepted → ℕ → List ℕ → List ℕ
place_of Comes place places = place ∷ places
place_of Nobody place places = places
place_of Fails place places = places

-- the places at which connections were accepted
abbrev pub places_of : List Accept → List ℕ
places_of [] = []
places_of (a ∷ rest) = place_of a.answer a.place (places_of rest)

-- what one accept tells of the clients
abbrev pub queue_of : Accepted → Queue
queue_of Comes = More
queue_of Nobody = Empty
queue_of Fails = Unknown

-- one accept, if a place could be given
abbrev pub IsAccept : List Accept → Queue → Type 0
IsAccept [] queue = queue ≡ Full
IsAccept (a ∷ rest) queue = (rest ≡ []) × (queue ≡ queue_of a.answer)

-- what the network answered decides: it goes on by a connection alone
abbrev pub GoesBy : Accepted → Type 0 → List Accept → Queue → Type 0
GoesBy Comes Then rest queue = Then
GoesBy Nobody Then rest queue = (rest ≡ []) × (queue ≡ Empty)
GoesBy Fails Then rest queue = (rest ≡ []) × (queue ≡ Unknown)

-- So many are accepted at most, and what is known of the clients then: more may wait, if so many were
-- accepted; one may, and no place could be given to it; none does; or the network didn't say.
abbrev pub AreAccepts : ℕ → List Accept → Queue → Type 0
AreAccepts zero accepts queue = (accepts ≡ []) × (queue ≡ More)
AreAccepts (suc n) [] queue = queue ≡ Full
AreAccepts (suc n) (a ∷ rest) queue = GoesBy a.answer (AreAccepts n rest queue) rest queue

-- at most 32 in a turn; none where no message may be answered any more
abbrev pub AcceptsIf : Bool → List Accept → Queue → Type 0
AcceptsIf true accepts queue = AreAccepts 32 accepts queue
AcceptsIf false accepts queue = (accepts ≡ []) × (queue ≡ Held)

-- none, too, where no client waits
abbrev pub AcceptsBy : Queue → Bool → List Accept → Queue → Type 0
AcceptsBy Empty may accepts queue = (accepts ≡ []) × (queue ≡ Empty)
AcceptsBy More may accepts queue = AcceptsIf may accepts queue
AcceptsBy Full may accepts queue = AcceptsIf may accepts queue
AcceptsBy Held may accepts queue = AcceptsIf may accepts queue
AcceptsBy Unknown may accepts queue = AcceptsIf may accepts queue

-- whether a message may be answered: the desk isn't shut, and the count isn't reached
abbrev pub may_answer : Bool → ℕ → Bool
may_answer true most = false
may_answer false most = nat_lt 0 most
