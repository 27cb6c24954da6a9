-- What a server asks of its network, as its host tells it.
use Rattle.std.specs.Prelude.{◌≡◌, ℕ, suc, ⊤, Bool, true, false, List, [], ◌∷◌, ◌++◌, ◌+◌, ◌==◌, map}
use Rattle.std.specs.Prelude.{Option, Some, None, is_none, if◌then◌else◌}
use Rattle.std.specs.declared.result.Result.{Result}
use Rattle.std.specs.declared.result.Result.TheVariants.{Ok, Err}
use Rattle.server_core.specs.declared.host.Readiness.{Readiness}

-- one read or write of a stream: how many bytes came or were taken, if it didn't fail
pub data Io : Type 0 where
  Reads : Option ℕ → Io
  Writes : Option ℕ → Io

-- what an accept answered: a connection, that none waits, or a fault
pub data Accepted : Type 0 where
  Comes : Accepted
  Nobody : Accepted
  Fails : Accepted

pub data Call : Type 0 where
  -- the moment at which a wait begins
  Begins : ℕ → Call
  -- a wait for so many milliseconds at most, with these marks: those that it gave back, and whether a
  -- connection may wait
  Waits : ℕ → List Readiness → List Readiness → Bool → Call
  -- an accept for this place
  Accepts : ℕ → Accepted → Call
  -- a call of the stream at this place
  At : ℕ → Io → Call

-- the calls grow by these, where they are kept
abbrev pub Adds : Option (List Call) → Option (List Call) → List Call → Type 0
Adds None new calls = ⊤
Adds (Some xs) None calls = ⊥
Adds (Some xs) (Some ys) calls = ys ≡ xs ++ calls

-- ---- what is told of an answer

abbrev pub got_of : {E : Type 0} → Result ℕ E → Option ℕ
got_of (Ok count) = Some count
got_of (Err e) = None

abbrev pub given_of : {S : Type 0} → Option S → Accepted
given_of (Some stream) = Comes
given_of None = Nobody

abbrev pub accepted_of : {S E : Type 0} → Result (Option S) E → Accepted
accepted_of (Ok given) = given_of given
accepted_of (Err e) = Fails

-- ---- the calls of streams

abbrev pub at_place : ℕ → List Io → List Call
at_place place ios = map (λ io. At place io) ios

-- those of the streams at this place and the next ones, in the order of the places
abbrev pub from_place : ℕ → List (List Io) → List Call
from_place place [] = []
from_place place (ios ∷ rest) = at_place place ios ++ from_place (suc place) rest

abbrev pub how_many : (Io → Bool) → List Io → ℕ
how_many is [] = 0
how_many is (io ∷ ios) = (if is io then 1 else 0) + how_many is ios

abbrev pub is_read : Io → Bool
is_read (Reads got) = true
is_read (Writes took) = false

abbrev pub is_write : Io → Bool
is_write (Reads got) = false
is_write (Writes took) = true

-- it failed
abbrev pub is_failed_read : Io → Bool
is_failed_read (Reads got) = is_none got
is_failed_read (Writes took) = false

-- it failed, or nothing was taken
abbrev pub is_idle : Option ℕ → Bool
is_idle None = true
is_idle (Some count) = count == 0

abbrev pub is_idle_write : Io → Bool
is_idle_write (Reads got) = false
is_idle_write (Writes took) = is_idle took
