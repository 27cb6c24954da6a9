-- What a counted listener has counted, and what it gives.
use Rattle.std.specs.Prelude.{◌≡◌, ◌+◌, ◌||◌, ℕ, ⊤, Bool, true, false, not, List, Option, Result}
use Rattle.std.specs.Prelude.{Ok, Err, is_none, is_some}
use Rattle.sqlite.specs.State.{State}
use Rattle.settings_core.specs.declared.settings.Settings.{Settings}
use Rattle.wire_core.specs.Steps.{StaysOn, StreamStepsOn}
use Rattle.wire_core.specs.declared.fault.ServeFault.{ServeFault}
use Rattle.wire_core.specs.declared.fault.ServeFault.TheVariants.{Read, Write, NoMemory}
use Rattle.desk_program.specs.declared.listening.Connection.{Connection}
use Rattle.desk_program.specs.declared.listening.CountedListener.{CountedListener}

-- how often it was asked for a connection
abbrev pub asked_of : {L : Type 0} → CountedListener L → ℕ
asked_of listener = listener.asked

-- how many connections were accepted
abbrev pub accepted_of : {L : Type 0} → CountedListener L → ℕ
accepted_of listener = listener.accepted

-- of how many connections the message was answered, though the reply may not have gone out whole
abbrev pub answered_of : {L : Type 0} → CountedListener L → ℕ
answered_of listener = listener.answered

-- in how many connections a read failed
abbrev pub unread_of : {L : Type 0} → CountedListener L → ℕ
unread_of listener = listener.unread

-- whether a connection couldn't be accepted
abbrev pub has_accept_failed : {L : Type 0} → CountedListener L → Bool
has_accept_failed listener = listener.failed

-- the minute at which a connection is answered
abbrev pub minute_of : {T : Type 0} → Connection T → ℕ
minute_of connection = connection.minute

-- ---- its calls

abbrev pub count_of : Bool → ℕ
count_of true = 1
count_of false = 0

-- it wasn't called so far
pub record IsUncalled {L : Type 0} (listener : CountedListener L) : Type 0 where
  pub asked : asked_of listener ≡ 0
  pub accepted : accepted_of listener ≡ 0
  pub answered : answered_of listener ≡ 0
  pub unread : unread_of listener ≡ 0
  pub failed : has_accept_failed listener ≡ false

-- a connection more that was accepted, or that couldn't be
pub record Accepts {L A : Type 0} (old new : CountedListener L) (connection : Option A) : Type 0
  where
    pub asked : asked_of new ≡ asked_of old + 1
    pub accepted : accepted_of new ≡ accepted_of old + count_of (is_some connection)
    pub failed : has_accept_failed new ≡ (is_none connection || has_accept_failed old)
    pub answered : answered_of new ≡ answered_of old
    pub unread : unread_of new ≡ unread_of old

-- the message of a connection was answered, though the reply may not have gone out whole
abbrev pub is_answered : Result ⊤ ServeFault → Bool
is_answered (Ok done) = true
is_answered (Err Write) = true
is_answered (Err NoMemory) = true
is_answered (Err Read) = false

-- a connection more that was answered, or in which a read failed
pub record Serves {L : Type 0} (old new : CountedListener L) (ended : Result ⊤ ServeFault) : Type 0
  where
    pub asked : asked_of new ≡ asked_of old
    pub accepted : accepted_of new ≡ accepted_of old
    pub failed : has_accept_failed new ≡ has_accept_failed old
    pub answered : answered_of new ≡ answered_of old + count_of (is_answered ended)
    pub unread : unread_of new ≡ unread_of old + count_of (not (is_answered ended))

-- The message step of what a connection sends, at that minute, whatever it sends and whatever was
-- left of it; or the desk stays, where a read failed.
abbrev pub AnswersAt : Settings → ℕ → Bool → State → State → Type 0
AnswersAt settings at true old new =
    (had : Option (List ℕ)) × (left : Option (List ℕ)) × (bytes : List ℕ)
    × StreamStepsOn settings at had left bytes old new
AnswersAt settings at false old new = StaysOn settings old new
