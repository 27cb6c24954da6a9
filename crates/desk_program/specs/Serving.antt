-- A server: connections that are answered one after the other.
use Rattle.std.specs.Prelude.{◌≡◌, ◌<◌, ◌+◌, ℕ, Bool, true, false, not, List, [], ◌∷◌, length}
use Rattle.std.specs.Prelude.{Option}
use Rattle.sqlite.specs.State.{State}
use Rattle.settings_core.specs.declared.settings.Settings.{Settings}
use Rattle.desk_model.specs.Desk.{Desk}
use Rattle.service_core.specs.TableSteps.{OverTables}
use Rattle.wire_core.specs.Steps.{StreamSteps}
use Rattle.desk_program.specs.Listening.{accepted_of, answered_of, asked_of, count_of}
use Rattle.desk_program.specs.Listening.{has_accept_failed}
use Rattle.desk_program.specs.Listening.{unread_of}
use Rattle.desk_program.specs.declared.listening.CountedListener.{CountedListener}

-- a connection whose message was answered: the message step of what it sends, at some minute; or
-- one in which a read failed: nothing
abbrev pub AnswersConnection : Settings → Bool → Desk → Desk → Type 0
AnswersConnection settings true old new =
    (at : ℕ) × (had : Option (List ℕ)) × (left : Option (List ℕ)) × (bytes : List ℕ)
    × StreamSteps settings at had left old bytes new
AnswersConnection settings false old new = new ≡ old

-- connections, the last one first, each from the desk that the one before left
abbrev pub AnswersConnections : Settings → List Bool → Desk → Desk → Type 0
AnswersConnections settings [] old new = new ≡ old
AnswersConnections settings (answered ∷ earlier) old new =
    (mid : Desk) × AnswersConnections settings earlier old mid
    × AnswersConnection settings answered mid new

abbrev pub answered_in : List Bool → ℕ
answered_in [] = 0
answered_in (answered ∷ earlier) = answered_in earlier + count_of answered

abbrev pub unread_in : List Bool → ℕ
unread_in [] = 0
unread_in (answered ∷ earlier) = unread_in earlier + count_of (not answered)

-- The desk was led by just the connections that were accepted. So many were answered as the
-- listener has counted, and in so many a read failed.
pub record AnswersAll {L : Type 0} (settings : Settings) (listener : CountedListener L)
    (old new : State) : Type 0 where
  pub connections : List Bool
  pub accepted : length connections ≡ accepted_of listener
  pub answered : answered_in connections ≡ answered_of listener
  pub unread : unread_in connections ≡ unread_of listener
  pub led : OverTables settings (λ desk after. AnswersConnections settings connections desk after) old
      new

-- all connections were accepted, with status 0; or one of them couldn't be, with status 4, and no
-- other was asked for after it
abbrev pub IsStatus : Bool → ℕ → ℕ → ℕ → ℕ → Type 0
IsStatus false count asked accepted status =
    (accepted ≡ count) × (asked ≡ count) × (status ≡ 0)
IsStatus true count asked accepted status =
    (accepted < count) × (asked ≡ accepted + 1) × (status ≡ 4)

-- a server has ended that was to answer so many connections
pub record IsEnded {L : Type 0} (settings : Settings) (count status : ℕ)
    (listener : CountedListener L) (old new : State) : Type 0 where
  pub told : IsStatus (has_accept_failed listener) count (asked_of listener) (accepted_of listener)
      status
  pub all : AnswersAll settings listener old new
