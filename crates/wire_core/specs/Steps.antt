-- A message step: from a stream and a desk to the bytes of a reply and the desk afterwards.
use Rattle.std.specs.Prelude.{◌≡◌, ◌⊎◌, ℕ, Bool, List, Option, Result, Ok, Err, codes, take}
use Rattle.sqlite.specs.State.{State}
use Rattle.settings_core.specs.declared.settings.Settings.{Settings}
use Rattle.desk_model.specs.Desk.{Desk}
use Rattle.desk_model.specs.Step.{Ask, Outcome}
use Rattle.message_core.specs.Message.{Reads}
use Rattle.message_core.specs.Reply.{bytes_of, unavailable}
use Rattle.message_core.specs.declared.fault.WireFault.{WireFault}
use Rattle.message_core.specs.declared.fault.WireFault.TheVariants.{NoMemory}
use Rattle.message_core.specs.declared.message.Message.{Message}
use Rattle.route_core.specs.Commands.{Asked, asked_of}
use Rattle.service_core.specs.TableSteps.{IsStep, OverTables, ask_by}
use Rattle.store_tables.specs.Calls.{LeavesTables}
use Rattle.wire_core.specs.Replies.{TellsFault, is_head, outcome_reply, unasked_reply}

-- out of memory nothing is done, and the reply says so
abbrev pub LeavesOut : Bool → Desk → List ℕ → Desk → Type 0
LeavesOut head_only old bytes new =
    (bytes ≡ bytes_of (unavailable head_only)) × (new ≡ old)

-- the step of a command, and the reply with what came of it
abbrev pub IsDone : Settings → Ask → Bool → Desk → List ℕ → Desk → Type 0
IsDone settings ask head_only old bytes new =
    (outcome : Outcome) × IsStep settings ask old outcome new
    × (bytes ≡ bytes_of (outcome_reply head_only outcome))

-- the step of the command that is asked for; or nothing is done, and the reply tells why
abbrev pub CommandSteps : Settings → ℕ → Message → Asked → Desk → List ℕ → Desk → Type 0
CommandSteps settings at message (Err unasked) old bytes new =
    (bytes ≡ bytes_of (unasked_reply (is_head message) unasked)) × (new ≡ old)
CommandSteps settings at message (Ok asked) old bytes new =
    IsDone settings (ask_by at asked.0 asked.1) (is_head message) old bytes new

-- a message is left out, or what it asks for is done
abbrev pub MessageSteps : Settings → ℕ → Message → Desk → List ℕ → Desk → Type 0
MessageSteps settings at message old bytes new =
    LeavesOut (is_head message) old bytes new
    ⊎ CommandSteps settings at message (asked_of settings message) old bytes new

-- What reading a stream gave, of which this is left: a message or its fault; or it was out of
-- memory, whatever is left.
abbrev pub WasRead : Option (List ℕ) → Option (List ℕ) → Result Message WireFault → Type 0
WasRead had left read = (read ≡ Err NoMemory) ⊎ Reads had left read

-- what was read: a fault is told, or that there was no memory, and nothing is done; or a message is
-- answered, a HEAD without a body whatever its reply is
abbrev pub ReadSteps : Settings → ℕ → Result Message WireFault → Desk → List ℕ → Desk → Type 0
ReadSteps settings at (Err fault) old bytes new = TellsFault fault bytes × (new ≡ old)
ReadSteps settings at (Ok message) old bytes new = MessageSteps settings at message old bytes new

-- the message step of a stream of which this is left afterwards
abbrev pub StreamSteps : Settings → ℕ → Option (List ℕ) → Option (List ℕ) → Desk → List ℕ → Desk
    → Type 0
StreamSteps settings at had left old bytes new =
    (read : Result Message WireFault) × WasRead had left read
    × ReadSteps settings at read old bytes new

-- the reply begins with the bytes of 503
abbrev pub IsUnavailable : List ℕ → Type 0
IsUnavailable bytes = take 12 bytes ≡ codes "HTTP/1.1 503"

-- ---- over whatever tables

-- the desk that they stand for stays, if they stand for one
abbrev pub StaysOn : Settings → State → State → Type 0
StaysOn settings = OverTables settings (λ desk after. after ≡ desk)

-- the step of a command on the desk that they stand for, and the reply with what came of it
abbrev pub IsDoneOn : Settings → Ask → Bool → List ℕ → State → State → Type 0
IsDoneOn settings ask head_only bytes =
    OverTables settings (λ desk after. IsDone settings ask head_only desk bytes after)

-- a message that was left out: where it asks for no command, all tables are as they were
abbrev pub LeavesOn : Settings → Asked → State → State → Type 0
LeavesOn settings (Err unasked) old new = LeavesTables old new
LeavesOn settings (Ok asked) old new = StaysOn settings old new

-- what a message asks for was done; or it asks for no command, the reply tells why, and all tables
-- are as they were
abbrev pub CommandStepsOn : Settings → ℕ → Message → Asked → List ℕ → State → State → Type 0
CommandStepsOn settings at message (Err unasked) bytes old new =
    (bytes ≡ bytes_of (unasked_reply (is_head message) unasked)) × LeavesTables old new
CommandStepsOn settings at message (Ok asked) bytes old new =
    IsDoneOn settings (ask_by at asked.0 asked.1) (is_head message) bytes old new

-- it was left out, or that
abbrev pub MessageStepsOn : Settings → ℕ → Message → List ℕ → State → State → Type 0
MessageStepsOn settings at message bytes old new =
    ((bytes ≡ bytes_of (unavailable (is_head message)))
    × LeavesOn settings (asked_of settings message) old new)
    ⊎ CommandStepsOn settings at message (asked_of settings message) bytes old new

-- the same of what was read: a fault leaves all tables as they were
abbrev pub ReadStepsOn : Settings → ℕ → Result Message WireFault → List ℕ → State → State → Type 0
ReadStepsOn settings at (Err fault) bytes old new = TellsFault fault bytes × LeavesTables old new
ReadStepsOn settings at (Ok message) bytes old new =
    MessageStepsOn settings at message bytes old new

-- The message step of a stream. Whether its message asks for a command, and the reply where it
-- asks for none, doesn't hang on the tables.
abbrev pub StreamStepsOn : Settings → ℕ → Option (List ℕ) → Option (List ℕ) → List ℕ → State
    → State → Type 0
StreamStepsOn settings at had left bytes old new =
    (read : Result Message WireFault) × WasRead had left read
    × ReadStepsOn settings at read bytes old new
