-- A list of messages, each with its moment.
use Rattle.std.specs.Prelude.{◌≡◌, ℕ, List, [], ◌∷◌, Option, Some, Result, Ok, Err, Vec, map}
use Rattle.sqlite.specs.State.{State}
use Rattle.settings_core.specs.declared.settings.Settings.{Settings}
use Rattle.desk_model.specs.Desk.{Desk}
use Rattle.desk_model.specs.Step.{RunsBy}
use Rattle.service_core.specs.TableSteps.{OverTables}
use Rattle.store_tables.specs.Calls.{LeavesTables, WasClean}
use Rattle.wire_core.specs.Steps.{StreamSteps, StreamStepsOn}
use Rattle.wire_core.specs.declared.fault.ServeFault.{ServeFault}
use Rattle.wire_core.specs.declared.fault.ServeFault.TheVariants.{Read, Write, NoMemory}

-- a moment, and the bytes of a message
abbrev pub Sent : Type 0
Sent = ℕ × List ℕ

abbrev pub Replied : Type 0
Replied = Result (List ℕ) ServeFault

-- the bytes of the reply, after the step of the message; or nothing is done where it was out of memory
abbrev pub IsReplyTo : Settings → Sent → Desk → Replied → Desk → Type 0
IsReplyTo settings sent old (Ok bytes) new =
    (left : Option (List ℕ)) × StreamSteps settings sent.0 (Some sent.1) left old bytes new
IsReplyTo settings sent old (Err NoMemory) new = new ≡ old
IsReplyTo settings sent old (Err Read) new = ⊥
IsReplyTo settings sent old (Err Write) new = ⊥

-- ---- over whatever tables

-- the reply to a message; out of memory all tables are as they were
abbrev pub IsReplyOver : Settings → Sent → Replied → State → State → Type 0
IsReplyOver settings sent (Ok bytes) old new =
    (left : Option (List ℕ)) × StreamStepsOn settings sent.0 (Some sent.1) left bytes old new
IsReplyOver settings sent (Err NoMemory) old new = LeavesTables old new
IsReplyOver settings sent (Err Read) old new = ⊥
IsReplyOver settings sent (Err Write) old new = ⊥

-- one reply for each message, each of the desk that the one before left, whatever its tables are
abbrev pub RunsOver : {D : Type 0} → (D → State) → Settings → List Sent → List Replied → D → D
    → Type 0
RunsOver tables settings [] [] old new = new ≡ old
RunsOver {D} tables settings (sent ∷ others) (reply ∷ replies) old new =
    (mid : D) × IsReplyOver settings sent reply (tables old) (tables mid)
    × WasClean (tables old) (tables mid) × RunsOver tables settings others replies mid new
RunsOver tables settings [] (reply ∷ replies) old new = ⊥
RunsOver tables settings (sent ∷ others) [] old new = ⊥

-- ---- over tables that stand for a desk

abbrev pub RepliesOn : Settings → Sent → Replied → State → State → Type 0
RepliesOn settings sent reply =
    OverTables settings (λ desk after. IsReplyTo settings sent desk reply after)

-- a run of messages
abbrev pub RunsMessagesOn : Settings → List Sent → List Replied → State → State → Type 0
RunsMessagesOn settings sent replies =
    OverTables settings
    (λ desk after. RunsBy (IsReplyTo settings) desk sent replies after)

-- ---- as they are handed over

abbrev pub sent_of : {A : Type 0} → ℕ × Vec ℕ A → Sent
sent_of message = (message.0, message.1.items)

abbrev pub all_sent : {A : Type 0} → List (ℕ × Vec ℕ A) → List Sent
all_sent messages = map sent_of messages

abbrev pub replied_of : {A : Type 0} → Result (Vec ℕ A) ServeFault → Replied
replied_of (Ok bytes) = Ok bytes.items
replied_of (Err fault) = Err fault

abbrev pub all_replied : {A : Type 0} → List (Result (Vec ℕ A) ServeFault) → List Replied
all_replied replies = map replied_of replies
