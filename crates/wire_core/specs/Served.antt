-- What stands after a message was served over tables.
use Rattle.std.specs.Prelude.{◌≡◌, ◌≢◌, ℕ, ⊤, Bool, true, false, List, [], Option, Some, None, Result}
use Rattle.std.specs.Prelude.{Ok, Err}
use Rattle.sqlite.specs.State.{State}
use Rattle.settings_core.specs.declared.settings.Settings.{Settings}
use Rattle.message_core.specs.Reply.{bytes_of, unavailable}
use Rattle.message_core.specs.declared.fault.WireFault.{WireFault}
use Rattle.store_tables.specs.Calls.{LeavesTables}
use Rattle.stream_core.specs.Written.{IsWritten, Prints}
use Rattle.stream_core.specs.declared.writer.CountedWriter.{CountedWriter}
use Rattle.wire_core.specs.Replies.{TellsFault}
use Rattle.wire_core.specs.Rooms.{held_in}
use Rattle.wire_core.specs.Steps.{StreamStepsOn}
use Rattle.wire_core.specs.declared.fault.ServeFault.{ServeFault}
use Rattle.wire_core.specs.declared.fault.ServeFault.TheVariants.{Read, Write, NoMemory}
use Rattle.wire_core.specs.declared.fault.Unanswered.{Unanswered}
use Rattle.wire_core.specs.declared.fault.Unanswered.TheVariants.{NoRoom, Unread}
use Rattle.wire_core.specs.declared.room.Room.{Room}

-- the message step, whose reply goes out whole, or where a write failed short of a byte or more
abbrev pub Replies : Settings → ℕ → Option (List ℕ) → Option (List ℕ) → Option (List ℕ)
    → Option (List ℕ) → Bool → State → State → Type 0
Replies settings at had left before after failed old new =
    (bytes : List ℕ) × StreamStepsOn settings at had left bytes old new
    × IsWritten failed before after bytes

-- A message was served: what the reader had and has left, and what the writer held before and
-- after. Where a read failed nothing is written and nothing is done. That there is no memory is
-- never the result, since the reply says so.
abbrev pub IsServed : Settings → ℕ → Option (List ℕ) → Option (List ℕ) → Option (List ℕ)
    → Option (List ℕ) → Result ⊤ ServeFault → State → State → Type 0
IsServed settings at had left before after (Ok done) old new =
    Replies settings at had left before after false old new
IsServed settings at had left before after (Err Write) old new =
    Replies settings at had left before after true old new
IsServed settings at had left before after (Err Read) old new = (after ≡ before) × LeavesTables old new
IsServed settings at had left before after (Err NoMemory) old new = ⊥

-- ---- by a reader and a writer that count

-- the same of a desk with these tables, in at most as many writes as the reply has bytes; where a
-- read failed the desk is as it was
abbrev pub IsServedBy : {W D : Type 0} → (W → Option (List ℕ)) → (D → State) → Settings → ℕ
    → Option (List ℕ) → Option (List ℕ) → CountedWriter W → CountedWriter W → Result ⊤ ServeFault
    → D → D → Type 0
IsServedBy contents tables settings at had left before after (Ok done) old new =
    (bytes : List ℕ) × StreamStepsOn settings at had left bytes (tables old) (tables new)
    × Prints contents before after bytes
IsServedBy contents tables settings at had left before after (Err Write) old new =
    (bytes : List ℕ) × StreamStepsOn settings at had left bytes (tables old) (tables new)
    × Prints contents before after bytes
IsServedBy contents tables settings at had left before after (Err Read) old new =
    (after ≡ before) × (new ≡ old)
IsServedBy contents tables settings at had left before after (Err NoMemory) old new = ⊥

-- the reply that goes out, if there is one: where there was no room for any, that there was none
abbrev pub reply_in : Result Room Unanswered → Option (List ℕ)
reply_in (Ok room) = Some (held_in room)
reply_in (Err NoRoom) = Some (bytes_of (unavailable false))
reply_in (Err Unread) = None

-- a reply has no text by itself where it has to stand whole; where there is none, the desk is as it
-- was
abbrev pub HasRoomOrLeft : {D : Type 0} → Bool → Result Room Unanswered → D → D → Type 0
HasRoomOrLeft whole (Ok room) old new = whole ≡ true → room.text ≡ []
HasRoomOrLeft whole (Err fault) old new = new ≡ old

-- the reply is that of the message step; there is none where nothing is done
abbrev pub IsAnswer : Settings → ℕ → Option (List ℕ) → Option (List ℕ) → Option (List ℕ) → State
    → State → Type 0
IsAnswer settings at had left (Some bytes) old new =
    StreamStepsOn settings at had left bytes old new
IsAnswer settings at had left None old new = LeavesTables old new

-- it went out, whole or up to a write that failed; or there is none, and none went out
abbrev pub IsSent : {W : Type 0} → (W → Option (List ℕ)) → CountedWriter W → CountedWriter W
    → Option (List ℕ) → Result ⊤ ServeFault → Type 0
IsSent contents before after (Some bytes) (Ok done) = Prints contents before after bytes
IsSent contents before after (Some bytes) (Err Write) = Prints contents before after bytes
IsSent contents before after (Some bytes) (Err Read) = ⊥
IsSent contents before after (Some bytes) (Err NoMemory) = ⊥
IsSent contents before after None (Ok done) = ⊥
IsSent contents before after None (Err Write) = ⊥
IsSent contents before after None (Err Read) = after ≡ before
IsSent contents before after None (Err NoMemory) = ⊥

-- a fault of reading is told, or that there was no memory; there is no reply where a read failed
abbrev pub TellsRead : WireFault → Option (List ℕ) → Type 0
TellsRead fault None = fault ≡ WireFault.Read
TellsRead fault (Some bytes) = (fault ≢ WireFault.Read) × TellsFault fault bytes
