-- What a stream of bytes is read as.
use Rattle.std.specs.Prelude.{◌≡◌, ◌⊎◌, ℕ, nat_le, if◌then◌else◌, List, ◌++◌, length, take, drop}
use Rattle.std.specs.Prelude.{Option, Result, Ok, Err}
use Rattle.httparse.specs.Grammar.{RequestHead}
use Rattle.stream_core.specs.Streams.{Takes}
use Rattle.message_core.specs.Head.{StartsWith, LacksHead}
use Rattle.message_core.specs.Heading.{heading}
use Rattle.message_core.specs.declared.fault.WireFault.{WireFault}
use Rattle.message_core.specs.declared.fault.WireFault.TheVariants.{BadHead, Truncated}
use Rattle.message_core.specs.declared.heading.Heading.{Heading}
use Rattle.message_core.specs.declared.message.Message.{Message}

abbrev pub message_with : Heading → List ℕ → Message
message_with said body =
    record { method = said.method; target = said.target; token = said.token; body = body }

-- with what follows the head
abbrev pub completed : Result Heading WireFault → List ℕ → Result Message WireFault
completed (Err fault) rest = Err fault
completed (Ok said) rest =
    if nat_le said.length (length rest) then Ok (message_with said (take said.length rest))
    else Err Truncated

-- what is left of what follows the head
abbrev pub left_of : Result Heading WireFault → List ℕ → List ℕ
left_of (Err fault) rest = rest
left_of (Ok said) rest = drop said.length rest

-- a stream is read so, and that is left of it
pub record IsMessage (stream left : List ℕ) (read : Result Message WireFault) : Type 0 where
  pub head : RequestHead
  pub rest : List ℕ
  pub starts : StartsWith stream head rest
  pub is : read ≡ completed (heading head) rest
  pub leaves : left ≡ left_of (heading head) rest

-- what is read of a reader's stream is a message or its fault, and the rest is left to the reader
abbrev pub ReadsMessage : Option (List ℕ) → Option (List ℕ) → Result Message WireFault → Type 0
ReadsMessage old new read =
    (taken : List ℕ) × (left : List ℕ)
    × Takes old new taken left × IsMessage (taken ++ left) left read

-- no head, or the message of a stream or its fault
abbrev pub Reads : Option (List ℕ) → Option (List ℕ) → Result Message WireFault → Type 0
Reads old new read = ((read ≡ Err BadHead) × LacksHead old new) ⊎ ReadsMessage old new read
