-- A message with its head, whose header lines say more than the message has.
use Rattle.std.specs.Prelude.{◌≡◌, ◌⊎◌, nat_lt, if◌then◌else◌, List, ◌++◌, ℕ, map}
use Rattle.std.specs.Prelude.{Option, None, Result, Ok, Err}
use Rattle.std.specs.List.{filter}
use Rattle.httparse.specs.Grammar.{RequestHead, print_request}
use Rattle.httparse.specs.Spans.{name_and_value}
use Rattle.stream_core.specs.Streams.{Takes}
use Rattle.message_core.specs.Head.{StartsWith, LacksHead}
use Rattle.message_core.specs.Heading.{Line, count_named, first_value, heading_within, is_named}
use Rattle.message_core.specs.Message.{completed, left_of}
use Rattle.message_core.specs.declared.fault.WireFault.{WireFault}
use Rattle.message_core.specs.declared.fault.WireFault.TheVariants.{BadHead}
use Rattle.message_core.specs.declared.limits.BodyLimit.{BodyLimit}
use Rattle.message_core.specs.declared.message.Message.{Message}
use Rattle.message_core.specs.declared.request.Request.{Request}

-- ---- what is read

-- what was read, with the bytes of its head
abbrev pub requested : List ℕ → Result Message WireFault → Result Request WireFault
requested head (Ok message) = Ok (record { message = message; head = head })
requested head (Err fault) = Err fault

-- the message alone
abbrev pub message_in : Result Request WireFault → Result Message WireFault
message_in (Ok request) = Ok request.message
message_in (Err fault) = Err fault

-- a stream is read so, and that is left of it: as of a message whose body is within the limit, with
-- the bytes of its head
pub record IsRequest (limit : BodyLimit) (stream left : List ℕ) (read : Result Request WireFault) :
    Type 0 where
  pub head : RequestHead
  pub rest : List ℕ
  pub starts : StartsWith stream head rest
  pub is : read ≡ requested (print_request head) (completed (heading_within limit head) rest)
  pub leaves : left ≡ left_of (heading_within limit head) rest

abbrev pub ReadsWithHead : BodyLimit → Option (List ℕ) → Option (List ℕ)
    → Result Request WireFault → Type 0
ReadsWithHead limit old new read =
    (taken : List ℕ) × (left : List ℕ)
    × Takes old new taken left × IsRequest limit (taken ++ left) left read

-- no head, or the message of a stream with its head, or its fault
abbrev pub ReadsRequested : BodyLimit → Option (List ℕ) → Option (List ℕ)
    → Result Request WireFault → Type 0
ReadsRequested limit old new read =
    ((read ≡ Err BadHead) × LacksHead old new) ⊎ ReadsWithHead limit old new read

-- ---- what a head says

-- the value of the one line of that name, if there is one
abbrev pub one_value : List ℕ → List Line → Option (List ℕ)
one_value name lines =
    if nat_lt 1 (count_named name lines) then None else first_value name lines

abbrev pub value_in : RequestHead → List ℕ → Option (List ℕ)
value_in h name = one_value name (map name_and_value h.fields)

-- the values of all lines of that name, in their order
abbrev pub all_values : List ℕ → List Line → List (List ℕ)
all_values name lines = map (λ line. line.1) (filter (is_named name) lines)

abbrev pub values_in : RequestHead → List ℕ → List (List ℕ)
values_in h name = all_values name (map name_and_value h.fields)
