-- The first line of a stream, and what is left after it.
use Rattle.std.specs.Prelude.{◌≡◌, ◌≢◌, ◌≤◌, ◌<◌, ◌+◌, ◌==◌, ◌||◌, ℕ, Bool, true, false, List, []}
use Rattle.std.specs.Prelude.{◌∷◌, ◌++◌, Option, Some, None, length, take, ⊤}
use Rattle.std.specs.Io.KnownBytes.{Consumes, IsAtEnd, Keeps}
use Rattle.std.specs.Str.Lines.{strip_carriage_return}
use Rattle.line_core.specs.declared.lines.Next.{Next}
use Rattle.line_core.specs.declared.lines.Next.TheVariants as next
use Rattle.line_core.specs.declared.lines.Stop.{Stop}
use Rattle.line_core.specs.declared.lines.Stop.TheVariants as stop
use Rattle.line_core.specs.declared.lines.Taken.{Taken}
use Rattle.line_core.specs.declared.lines.Taken.TheVariants.{Line, TooLong, End, Fault}

-- the most bytes of a line, before its line feed
abbrev pub line_limit : ℕ
line_limit = 1048576

abbrev pub has_feed : List ℕ → Bool
has_feed [] = false
has_feed (b ∷ bs) = (b == 10) || has_feed bs

-- these bytes were taken, none of them a line feed, and the line feed after them; or all that was
-- left
abbrev pub Reads : Option (List ℕ) → Option (List ℕ) → List ℕ → Bool → Type 0
Reads old new bytes true = (has_feed bytes ≡ false) × Consumes old new (bytes ++ 10 ∷ [])
Reads old new bytes false = (has_feed bytes ≡ false) × Consumes old new bytes × IsAtEnd new

-- A line of these bytes stood at the front of the stream, and was taken: with its line feed, or
-- without one at the end, where it has a byte.
abbrev pub IsFirst : Option (List ℕ) → Option (List ℕ) → List ℕ → Bool → Type 0
IsFirst old new bytes ended = Reads old new bytes ended × (ended ≡ false → bytes ≢ [])

-- a carriage return before a line feed belongs to it
abbrev pub text_of : List ℕ → Bool → List ℕ
text_of bytes true = strip_carriage_return bytes
text_of bytes false = bytes

-- some bytes were taken
abbrev pub TakesSome : Option (List ℕ) → Option (List ℕ) → Type 0
TakesSome old new = (bytes : List ℕ) × Consumes old new bytes

-- a line was taken, and this is its text; or one that is too long; or there was none; or there is no
-- knowing
abbrev pub IsTaken : Taken → Option (List ℕ) → Option (List ℕ) → List ℕ → Type 0
IsTaken Line old new text =
    (bytes : List ℕ) × (ended : Bool) × IsFirst old new bytes ended × (length bytes ≤ line_limit)
    × (text ≡ text_of bytes ended)
IsTaken TooLong old new text =
    (bytes : List ℕ) × (ended : Bool) × IsFirst old new bytes ended × (line_limit < length bytes)
IsTaken End old new text = Consumes old new [] × IsAtEnd new
IsTaken Fault old new text = TakesSome old new

-- lines were taken one after the other up to the end of the stream, and these are their texts
abbrev pub TakesAll : Option (List ℕ) → List (List ℕ) → Type 0
TakesAll old [] = IsAtEnd old
TakesAll old (text ∷ texts) =
    (new : Option (List ℕ)) × (bytes : List ℕ) × (ended : Bool) × IsFirst old new bytes ended
    × (text ≡ text_of bytes ended) × TakesAll new texts

-- ---- byte by byte

-- a byte was taken, or the stream has ended
abbrev pub TakesByte : Next → Option (List ℕ) → Option (List ℕ) → Type 0
TakesByte (next.Byte b) old new = Consumes old new (b ∷ [])
TakesByte next.End old new = Consumes old new [] × IsAtEnd new
TakesByte next.Fault old new = Keeps old new

-- a buffer holds the beginning of these bytes, with one more than a line may have
abbrev pub Holds : List ℕ → List ℕ → Type 0
Holds held bytes = held ≡ take (line_limit + 1) bytes

-- a byte was put behind those that a buffer holds, if there were no more than a line may have
abbrev pub IsGrown : ℕ → List ℕ → List ℕ → Type 0
IsGrown b old new =
    (line_limit < length old → new ≡ old) × (length old ≤ line_limit → new ≡ old ++ b ∷ [])

abbrev pub KeepsByte : Option Stop → ℕ → List ℕ → List ℕ → Type 0
KeepsByte None b old new = (b ≢ 10) × IsGrown b old new
KeepsByte (Some stop.Feed) b old new = (b ≡ 10) × (new ≡ old)
KeepsByte (Some stop.End) b old new = ⊥
KeepsByte (Some stop.Fault) b old new = ⊤

-- a byte more was taken, or why none was
abbrev pub TakesMore : Option Stop → Option (List ℕ) → Option (List ℕ) → List ℕ → List ℕ → Type 0
TakesMore None old new held more =
    (b : ℕ) × (b ≢ 10) × Consumes old new (b ∷ []) × IsGrown b held more
TakesMore (Some stop.Feed) old new held more = Consumes old new (10 ∷ []) × (more ≡ held)
TakesMore (Some stop.End) old new held more = Consumes old new [] × IsAtEnd new × (more ≡ held)
TakesMore (Some stop.Fault) old new held more = TakesSome old new

-- bytes were taken up to a line feed or to the end, and a buffer holds their beginning
abbrev pub ReadsUpTo : Stop → Option (List ℕ) → Option (List ℕ) → List ℕ → Type 0
ReadsUpTo stop.Feed old new held = (bytes : List ℕ) × Reads old new bytes true × Holds held bytes
ReadsUpTo stop.End old new held = (bytes : List ℕ) × Reads old new bytes false × Holds held bytes
ReadsUpTo stop.Fault old new held = TakesSome old new

-- what the bytes are that a buffer holds: a line, and its text; more than a line may have; or none
abbrev pub IsJudged : Taken → List ℕ → Bool → List ℕ → Type 0
IsJudged Line held ended text =
    (length held ≤ line_limit) × (ended ≡ false → held ≢ []) × (text ≡ text_of held ended)
IsJudged TooLong held ended text = line_limit < length held
IsJudged End held ended text = (held ≡ []) × (ended ≡ false)
IsJudged Fault held ended text = ⊥
