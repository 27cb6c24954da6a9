-- How many bytes follow a head.
use Rattle.std.specs.Prelude.{◌≡◌, ◌⊎◌, ℕ, List, Option, Some, None, Result, Ok, Err, map}
use Rattle.httparse.specs.Grammar.{HasNoRequest, ReadsRequest, RequestHead}
use Rattle.httparse.specs.Spans.{RequestOverflows, name_and_value}
use Rattle.message_core.specs.Heading.{length_of}
use Rattle.message_core.specs.Limits.{limit_at}
use Rattle.message_core.specs.declared.fault.WireFault.{WireFault}
use Rattle.message_core.specs.declared.limits.BodyLimit.{BodyLimit}

-- the bytes begin with this head, whose lines state so long a body, within the limit
abbrev pub StatesLength : BodyLimit → List ℕ → ℕ → Type 0
StatesLength limit bytes n =
    (h : RequestHead) × (rest : List ℕ) × ReadsRequest bytes h rest
    × (length_of (limit_at limit h.target) (map name_and_value h.fields) ≡ Ok n)

-- they begin with a head whose length is refused
abbrev pub HasLengthRefused : BodyLimit → List ℕ → Type 0
HasLengthRefused limit bytes =
    (h : RequestHead) × (rest : List ℕ) × (fault : WireFault) × ReadsRequest bytes h rest
    × (length_of (limit_at limit h.target) (map name_and_value h.fields) ≡ Err fault)

-- a length, if it isn't refused
abbrev pub IsStated : Option ℕ → Result ℕ WireFault → Type 0
IsStated (Some n) said = said ≡ Ok n
IsStated None said = (fault : WireFault) × (said ≡ Err fault)

-- What the bytes say of the body that follows them: its length; or nothing, where they begin with
-- no head of at most 32 lines, or with one whose length is refused: no body makes it a message.
abbrev pub States : BodyLimit → List ℕ → Option ℕ → Type 0
States limit bytes (Some n) = StatesLength limit bytes n
States limit bytes None =
    HasNoRequest bytes ⊎ RequestOverflows 32 bytes ⊎ HasLengthRefused limit bytes
