-- What a server's host has told.
use Rattle.std.specs.Prelude.{◌≡◌, ◌+◌, ◌-◌, ◌^◌, ℕ, ⊤, Bool, true, List, [], ◌∷◌, ◌++◌, Option, Some, None, min}
use Rattle.std.specs.Io.KnownBytes.{Appends}

-- what the log tells of a message beside its time
pub record Line : Type 0 where
  pub minute : ℕ
  pub note : List ℕ
  pub bytes : ℕ

-- the lines grow by these, where they are kept
abbrev pub AppendsLines : Option (List Line) → Option (List Line) → List Line → Type 0
AppendsLines None new lines = ⊤
AppendsLines (Some xs) None lines = ⊥
AppendsLines (Some xs) (Some ys) lines = ys ≡ xs ++ lines

pub record Told : Type 0 where
  -- how many accepts have failed in a row, and whether a wait has failed
  pub failed : ℕ
  pub wait_failed : Bool
  -- the moments and the minutes of its turns so far, and the lines of its log, where the host keeps
  -- them
  pub moments : Option (List ℕ)
  pub minutes : Option (List ℕ)
  pub lines : Option (List Line)

-- one more, up to the greatest number
abbrev pub more : ℕ → ℕ
more n = min (n + 1) (2 ^ 64 - 1)

abbrev pub with_failed : Told → ℕ → Told
with_failed t n = record {
  failed = n;
  wait_failed = t.wait_failed;
  moments = t.moments;
  minutes = t.minutes;
  lines = t.lines;
}

-- an accept has failed, or hasn't
abbrev pub accept_fails : Told → Told
accept_fails t = with_failed t (more t.failed)

abbrev pub accept_works : Told → Told
accept_works t = with_failed t 0

abbrev pub wait_fails : Told → Told
wait_fails t = record {
  failed = t.failed;
  wait_failed = true;
  moments = t.moments;
  minutes = t.minutes;
  lines = t.lines;
}

-- it told the moment of a turn
abbrev pub TellsMoment : Told → Told → ℕ → Type 0
TellsMoment old new now =
    Appends old.moments new.moments (now ∷ []) × (new.minutes ≡ old.minutes)
    × (new.lines ≡ old.lines) × (new.failed ≡ old.failed) × (new.wait_failed ≡ old.wait_failed)

-- it told the minute of a turn
abbrev pub TellsMinute : Told → Told → ℕ → Type 0
TellsMinute old new minute =
    Appends old.minutes new.minutes (minute ∷ []) × (new.moments ≡ old.moments)
    × (new.lines ≡ old.lines) × (new.failed ≡ old.failed) × (new.wait_failed ≡ old.wait_failed)

abbrev pub HasSameClock : Told → Told → Type 0
HasSameClock old new = (new.moments ≡ old.moments) × (new.minutes ≡ old.minutes)

-- it told one line more
abbrev pub TellsLine : Told → Told → Line → Type 0
TellsLine old new line =
    AppendsLines old.lines new.lines (line ∷ []) × HasSameClock old new × (new.failed ≡ old.failed)

-- only accepts may have failed or not
abbrev pub KeepsClock : Told → Told → Type 0
KeepsClock old new = HasSameClock old new × (new.lines ≡ old.lines)
