-- A load: lines off a stream, each answered over the tables that the one before left.
use Rattle.std.specs.Prelude.{◌≡◌, ◌+◌, ◌++◌, ◌∷◌, ◌&&◌, ◌||◌, ◌==◌, not, ℕ, zero, suc, Bool, true, false}
use Rattle.std.specs.Prelude.{List, [], Option, Some, None, if◌then◌else◌, codes, decimal, length, nat_le}
use Rattle.std.specs.Prelude.{◌≢◌, ◌≤◌, ◌<◌, take}
use Rattle.std.specs.Io.KnownBytes.{Consumes, IsAtEnd}
use Rattle.std.specs.Str.{bytes_eq, is_utf8}
use Rattle.sqlite.specs.Held.{Held, state}
use Rattle.sqlite.specs.Store.{Ghosts}
use Rattle.settings_core.specs.declared.settings.Settings.{Settings}
use Rattle.service_core.specs.declared.desk.Desk.{Desk}
use Rattle.store_core.specs.Seen.{connection_of}
use Rattle.stream_core.specs.Seen.{has_write_failed, held_in}
use Rattle.stream_core.specs.Written.{IsWritten, WritesOn}
use Rattle.stream_core.specs.declared.writer.CountedWriter.{CountedWriter}
use Rattle.line_core.specs.Lines.{IsFirst, TakesSome, line_limit, text_of}
use Rattle.desk_program.specs.Script.{LineLeads, line_of}
use Rattle.desk_program.specs.declared.line.Line.{Line}
use Rattle.desk_program.specs.declared.line.Line.TheVariants.{BadWords}
use Rattle.load_core.specs.declared.run.Ending.{Ending}
use Rattle.load_core.specs.declared.run.Ending.TheVariants.{Input, Refused, Read, Write}
use Rattle.load_core.specs.declared.run.Loaded.{Loaded}
use Rattle.load_core.specs.declared.run.Plan.{Plan}

-- ---- a line

-- what a text says: nothing that is understood, if it isn't UTF-8
abbrev pub said_by : List ℕ → Line
said_by text = if is_utf8 text then line_of text else BadWords

-- what the bytes of a line say: nothing that is understood, if they are too many
abbrev pub said : List ℕ → Bool → Line
said bytes ended = if nat_le (length bytes) line_limit then said_by (text_of bytes ended) else BadWords

-- ---- its answer

abbrev pub is_done : List ℕ → Bool
is_done text = bytes_eq text (codes "ok\n") || bytes_eq (take 8 text) (codes "request ")

abbrev pub is_bad_words : List ℕ → Bool
is_bad_words text = bytes_eq text (codes "bad words\n")

abbrev pub begins_refusal : List ℕ → Bool
begins_refusal text = bytes_eq (take 8 text) (codes "refused ")

abbrev pub is_refused : List ℕ → Bool
is_refused text = is_bad_words text || begins_refusal text

abbrev pub is_shown : Bool → List ℕ → Bool
is_shown all [] = false
is_shown all (b ∷ bs) = all || not (is_done (b ∷ bs))

abbrev pub numbered : ℕ → List ℕ → List ℕ
numbered number text = decimal number ++ (codes ": " ++ text)

-- what is printed of an answer
abbrev pub shown : Bool → ℕ → List ℕ → List ℕ
shown all number text = if is_shown all text then numbered number text else []

-- ---- lines

-- where a load stands: what is left of the stream, the connection to the tables, what the writer holds and whether a
-- write failed, and whether a line was refused
pub record Place (S : Type 0) : Type 0 where
  pub left : Option (List ℕ)
  pub tables : Held S
  pub written : Option (List ℕ)
  pub failed : Bool
  pub refused : Bool

-- where it stands before its first line
abbrev pub begins_at : {S : Type 0} → Option (List ℕ) → Held S → Option (List ℕ) → Place S
begins_at left tables written =
    record { left = left; tables = tables; written = written; failed = false; refused = false }

-- the line of this number was taken and answered, and its answer written, whole or up to a write
-- that failed
pub record AnswersLine {S : Type 0} (g : Ghosts S) (settings : Settings) (all : Bool) (number : ℕ)
    (old new : Place S) : Type 0 where
  pub bytes : List ℕ
  pub ended : Bool
  pub text : List ℕ
  pub first : IsFirst old.left new.left bytes ended
  pub led : LineLeads settings (said bytes ended) text (state g old.tables) (state g new.tables)
  pub told : IsWritten new.failed old.written new.written (shown all number text)
  pub counted : new.refused ≡ (old.refused || is_refused text)

-- a failed write ends a load, and so does a refusal, if it is to
abbrev pub GoesOn : {S : Type 0} → Bool → Place S → Type 0
GoesOn stop place = (place.failed ≡ false) × ((stop && place.refused) ≡ false)

-- so many lines were answered, numbered on from those that were passed over
abbrev pub AnswersLines : {S : Type 0} → Ghosts S → Settings → Plan → ℕ → Place S → Place S → Type 0
AnswersLines g settings plan zero old new = new ≡ old
AnswersLines {S} g settings plan (suc n) old new =
    (mid : Place S) × AnswersLines g settings plan n old mid × GoesOn plan.stop mid
    × AnswersLine g settings plan.all (plan.passed + n + 1) mid new

abbrev pub PassesLine : Option (List ℕ) → Option (List ℕ) → Type 0
PassesLine old new = (bytes : List ℕ) × (ended : Bool) × IsFirst old new bytes ended

-- so many lines were passed over
abbrev pub PassesLines : ℕ → Option (List ℕ) → Option (List ℕ) → Type 0
PassesLines zero old new = new ≡ old
PassesLines (suc n) old new =
    (mid : Option (List ℕ)) × PassesLines n old mid
    × PassesLine mid new

-- ---- a load

-- why no line more is answered after a line, if none is
abbrev pub ending_after : Bool → Bool → Bool → Option Ending
ending_after failed stop refused =
    if failed then Some Write else if stop && refused then Some Refused else None

-- no line more was taken: the stream has ended, or it couldn't be read
abbrev pub IsNone : Ending → Option (List ℕ) → Option (List ℕ) → Type 0
IsNone Input old new = Consumes old new [] × IsAtEnd new
IsNone Read old new = TakesSome old new
IsNone Write old new = ⊥
IsNone Refused old new = ⊥

-- why no line more was answered, and what is left of the stream
abbrev pub EndsBy : {S : Type 0} → Ending → Bool → Place S → Option (List ℕ) → Type 0
EndsBy Input stop place left = IsNone Input place.left left × GoesOn stop place
EndsBy Read stop place left = IsNone Read place.left left × GoesOn stop place
EndsBy Write stop place left = (left ≡ place.left) × (place.failed ≡ true)
EndsBy Refused stop place left =
    (left ≡ place.left) × (place.failed ≡ false) × (stop ≡ true) × (place.refused ≡ true)

-- Lines were answered from a place on, as many as is told, up to the place where it ended as it is
-- told.
pub record Runs {S : Type 0} (g : Ghosts S) (settings : Settings) (plan : Plan) (old : Place S)
    (left : Option (List ℕ)) (tables : Held S) (written : Option (List ℕ)) (loaded : Loaded) :
    Type 0 where
  pub place : Place S
  pub lines : AnswersLines g settings plan loaded.answered old place
  pub ends : EndsBy loaded.ending plan.stop place left
  pub tables_are : tables ≡ place.tables
  pub written_is : written ≡ place.written
  pub refused_is : loaded.refused ≡ place.refused

-- a line was passed over, or the reason tells why none was
abbrev pub IsPassedBy : Option Ending → Option (List ℕ) → Option (List ℕ) → Type 0
IsPassedBy None old new = PassesLine old new
IsPassedBy (Some ending) old new = IsNone ending old new

-- as many lines were passed over as were to be, or fewer: the reason tells why
abbrev pub IsPassed : ℕ → Option (List ℕ) → Option (List ℕ) → Option Ending → Type 0
IsPassed count old new None = PassesLines count old new
IsPassed count old new (Some ending) =
    (n : ℕ) × (n < count) × (mid : Option (List ℕ)) × PassesLines n old mid
    × IsNone ending mid new

-- Lines were passed over, and those after them answered; none was, where there weren't that many.
pub record IsLoaded {S : Type 0} (g : Ghosts S) (settings : Settings) (plan : Plan)
    (had left : Option (List ℕ)) (old new : Held S) (before after : Option (List ℕ)) (loaded : Loaded) : Type 0 where
  pub passed : ℕ
  pub start : Option (List ℕ)
  pub passes : PassesLines passed had start
  pub within : passed ≤ plan.passed
  pub run : Runs g settings plan (begins_at start old before) left new after loaded
  pub full : passed ≢ plan.passed → loaded.answered ≡ 0

-- ---- a load that was to begin beyond the end

abbrev pub is_end : Ending → Bool
is_end Input = true
is_end Refused = false
is_end Read = false
is_end Write = false

-- lines were to be passed over, and the stream ended before one followed them
abbrev pub is_beyond : Plan → Loaded → Bool
is_beyond plan loaded =
    (not (plan.passed == 0) && (loaded.answered == 0)) && is_end loaded.ending

abbrev pub beyond_text : ℕ → List ℕ
beyond_text passed = codes "no line after " ++ (decimal passed ++ codes "\n")

-- ---- as the program stands

abbrev pub held_by : {S : Type 0} (g : Ghosts S) → Desk S g → Held S
held_by g desk = connection_of g desk.store

abbrev pub place_at : {S W : Type 0} → Option (List ℕ) → Held S → (W → Option (List ℕ))
    → CountedWriter W → Bool → Place S
place_at left tables contents output refused =
    record {
      left = left;
      tables = tables;
      written = held_in contents output;
      failed = has_write_failed output;
      refused = refused;
    }

-- an answer was written after others, and counted
pub record Tells {W : Type 0} (contents : W → Option (List ℕ)) (all : Bool) (number : ℕ)
    (text : List ℕ) (old new : CountedWriter W) (before after : Bool) : Type 0 where
  pub written : WritesOn (has_write_failed old) (has_write_failed new)
      (held_in contents old) (held_in contents new) (shown all number text)
  pub counted : after ≡ (before || is_refused text)
