-- A desk that answers messages over HTTP: its step, and when it counts as shut.
use Rattle.std.specs.Prelude.{◌≡◌, ◌||◌, ℕ, Bool, List, Option}
use Rattle.sqlite.specs.Store.{Ghosts}
use Rattle.service_core.specs.Seen.{settings_of, tables_of}
use Rattle.server_core.specs.Turns.{Answered}
use Rattle.web_core.specs.Control.{CopiesBy, is_stop}
use Rattle.web_core.specs.Dates.{IsDatedAt}
use Rattle.web_core.specs.Guessing.{Guards}
use Rattle.web_core.specs.Messages.{IsSeenOf, Seen, StepsAt, control_of}
use Rattle.web_core.specs.Notes.{IsNote}
use Rattle.web_core.specs.declared.desk.WebDesk.{WebDesk}

-- What else comes of a message of which this was seen and whose step has this reply: it is let through
-- or not, and a wrong token noted; a copy is made, or the server stops, only where that is to be done;
-- the log has its note.
abbrev pub TakenToo : {S C : Type 0} (g : Ghosts S) → (C → ℕ) → WebDesk S C g → Answered → Seen → List ℕ
    → WebDesk S C g → Type 0
TakenToo g made old a seen whole new =
    Guards old.proxied old.https (settings_of g old.desk) a.at seen.read old.guesses seen.guard
    new.guesses
    × CopiesBy (control_of (settings_of g old.desk) seen) seen.copied (made old.system) (made new.system)
    × (new.stops ≡ (old.stops || is_stop (control_of (settings_of g old.desk) seen)))
    × IsNote old.proxied old.https (settings_of g old.desk) a.at seen.read whole a.note

-- its bytes were seen so, and the reply has the date that was told then
abbrev pub IsTaken : {S C : Type 0} (g : Ghosts S) → (C → ℕ) → (C → Option ℕ) → WebDesk S C g
    → Answered → Seen → List ℕ → WebDesk S C g → Type 0
IsTaken g made told old a seen whole new =
    IsSeenOf a.message seen × IsDatedAt (told new.system) whole a.reply
    × TakenToo g made old a seen whole new

-- the step of a message over its tables, under the same settings, with the same cookie and behind the
-- same proxy
abbrev pub Steps : {S C : Type 0} (g : Ghosts S) → (C → ℕ) → (C → Option ℕ) → WebDesk S C g
    → Answered → WebDesk S C g → Type 0
Steps g made told old a new =
    (seen : Seen) × (whole : List ℕ)
    × StepsAt old.https (settings_of g old.desk) seen a.at whole (tables_of g old.desk)
    (tables_of g new.desk)
    × (settings_of g new.desk ≡ settings_of g old.desk) × (new.https ≡ old.https)
    × (new.proxied ≡ old.proxied) × IsTaken g made told old a seen whole new

-- it was seen that its store is shut, or it was asked to stop
abbrev pub shuts : {S C : Type 0} (g : Ghosts S) → WebDesk S C g → Bool
shuts g desk = desk.is_shut || desk.stops
