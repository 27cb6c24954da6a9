-- What a caller may not see changes no answer to that caller's reading commands.
use Rattle.std.specs.Prelude.{◌≡◌, ◌≢◌, ℕ, ⊤, List, All, Option, Err, Result}
use Rattle.std.specs.Io.KnownBytes.{Appends}
use Rattle.sqlite.specs.Held.{Held, state}
use Rattle.sqlite.specs.State.{HasCleanDisk}
use Rattle.sqlite.specs.Store.{Ghosts}
use Rattle.settings_core.specs.declared.settings.Settings.{Settings}
use Rattle.desk_model.specs.Commands.{IsReading}
use Rattle.desk_model.specs.Desk.{Desk}
use Rattle.desk_model.specs.IsDesk.{IsDesk}
use Rattle.desk_model.specs.Step.{Ask, Outcome}
use Rattle.desk_model.specs.View.{view}
use Rattle.desk_model.specs.declared.refusal.Refusal.TheVariants.{Unavailable}
use Rattle.desk_reports.specs.declared.fault.StreamFault.{StreamFault}
use Rattle.desk_reports.specs.declared.fault.StreamFault.TheVariants.{Refused, Write}
use Rattle.store_core.specs.Due.{RepresentsWithDue}
use Rattle.stream_core.specs.Written.{IsWritten}
use Rattle.service_core.specs.Streaming.{StreamsOn, is_write}
use Rattle.service_core.specs.TableSteps.{RunsOn}

-- the commands are that caller's, and only read
abbrev pub AreReadingsOf : List ℕ → List Ask → Type 0
AreReadingsOf caller asks = All (λ ask. IsReading ask.command × (ask.caller ≡ caller)) asks

-- none was out of memory
abbrev pub AreAnswered : List Outcome → Type 0
AreAnswered outcomes = All (λ outcome. outcome ≢ Err Unavailable) outcomes

-- Two desks that a caller sees alike answer that caller's reading commands alike: lists of commands
-- on tables that stand for them have the same outcomes, where none was out of memory.
abbrev pub SameToCaller : {S T : Type 0} → Ghosts S → Ghosts T → Settings → List ℕ → List Ask
    → Type 0
SameToCaller {S} {T} g h settings caller asks =
    (one other : Desk) (old new : Held S) (old_other new_other : Held T)
    (outcomes others : List Outcome)
    → IsDesk one → RepresentsWithDue settings one (state g old) → HasCleanDisk (state g new)
    → IsDesk other → RepresentsWithDue settings other (state h old_other)
    → HasCleanDisk (state h new_other)
    → view settings caller one ≡ view settings caller other
    → AreReadingsOf caller asks → AreAnswered outcomes → AreAnswered others
    → RunsOn settings asks outcomes (state g old) (state g new)
    → RunsOn settings asks others (state h old_other) (state h new_other)
    → outcomes ≡ others

-- no write failed, and neither memory nor the store refused
abbrev pub IsWhole : Result ⊤ StreamFault → Type 0
IsWhole result = (result ≢ Err Write) × (result ≢ Err (Refused Unavailable))

-- both ended the same, and one text was written to both
abbrev pub AreWrittenAlike : Result ⊤ StreamFault → Result ⊤ StreamFault → (List ℕ → Type 0)
    → (List ℕ → Type 0) → Type 0
AreWrittenAlike result other_result Written WrittenOther =
    (result ≡ other_result) × (text : List ℕ) × Written text × WrittenOther text

-- Two desks that a caller sees alike write a list for that caller alike: streams from tables that
-- stand for them write one text, where neither was cut short.
abbrev pub WritesAlike : {S T : Type 0} → Ghosts S → Ghosts T → Settings → Ask → Type 0
WritesAlike {S} {T} g h settings ask =
    (one other : Desk) (old new : Held S) (old_other new_other : Held T)
    (result other_result : Result ⊤ StreamFault)
    (before after before_other after_other : Option (List ℕ))
    → IsDesk one → RepresentsWithDue settings one (state g old) → HasCleanDisk (state g new)
    → IsDesk other → RepresentsWithDue settings other (state h old_other)
    → HasCleanDisk (state h new_other)
    → view settings ask.caller one ≡ view settings ask.caller other
    → IsReading ask.command → IsWhole result → IsWhole other_result
    → StreamsOn settings ask (state g old) (state g new) result
    (IsWritten (is_write result) before after)
    → StreamsOn settings ask (state h old_other) (state h new_other) other_result
    (IsWritten (is_write other_result) before_other after_other)
    → AreWrittenAlike result other_result (Appends before after)
    (Appends before_other after_other)
