-- Two desks that a caller sees alike answer the caller's reading commands alike, run for run.
use Rattle.std.proofs.Common.{◌≡◌, ◌≢◌, ◌∙◌, ℕ, List, [], ◌∷◌, Err, inl, inr, refl, sym, ap}
use Rattle.std.proofs.Common.{ap₂}
use Rattle.std.specs.List.{AllByRecursion}
use Rattle.std.proofs.lemmas.List.Elements.{recursion_from_All}
use Rattle.sqlite.specs.Store.{Ghosts}
use Rattle.settings_core.specs.declared.settings.Settings.{Settings}
use Rattle.desk_model.specs.Commands.{IsReading}
use Rattle.desk_model.specs.Desk.{Desk}
use Rattle.desk_model.specs.Step.{Ask, Outcome, RunsBy, outcome_of}
use Rattle.desk_model.specs.View.{view}
use Rattle.desk_model.specs.declared.refusal.Refusal.TheVariants.{Unavailable}
use Rattle.desk_core.proofs.Taken.{reads_of}
use Rattle.desk_core.proofs.Unchanged.{reading_law}
use Rattle.service_core.specs.Alike.{SameToCaller}
use Rattle.service_core.specs.TableSteps.{IsStep}

abbrev pub Reads : List ℕ → Ask → Type 0
Reads caller ask = IsReading ask.command × (ask.caller ≡ caller)

stays : (s : Settings) (ask : Ask) (old new : Desk) (outcome : Outcome) → IsReading ask.command
    → IsStep s ask old outcome new → new ≡ old
stays s ask old new outcome reads step =
    elim step.step [
      | inl left ↦ left.1
      | inr done ↦ done.1 ∙ reading_law s ask.at ask.caller ask.command old reads
    ]

pub tells : (s : Settings) (caller : List ℕ) (ask : Ask) (old new : Desk) (outcome : Outcome)
    → Reads caller ask → outcome ≢ Err Unavailable → IsStep s ask old outcome new
    → outcome ≡ outcome_of s ask.at ask.caller ask.command (view s caller old)
tells s caller ask old new outcome reads told step =
    step.laws.inside told (reads_of ask.command reads.0)
    ∙ ap (λ who. outcome_of s ask.at ask.caller ask.command (view s who old)) reads.1

runs_alike : (s : Settings) (caller : List ℕ) (asks : List Ask) (outcomes others : List Outcome)
    (one other after after_other : Desk) → view s caller one ≡ view s caller other
    → AllByRecursion (Reads caller) asks
    → AllByRecursion (λ o. o ≢ Err Unavailable) outcomes
    → AllByRecursion (λ o. o ≢ Err Unavailable) others
    → RunsBy (IsStep s) one asks outcomes after → RunsBy (IsStep s) other asks others after_other
    → outcomes ≡ others
runs_alike s caller [] [] [] one other after after_other same reads told told_other run run_other =
    refl
runs_alike s caller (a ∷ asks) (o ∷ os) (p ∷ ps) one other after after_other same reads told
    told_other run run_other =
    let left = stays s a one run.0 o reads.0.0 run.1 in
    let left_other = stays s a other run_other.0 p reads.0.0 run_other.1 in
    ap₂ (λ (x : Outcome) (xs : List Outcome). x ∷ xs)
    (tells s caller a one run.0 o reads.0 told.0 run.1
    ∙ ap (outcome_of s a.at a.caller a.command) same
    ∙ sym (tells s caller a other run_other.0 p reads.0 told_other.0 run_other.1))
    (runs_alike s caller asks os ps run.0 run_other.0 after after_other
    (ap (view s caller) left ∙ same ∙ sym (ap (view s caller) left_other)) reads.1 told.1
    told_other.1 run.2 run_other.2)
runs_alike s caller [] (o ∷ os) ps one other after after_other same reads told told_other run
    run_other = absurd run
runs_alike s caller [] [] (p ∷ ps) one other after after_other same reads told told_other run
    run_other = absurd run_other
runs_alike s caller (a ∷ asks) [] ps one other after after_other same reads told told_other run
    run_other = absurd run
runs_alike s caller (a ∷ asks) (o ∷ os) [] one other after after_other same reads told told_other
    run run_other = absurd run_other

pub answers_alike : {S T : Type 0} (g : Ghosts S) (h : Ghosts T) (s : Settings) (caller : List ℕ)
    (asks : List Ask) → SameToCaller g h s caller asks
answers_alike g h s caller asks one other old new old_other new_other outcomes others is stand clean
    is_other stand_other clean_other same reads told told_other runs runs_other =
    let run = runs one is stand clean in
    let run_other = runs_other other is_other stand_other clean_other in
    runs_alike s caller asks outcomes others one other run.0 run_other.0 same
    (recursion_from_All (Reads caller) asks reads)
    (recursion_from_All (λ o. o ≢ Err Unavailable) outcomes told)
    (recursion_from_All (λ o. o ≢ Err Unavailable) others told_other) run.1.0 run_other.1.0
