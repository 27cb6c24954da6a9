-- What is read or written of a command makes a step.
use Rattle.std.proofs.Common.{◌≡◌, ◌≢◌, ◌⊎◌, ◌∙◌, ℕ, false, List, Option, Some, None, Result}
use Rattle.std.proofs.Common.{Ok, Err, IfErr, IfOk, OnErr, inl, inr, refl, ap, subst, sym}
use Rattle.sqlite.specs.State.{State}
use Rattle.settings_core.specs.declared.settings.Settings.{Settings}
use Rattle.desk_model.specs.declared.answer.Answer.{Answer}
use Rattle.desk_model.specs.declared.change.Change.{Change}
use Rattle.desk_model.specs.declared.command.Command.{Command}
use Rattle.desk_model.specs.declared.facts.Facts.{Facts}
use Rattle.desk_model.specs.declared.refusal.Refusal.{Refusal}
use Rattle.desk_model.specs.declared.refusal.Refusal.TheVariants.{Unavailable}
use Rattle.desk_core.specs.Decision.{change_of}
use Rattle.desk_core.proofs.Unchanged.{reads_nothing}
use Rattle.desk_model.specs.Change.{applied}
use Rattle.desk_model.specs.Commands.{IsReading, plan_of}
use Rattle.desk_model.specs.Desk.{Desk}
use Rattle.desk_model.specs.IsDesk.{IsDesk}
use Rattle.desk_model.specs.Plan.{Call, Plan, Reads, answer_by, change_by, is_reading, facts_of_plan}
use Rattle.desk_model.specs.Plan.{answer_of_change}
use Rattle.desk_model.specs.Step.{answer_of}
use Rattle.desk_model.specs.Step.{Ask, Outcome, Steps, call, desk_unless, effect, facts_of, guard}
use Rattle.desk_model.specs.Step.{outcome_unless}
use Rattle.store_core.proofs.WritableByKind.{change_writable}
use Rattle.store_tables.proofs.Spared.{joined, stands}
use Rattle.store_tables.specs.Calls.{LeavesTables}
use Rattle.store_tables.specs.Contents.{Contents, contents_of}
use Rattle.store_tables.specs.Stands.{HoldCommitted}
use Rattle.store_core.specs.Due.{due_of_row}
use Rattle.store_core.specs.Written.{IsWritable, dues_after}
use Rattle.store_core.proofs.Renewed.{renewed}
use Rattle.service_core.specs.Decided.{Answers, AnswersDue, CarriesOut, IsDecided, StepsSeeing}
use Rattle.service_core.specs.Decided.{Writes}
use Rattle.service_core.specs.TableSteps.{IsStep, StepOverTables, ask_by}
use Rattle.service_core.proofs.Laws.{lawful}

abbrev IsUnavailable : Refusal → Type 0
IsUnavailable Unavailable = Unit {0}
IsUnavailable other = ⊥

pub unavailable_or : (refusal : Refusal) → (refusal ≡ Unavailable) ⊎ (refusal ≢ Unavailable)
unavailable_or Unavailable = inl refl
unavailable_or other = inr (λ e. subst IsUnavailable (sym e) tt)

-- ---- on one desk

refused : (s : Settings) (ask : Ask) (desk : Desk) (refusal : Refusal)
    → (refusal ≢ Unavailable → guard s ask.at ask.caller ask.command desk ≡ Some refusal)
    → Steps s ask.at ask.caller ask.command desk (Err refusal) desk
refused s ask desk refusal refuses =
    let answer = answer_of s ask.at ask.caller ask.command desk in
    let after = effect s ask.at ask.caller ask.command desk in
    elim (unavailable_or refusal) [
      | inl same ↦ inl (ap Err same, refl)
      | inr other ↦
          inr (
            ap (λ (o : Option Refusal). outcome_unless o answer) (sym (refuses other)),
            ap (λ (o : Option Refusal). desk_unless o desk after) (sym (refuses other)),
          )
    ]

pub done : (s : Settings) (ask : Ask) (desk : Desk) (answer : Answer)
    → guard s ask.at ask.caller ask.command desk ≡ None
    → answer ≡ answer_of s ask.at ask.caller ask.command desk
    → Steps s ask.at ask.caller ask.command desk (Ok answer)
    (effect s ask.at ask.caller ask.command desk)
done s ask desk answer free told =
    let after = effect s ask.at ask.caller ask.command desk in
    inr (
      ap Ok told
          ∙ ap (λ (o : Option Refusal). outcome_unless o
          (answer_of s ask.at ask.caller ask.command desk)) (sym free),
      ap (λ (o : Option Refusal). desk_unless o desk after) (sym free),
    )

-- a command that only reads leaves the desk
pub unchanged : (s : Settings) (ask : Ask) (desk : Desk) → IsReading ask.command
    → effect s ask.at ask.caller ask.command desk ≡ desk
unchanged s ask desk reads =
    ap (λ (change : Change). applied change desk)
    (reads_nothing ask.command (call s ask.at ask.caller) (facts_of ask.command desk) reads)

answered_by_plan : (plan : Plan) (c : Call) (desk : Desk) → is_reading plan ≡ false
    → answer_of_change (change_by c (facts_of_plan plan desk) plan) ≡ answer_by c desk plan
answered_by_plan (Reads topic told) c desk writes = cc
answered_by_plan other c desk writes = refl

-- what a command that changes the desk answers is told of its change
answered_so : (s : Settings) (ask : Ask) (desk : Desk) (change : Change)
    → is_reading (plan_of ask.command) ≡ false
    → change ≡ change_of (call s ask.at ask.caller) (facts_of ask.command desk) ask.command
    → answer_of_change change ≡ answer_of s ask.at ask.caller ask.command desk
answered_so s ask desk change writes made =
    ap answer_of_change made ∙ answered_by_plan (plan_of ask.command) (call s ask.at ask.caller) desk writes

parts : (facts : Facts) (change : Change) (s : Settings) (ask : Ask) (desk : Desk)
    → IsDecided facts change s ask desk
    → (facts ≡ facts_of ask.command desk)
    × (guard s ask.at ask.caller ask.command desk ≡ None)
    × (change ≡ change_of (call s ask.at ask.caller) (facts_of ask.command desk) ask.command)
unfolding IsDecided
parts facts change s ask desk decided = decided

decide_so : (facts : Facts) (change : Change) (s : Settings) (ask : Ask) (desk : Desk)
    → facts ≡ facts_of ask.command desk
    → guard s ask.at ask.caller ask.command desk ≡ None
    → change ≡ change_of (call s ask.at ask.caller) facts ask.command
    → IsDecided facts change s ask desk
unfolding IsDecided
decide_so facts change s ask desk seen free made = (
  seen,
  free,
  made ∙ ap (λ (f : Facts). change_of (call s ask.at ask.caller) f ask.command) seen,
)

-- a command that reads and isn't refused
pub reading_step : (s : Settings) (ask : Ask) (desk : Desk) (answer : Answer) → IsDesk desk
    → IsReading ask.command → guard s ask.at ask.caller ask.command desk ≡ None
    → answer ≡ answer_of s ask.at ask.caller ask.command desk
    → IsStep s ask desk (Ok answer) desk
reading_step s ask desk answer is reads free told =
    lawful s ask desk (Ok answer) desk is
    (subst (λ (d : Desk). Steps s ask.at ask.caller ask.command desk (Ok answer) d)
    (unchanged s ask desk reads) (done s ask desk answer free told))

-- one that is refused, maybe out of memory
pub refused_step : (s : Settings) (ask : Ask) (desk : Desk) (refusal : Refusal) → IsDesk desk
    → (refusal ≢ Unavailable → guard s ask.at ask.caller ask.command desk ≡ Some refusal)
    → IsStep s ask desk (Err refusal) desk
refused_step s ask desk refusal is refuses =
    lawful s ask desk (Err refusal) desk is (refused s ask desk refusal refuses)

-- ---- on tables

pub unavailable_on : (s : Settings) (ask : Ask) (refusal : Refusal) (old new : State)
    → refusal ≡ Unavailable → LeavesTables old new → StepOverTables s ask (Err refusal) old new
unavailable_on s ask refusal old new same kept desk is stand clean = (
  desk,
  (lawful s ask desk (Err refusal) desk is (inl (ap Err same, refl)), is),
  stands kept (contents_of (due_of_row s desk) desk) stand,
)

pub refused_seeing : (facts : Facts) (s : Settings) (ask : Ask) (refusal : Refusal)
    (tables : State)
    → ((desk : Desk) → facts ≡ facts_of ask.command desk → refusal ≢ Unavailable
    → guard s ask.at ask.caller ask.command desk ≡ Some refusal)
    → StepsSeeing facts s ask (Err refusal) tables tables
refused_seeing facts s ask refusal tables refuses desk is seen stand clean = (
  desk,
  refused_step s ask desk refusal is (refuses desk seen),
  stand,
)

-- what every desk refuses
pub refused_on : (s : Settings) (ask : Ask) (refusal : Refusal) (tables : State)
    → ((desk : Desk) → guard s ask.at ask.caller ask.command desk ≡ Some refusal)
    → StepOverTables s ask (Err refusal) tables tables
refused_on s ask refusal tables always desk is stand clean = (
  desk,
  (refused_step s ask desk refusal is (λ known. always desk), is),
  stand,
)

pub read_where : (facts : Facts) (change : Change) (s : Settings) (ask : Ask) (outcome : Outcome)
    (old new : State) → IsReading ask.command → AnswersDue s ask facts old new outcome
    → IfErr outcome (λ refusal. refusal ≡ Unavailable) → LeavesTables old new
    → CarriesOut facts change s ask outcome old new
read_where facts change s ask (Ok answer) old new so told fault kept desk is holds stand clean =
    let decided = parts facts change s ask desk holds in (
      desk,
      reading_step s ask desk answer is so decided.1 (told desk is stand clean decided.0),
      stands kept (contents_of (due_of_row s desk) desk) stand,
    )
read_where facts change s ask (Err refusal) old new so told fault kept desk is holds stand clean = (
  desk,
  lawful s ask desk (Err refusal) desk is (inl (ap Err fault, refl)),
  stands kept (contents_of (due_of_row s desk) desk) stand,
)

-- what is told of any due moments is told of the desk's
answers_due : (facts : Facts) (s : Settings) (ask : Ask) (outcome : Outcome) (old new : State)
    → Answers s ask facts old new outcome → AnswersDue s ask facts old new outcome
answers_due facts s ask outcome old new told desk is stand clean =
    told desk is (due_of_row s desk, stand) clean

-- as it is told of the command that is asked
pub due_as : (facts : Facts) (s : Settings) (at : ℕ) (caller : List ℕ) (command asked : Command)
    (outcome : Outcome) (old new : State) → command ≡ asked
    → AnswersDue s (ask_by at caller asked) facts old new outcome
    → AnswersDue s (ask_by at caller command) facts old new outcome
due_as facts s at caller command asked outcome old new same told =
    subst (λ (c : Command). AnswersDue s (ask_by at caller c) facts old new outcome) (sym same) told

pub asked_as : (facts : Facts) (s : Settings) (at : ℕ) (caller : List ℕ) (command asked : Command)
    (outcome : Outcome) (old new : State) → command ≡ asked
    → Answers s (ask_by at caller asked) facts old new outcome
    → AnswersDue s (ask_by at caller command) facts old new outcome
asked_as facts s at caller command asked outcome old new same told =
    due_as facts s at caller command asked outcome old new same
    (answers_due facts s (ask_by at caller asked) outcome old new told)

pub written_where : (facts : Facts) (change : Change) (s : Settings) (ask : Ask) (outcome : Outcome)
    (old new : State) → is_reading (plan_of ask.command) ≡ false
    → IfOk outcome (λ answer. (answer ≡ answer_of_change change) × Writes change old new)
    → IfErr outcome (λ refusal. refusal ≡ Unavailable) → OnErr outcome (LeavesTables old new)
    → CarriesOut facts change s ask outcome old new
written_where facts change s ask (Ok answer) old new so done_so fault kept desk is holds stand
    clean =
    let decided = parts facts change s ask desk holds in
    let after = effect s ask.at ask.caller ask.command desk in
    let fits =
    subst (IsWritable desk) (sym decided.2)
    (change_writable s ask.at ask.caller ask.command desk is decided.1) in
    let step =
    done s ask desk answer decided.1
    (done_so.0 ∙ answered_so s ask desk change so decided.2) in (
      after,
      lawful s ask desk (Ok answer) after is step,
      subst (λ (c : Contents). HoldCommitted c new)
          (renewed s ask.at ask.caller ask.command desk is decided.1)
          (subst (λ (c : Change). HoldCommitted (contents_of (dues_after c (due_of_row s desk))
          (applied c desk)) new) decided.2
          (done_so.1 desk is fits (due_of_row s desk) stand)),
    )
written_where facts change s ask (Err refusal) old new so done_so fault kept desk is holds stand
    clean = (
      desk,
      lawful s ask desk (Err refusal) desk is (inl (ap Err fault, refl)),
      stands kept (contents_of (due_of_row s desk) desk) stand,
    )

pub decided_seeing : (facts : Facts) (change : Change) (s : Settings) (ask : Ask)
    (outcome : Outcome) (old new : State)
    → ((desk : Desk) → facts ≡ facts_of ask.command desk
    → (guard s ask.at ask.caller ask.command desk ≡ None)
    × (applied change desk ≡ effect s ask.at ask.caller ask.command desk))
    → change ≡ change_of (call s ask.at ask.caller) facts ask.command
    → CarriesOut facts change s ask outcome old new
    → StepsSeeing facts s ask outcome old new
decided_seeing facts change s ask outcome old new accepts made carries desk is seen =
    carries desk is (decide_so facts change s ask desk seen (accepts desk seen).0 made)

-- what spares the tables spares them at a fault
pub spared_by : {A E : Type 0} (r : Result A E) (old new : State) → LeavesTables old new
    → OnErr r (LeavesTables old new)
spared_by (Ok a) old new kept = tt
spared_by (Err e) old new kept = kept

pub spared_after : {X E : Type 0} (r : Result X E) (old mid new : State)
    → LeavesTables old mid → OnErr r (LeavesTables mid new) → OnErr r (LeavesTables old new)
spared_after (Ok x) old mid new first then = tt
spared_after (Err e) old mid new first then = joined first then
