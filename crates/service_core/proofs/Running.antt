-- A run goes on by one step.
use Rattle.std.proofs.Common.{◌≡◌, ◌<◌, ◌≤◌, ◌+◌, ℕ, List, [], ◌∷◌, ◌++◌, ◌∙◌, String, ap}
use Rattle.std.proofs.Common.{get_or, length, map, refl, string_bytes, subst, sym, take}
use Rattle.std.proofs.lemmas.List.{map-append, take_more}
use Rattle.sqlite.specs.State.{State}
use Rattle.settings_core.specs.declared.settings.Settings.{Settings}
use Rattle.desk_model.specs.declared.command.Command.{Command}
use Rattle.desk_model.specs.Desk.{Desk}
use Rattle.desk_model.specs.Step.{Ask, Outcome, RunsBy}
use Rattle.store_core.proofs.FactsLemmasOfDesk.{take_all}
use Rattle.store_tables.specs.Calls.{WasClean}
use Rattle.service_core.specs.TableSteps.{IsStep, RunsOn, StepOverTables, ask_by}
use Rattle.service_core.specs.TableSteps.{ask_of, asks_of}

pub run_more : {A B : Type 0} (Does : A → Desk → B → Desk → Type 0) (old : Desk) (asks : List A)
    (outcomes : List B) (mid : Desk) (ask : A) (outcome : B) (new : Desk)
    → RunsBy Does old asks outcomes mid → Does ask mid outcome new
    → RunsBy Does old (asks ++ ask ∷ []) (outcomes ++ outcome ∷ []) new
run_more Does old [] [] mid ask outcome new same does =
    (new, subst (λ (d : Desk). Does ask d outcome new) same does, refl)
run_more Does old (a ∷ asks) (o ∷ outcomes) mid ask outcome new run does =
    (run.0, run.1, run_more Does run.0 asks outcomes mid ask outcome new run.2 does)
run_more Does old [] (o ∷ outcomes) mid ask outcome new run does = absurd run
run_more Does old (a ∷ asks) [] mid ask outcome new run does = absurd run

pub run_begins : (s : Settings) (tables : State) → RunsOn s [] [] tables tables
run_begins s tables desk is stand clean = (desk, (refl, is), stand)

pub run_goes_on : (s : Settings) (asks : List Ask) (outcomes : List Outcome) (ask : Ask)
    (outcome : Outcome) (old mid new : State)
    → RunsOn s asks outcomes old mid → WasClean mid new → StepOverTables s ask outcome mid new
    → RunsOn s (asks ++ ask ∷ []) (outcomes ++ outcome ∷ []) old new
run_goes_on s asks outcomes ask outcome old mid new run honest step desk is stand clean =
    let so_far = run desk is stand (honest clean) in
    let then = step so_far.0 so_far.1.1 so_far.2 clean in (
      then.0,
      (
        run_more (IsStep s) desk asks outcomes so_far.0 ask outcome then.0 so_far.1.0 then.1.0,
        then.1.1,
      ),
      then.2,
    )

map_more : {X Y : Type 0} (f : X → Y) (xs : List X) (i : ℕ) (d : X) → i < length xs
    → map f (take (i + 1) xs) ≡ map f (take i xs) ++ f (get_or xs i d) ∷ []
map_more f xs i d low =
    ap (map f) (take_more xs i d low) ∙ map-append f (take i xs) (get_or xs i d ∷ [])

-- the next of the commands that are asked
pub run_on : {A : Type 0} (s t : Settings) (asked : List (ℕ × String A × Command)) (i : ℕ)
    (item : ℕ × String A × Command) (caller : List ℕ) (outcomes more : List Outcome)
    (outcome : Outcome) (old mid new : State)
    → i < length asked → more ≡ outcomes ++ outcome ∷ [] → t ≡ s
    → item ≡ get_or asked i item → caller ≡ string_bytes item.1
    → RunsOn s (map ask_of (take i asked)) outcomes old mid → WasClean mid new
    → StepOverTables t (ask_by item.0 caller item.2) outcome mid new
    → RunsOn s (map ask_of (take (i + 1) asked)) more old new
run_on s t asked i item caller outcomes more o old mid new low longer same is named run honest
    step =
    let asks = map ask_of (take i asked) in
    let by_name =
    subst (λ (c : List ℕ). StepOverTables t (ask_by item.0 c item.2) o mid new) named step in
    let by_settings =
    subst (λ (x : Settings). StepOverTables x (ask_of item) o mid new) same by_name in
    let goes = run_goes_on s asks outcomes (ask_of item) o old mid new run honest by_settings in
    let grown = map_more ask_of asked i item low ∙ ap (λ x. asks ++ ask_of x ∷ []) (sym is) in
    subst (λ (xs : List Ask). RunsOn s xs more old new) (sym grown)
    (subst (λ (os : List Outcome). RunsOn s (asks ++ ask_of item ∷ []) os old new) (sym longer)
    goes)

pub all_asked : {A : Type 0} (s : Settings) (asked : List (ℕ × String A × Command)) (i : ℕ)
    (outcomes : List Outcome) (old new : State) → length asked ≤ i
    → RunsOn s (map ask_of (take i asked)) outcomes old new
    → RunsOn s (asks_of asked) outcomes old new
all_asked s asked i outcomes old new all run =
    subst (λ (xs : List (ℕ × String _ × Command)). RunsOn s (map ask_of xs) outcomes old new)
    (take_all i asked all) run
