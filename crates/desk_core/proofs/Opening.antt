-- Queues come by opening them, and none goes or changes.
use Rattle.std.proofs.Common.{◌≡◌, ◌≢◌, ◌∙◌, ℕ, Bool, true, false, cond, List, [], ◌∷◌, find}
use Rattle.std.proofs.Common.{Option, Some, None, refl, ap, sym}
use Rattle.std.specs.Str.{bytes_eq}
use Rattle.std.proofs.lemmas.Slice.Eq.{bytes_eq-Decides}
use Rattle.rights_core.specs.Right.{admin_queue}
use Rattle.settings_core.specs.declared.settings.Settings.{Settings}
use Rattle.desk_model.specs.Change.{applied, no_change, queue_put}
use Rattle.desk_model.specs.Commands.{plan_of}
use Rattle.desk_model.specs.Desk.{Desk, has_lower_name, placed, queue_at}
use Rattle.desk_model.specs.Plan.{Call, change_by}
use Rattle.desk_model.specs.Rights.{holds_on_queue}
use Rattle.desk_model.specs.Step.{call, desk_unless, effect, facts_of, guard}
use Rattle.desk_model.specs.declared.change.Change.{Change}
use Rattle.desk_model.specs.declared.command.Command.{Command}
use Rattle.desk_model.specs.declared.command.Command.TheVariants as command
use Rattle.desk_model.specs.declared.refusal.Refusal.{Refusal}
use Rattle.desk_model.specs.declared.rows.QueueRow.{QueueRow}
use Rattle.desk_core.proofs.DeskLaw.ByKind.{MeetsAt, by_plan_at}
use Rattle.desk_core.proofs.DeskLaw.Stages.{queues_after}
use Rattle.desk_core.proofs.Goes.{holding}
use Rattle.desk_core.proofs.Linked.{step_to}
use Rattle.desk_core.proofs.Moved.{AtEachStep, none_there}
use Rattle.desk_core.specs.Laws.{QueuesLaw}

none_of : {X : Type 0} (b : Bool) (x : X) (o : Option X) → cond b (Some x) o ≡ None
    → (b ≡ false) × (o ≡ None)
none_of true x o e = cc
none_of false x o e = (refl, e)

either_first : {X : Type 0} (a b : Bool) (x y : X) (o : Option X) → (b ≡ true → a ≡ false)
    → cond a (Some x) (cond b (Some y) o) ≡ cond b (Some y) (cond a (Some x) o)
either_first true true x y o apart = let no : true ≡ false = apart refl in cc
either_first true false x y o apart = refl
either_first false b x y o apart = refl

-- what is found where one is placed that none was found like
placed_found : {X : Type 0} (test : X → Bool) (lower : X → X → Bool) (xs : List X) (x : X)
    → (test x ≡ true → find test xs ≡ None)
    → find test (placed lower xs x) ≡ cond (test x) (Some x) (find test xs)
placed_found test lower [] x new = refl
placed_found test lower (y ∷ ys) x new =
    elim (lower x y)
    as (λ b. find test (cond b (x ∷ y ∷ ys) (y ∷ placed lower ys x))
    ≡ cond (test x) (Some x) (cond (test y) (Some y) (find test ys))) [
      | true ↦ refl
      | false ↦
          ap (λ o. cond (test y) (Some y) o)
          (placed_found test lower ys x (λ e. (none_of (test y) y (find test ys) (new e)).1))
          ∙ either_first (test y) (test x) y x (find test ys)
          (λ e. (none_of (test y) y (find test ys) (new e)).0)
    ]

-- the command opens the queue of that name
abbrev Opens : Call → Command → Desk → Desk → List ℕ → Type 0
Opens call asked old new name = (lifecycle : List ℕ) × (level : Option (List ℕ))
    × (asked ≡ command.OpenQueue name lifecycle level) × (queue_at old name ≡ None)
    × (queue_at new name ≡ Some (record { name = name; lifecycle = lifecycle; level = level }))
    × (holds_on_queue call.settings call.caller admin_queue name ≡ true)

-- where the queue of a name is another one after a change, the command opens it
record Opened (call : Call) (asked : Command) (desk : Desk) (change : Change) : Type 0 where
  opens : (name : List ℕ) → queue_at (queue_put change.queue desk) name ≢ queue_at desk name
      → Opens call asked desk (queue_put change.queue desk) name

none_opened : (call : Call) (asked : Command) (desk : Desk) (change : Change)
    → change.queue ≡ None → Opened call asked desk change
none_opened call asked desk change none =
    record {
      opens = λ name differs.
          absurd (differs (ap (λ o. queue_at (queue_put o desk) name) none));
    }

opened_met : (call : Call) (desk : Desk) (asked : Command)
    → MeetsAt call (Opened call asked) desk (plan_of asked)
opened_met call desk (command.OpenQueue queue lifecycle level) = λ none.
    let row : QueueRow = record { name = queue; lifecycle = lifecycle; level = level } in
    let new : queue_at desk queue ≡ None = none_there (queue_at desk queue) none.1.1.1.0 in
    record {
      opens = λ name differs.
          let found : queue_at (queue_put (Some row) desk) name
          ≡ cond (bytes_eq queue name) (Some row) (queue_at desk name) =
          placed_found (λ q. bytes_eq q.name name) has_lower_name desk.queues row
          (λ e. ap (queue_at desk) (sym ((bytes_eq-Decides queue name).0 e)) ∙ new) in
          elim (bytes_eq queue name)
          as (λ b. bytes_eq queue name ≡ b
          → queue_at (queue_put (Some row) desk) name ≡ cond b (Some row) (queue_at desk name)
          → Opens call (command.OpenQueue queue lifecycle level) desk (queue_put (Some row) desk)
          name) [
            | true ↦ λ e is.
                let same : queue ≡ name = (bytes_eq-Decides queue name).0 e in (
                  lifecycle,
                  level,
                  ap (λ (q : List ℕ). command.OpenQueue q lifecycle level) same,
                  ap (queue_at desk) (sym same) ∙ new,
                  is ∙ ap (λ (q : List ℕ). Some (record {
                    name = q;
                    lifecycle = lifecycle;
                    level = level;
                  })) same,
                  ap (holds_on_queue call.settings call.caller admin_queue) (sym same)
                      ∙ holding (holds_on_queue call.settings call.caller admin_queue queue)
                      none.1.1.0,
                )
            | false ↦ λ e is. absurd (differs is)
          ] refl found;
    }
opened_met call desk (command.Create queue subject status requestors) = λ none.
    none_opened call (command.Create queue subject status requestors) desk _ refl
opened_met call desk other = λ r there same none. none_opened call other desk _ refl

queues_unless : (s : Settings) (at : ℕ) (caller : List ℕ) (asked : Command) (desk : Desk)
    (o : Option Refusal) → guard s at caller asked desk ≡ o
    → QueuesLaw (step_to s at caller asked desk o
    (desk_unless o desk (effect s at caller asked desk)))
queues_unless s at caller asked desk (Some refusal) refused name differs = absurd (differs refl)
queues_unless s at caller asked desk None free name differs =
    let asks = call s at caller in
    let change = change_by asks (facts_of asked desk) (plan_of asked) in
    let met : Opened asks asked desk change =
    by_plan_at (Opened asks asked) asks (plan_of asked) desk
    (λ reads. none_opened asks asked desk no_change refl) (opened_met asks desk asked) free in
    let same : queue_at (applied change desk) name
    ≡ queue_at (queue_put change.queue desk) name =
    ap (find (λ q. bytes_eq q.name name)) (queues_after change desk) in
    let got = met.opens name (λ e. differs (same ∙ e)) in
    (got.0, got.1, got.2, got.3, same ∙ got.4, got.5)

pub queues_law : AtEachStep QueuesLaw
queues_law s at caller asked desk is =
    queues_unless s at caller asked desk (guard s at caller asked desk) refl
