-- A run of message steps is a run of messages.
use Rattle.std.proofs.Common.{◌≡◌, ℕ, Bool, List, [], ◌∷◌, Option, Result, Ok, Err, refl, sym, subst}
use Rattle.sqlite.specs.State.{State}
use Rattle.settings_core.specs.declared.settings.Settings.{Settings}
use Rattle.std.specs.Prelude.{IfOk}
use Rattle.std.specs.declared.alloc.AllocError.{AllocError}
use Rattle.connection_core.specs.Machine.{Conn}
use Rattle.server_core.specs.Calls.{Call}
use Rattle.server_core.specs.Host.{Told}
use Rattle.server_core.specs.Served.{IsServed, Runs, Serves, Turn, answers}
use Rattle.server_core.specs.declared.ending.Ending.{Ending}
use Rattle.server_core.specs.Turns.{Answered}
use Rattle.store_tables.specs.Calls.{WasClean}
use Rattle.web_core.specs.Dates.{IsDatedAt}
use Rattle.web_core.specs.Messages.{IsSeenOf, RunsAnswersOn, RunsSome, Seen, StepsAt}
use Rattle.web_core.proofs.MessageLemmas.{answered_by}

module _ {D : Type 0} (https_in proxied_in : D → Bool) (settings_in : D → Settings) (tables_in : D → State)
    (told_in : D → Option ℕ) (Notes : D → Answered → Seen → List ℕ → D → Type 0) where
  abbrev Taken : D → Answered → Seen → List ℕ → D → Type 0
  Taken old a seen whole new =
      IsSeenOf a.message seen × IsDatedAt (told_in new) whole a.reply × Notes old a seen whole new

  abbrev Step : D → Answered → D → Type 0
  Step old a new =
      (seen : Seen) × (whole : List ℕ)
      × StepsAt (https_in old) (settings_in old) seen a.at whole (tables_in old) (tables_in new)
      × (settings_in new ≡ settings_in old) × (https_in new ≡ https_in old)
      × (proxied_in new ≡ proxied_in old) × Taken old a seen whole new

  abbrev IsRun : List Answered → D → D → Type 0
  IsRun answers old new =
      RunsAnswersOn (https_in old) (settings_in old) answers (tables_in old) (tables_in new)
      × WasClean (tables_in old) (tables_in new)

  runs_both : (answers : List Answered) (old new : D) → Runs Step answers old new → IsRun answers old new
  runs_both [] old new same =
      let stays : IsRun [] old old = ((λ desk is stands clean. (desk, (refl, is), stands)), λ clean. clean) in
      subst (λ (d : D). IsRun [] old d) (sym same) stays
  runs_both (a ∷ rest) old new (mid, (seen, whole, step, same, named, behind, taken), runs) =
      let others = runs_both rest mid new runs in
      let run =
      subst (λ (h : Bool). RunsAnswersOn h (settings_in old) rest (tables_in mid) (tables_in new)) named
      (subst (λ (s : Settings). RunsAnswersOn (https_in mid) s rest (tables_in mid) (tables_in new)) same
      others.0) in (
        λ desk is stands clean.
            let first = step.0 desk is stands (others.1 clean) in
            let last = run first.0 first.1.1 first.2 clean in
            let sent =
            answered_by (https_in old) (settings_in old) a seen whole desk first.0 taken.0
            (told_in mid, taken.1) first.1.0 in
            (last.0, ((first.0, sent, last.1.0), last.1.1), last.2),
        λ clean. step.1 (others.1 clean),
      )

  -- what a server has done is a run of messages
  pub served_messages : (States : List ℕ → Option ℕ → Type 0) (shuts : D → Bool)
      (told tells : Told) (calls called : Option (List Call))
      → ((most : ℕ) (turns : List Turn) (olds news : List Conn) (desk next : D)
      → Serves States Step shuts most turns olds desk news next → Runs Step (answers turns) desk next)
      → (places most : ℕ) (old new : D) (r : Result Ending AllocError)
      → IfOk r (λ ending. IsServed States Step shuts told tells calls called places most old ending new)
      → IfOk r (λ ending. RunsSome (https_in old) (settings_in old) (tables_in old) (tables_in new))
  served_messages States shuts told tells calls called law places most old new (Err e) served = tt
  served_messages States shuts told tells calls called law places most old new (Ok ending)
      (news, left, count, turns, last, (ts, serves, answered, many, clock, linked, adds), ends, rest) =
      let run = runs_both (answers ts) old new (law most ts _ news old new serves) in
      (answers ts, run.0, run.1)
