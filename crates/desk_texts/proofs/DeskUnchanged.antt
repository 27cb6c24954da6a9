-- A command that shows something leaves the desk as it was, and so may be left out of a run.
use Rattle.std.proofs.Common.{◌≡◌, ◌∙◌, inl, inr, ℕ, true, false, List, Option, Some, None, Ok, Err}
use Rattle.std.proofs.Common.{refl, ap, sym}
use Rattle.settings_core.specs.declared.settings.Settings.{Settings}
use Rattle.desk_model.specs.Change.{applied}
use Rattle.desk_model.specs.Commands.{plan_of}
use Rattle.desk_model.specs.Desk.{Desk}
use Rattle.desk_model.specs.Plan.{Call, Plan, Reads, answer_by, change_by, filed_or_done, facts_of_plan}
use Rattle.desk_model.specs.Step.{Outcome, Steps, call, desk_unless, guard, outcome_unless}
use Rattle.desk_model.specs.declared.answer.Answer.{Answer}
use Rattle.desk_model.specs.declared.command.Command.{Command}
use Rattle.desk_model.specs.declared.refusal.Refusal.{Refusal}
use Rattle.desk_model.specs.declared.rows.RequestRow.{RequestRow}
use Rattle.desk_texts.specs.Short.{is_short}

-- what a command that changes the desk answers is short
changed_short : (filed : Option RequestRow) → is_short (Ok (filed_or_done filed)) ≡ true
changed_short None = refl
changed_short (Some row) = refl

long_is_not_short : (x : Answer) (filed : Option RequestRow) → is_short (Ok x) ≡ false
    → outcome_unless None (filed_or_done filed) ≡ Ok x → ⊥
long_is_not_short x filed long same =
    let no : true ≡ false = sym (changed_short filed) ∙ ap is_short same ∙ long in cc

-- what a plan answers at length it tells of a desk that it leaves
unchanged_by_plan : (c : Call) (o : Option Refusal) (plan : Plan) (old : Desk) (x : Answer)
    → is_short (Ok x) ≡ false → outcome_unless o (answer_by c old plan) ≡ Ok x
    → desk_unless o old (applied (change_by c (facts_of_plan plan old) plan) old) ≡ old
unchanged_by_plan c (Some refusal) plan old x long e = refl
unchanged_by_plan c None (Reads topic told) old x long e = refl
unchanged_by_plan c None plan old x long e =
    absurd (long_is_not_short x (change_by c (facts_of_plan plan old) plan).filed long e)

-- what isn't told shortly is shown
pub unchanged_if_long : (s : Settings) (at : ℕ) (caller : List ℕ) (command : Command)
    (old new : Desk) (outcome : Outcome)
    → is_short outcome ≡ false → Steps s at caller command old outcome new → new ≡ old
unchanged_if_long s at caller command old new (Err refusal) long steps = absurd cc
unchanged_if_long s at caller command old new (Ok x) long (inl left) = left.1
unchanged_if_long s at caller command old new (Ok x) long (inr made) =
    made.1
    ∙ unchanged_by_plan (call s at caller) (guard s at caller command old) (plan_of command) old x
    long (sym made.0)
