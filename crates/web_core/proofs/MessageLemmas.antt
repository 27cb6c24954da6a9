-- What is done with a message, over tables.
use Rattle.std.proofs.Common.{◌≡◌, ℕ, Bool, List, false, Result, inl, inr, refl, subst, sym}
use Rattle.sqlite.specs.State.{State}
use Rattle.settings_core.specs.declared.settings.Settings.{Settings}
use Rattle.message_core.specs.Reply.{bytes_of, unavailable}
use Rattle.message_core.specs.declared.fault.WireFault.{WireFault}
use Rattle.message_core.specs.declared.request.Request.{Request}
use Rattle.store_tables.specs.Calls.{LeavesTables}
use Rattle.wire_core.proofs.Stepping.{leads_nowhere, leads_same, leads_wider}
use Rattle.page_wire.specs.Steps.{MessageReadStepsOn}
use Rattle.server_core.specs.Turns.{Answered}
use Rattle.web_core.specs.Dates.{IsDated}
use Rattle.web_core.specs.Messages.{IsAnswered, IsReplyOn, IsReplyTo, IsSeenOf, Seen, TakenSteps, TakenStepsOn}
use Rattle.web_core.specs.Messages.{control_of}
use Rattle.web_core.specs.declared.control.Control.{Control}
use Rattle.web_core.specs.declared.control.Control.TheVariants.{Step}
use Rattle.desk_model.specs.Desk.{Desk}

module _ (https : Bool) (s : Settings) (at : ℕ) (copied : Bool) (read : Result Request WireFault) where
  abbrev On : Control → List ℕ → State → State → Type 0
  On = TakenStepsOn https s at copied read

  -- its step was done
  pub answered : (control : Control) (bytes : List ℕ) (old new : State) → control ≡ Step
      → MessageReadStepsOn https s at read bytes old new → On control bytes old new
  answered control bytes old new is steps =
      subst (λ (c : Control). On c bytes old new) (sym is)
      (leads_wider s _ _ old new (λ desk after step. inr step) steps)

  -- there was no memory for its step
  pub left_out : (control : Control) (bytes : List ℕ) (old new : State) → control ≡ Step
      → bytes ≡ bytes_of (unavailable false) → LeavesTables old new → On control bytes old new
  left_out control bytes old new is told kept =
      subst (λ (c : Control). On c bytes old new) (sym is)
      (leads_same s (λ desk after. TakenSteps https s at copied read Step desk bytes after) old new kept
      (λ desk. inl (told, refl)))

  -- it was told, and the desk stays
  pub told : (control fixed : Control) (bytes : List ℕ) (tables : State) → control ≡ fixed
      → ((desk : Desk) → TakenSteps https s at copied read fixed desk bytes desk)
      → On control bytes tables tables
  told control fixed bytes tables is stays =
      subst (λ (c : Control). On c bytes tables tables) (sym is) (leads_nowhere s _ tables stays)

-- what is done with it is what was seen of it asks for
pub replied : (https : Bool) (s : Settings) (seen : Seen) (at : ℕ) (control : Control) (bytes : List ℕ)
    (old new : State) → control ≡ control_of s seen
    → TakenStepsOn https s at seen.copied seen.read control bytes old new
    → IsReplyOn https s seen at bytes old new
unfolding IsReplyTo
replied https s seen at control bytes old new is steps =
    subst (λ (c : Control). TakenStepsOn https s at seen.copied seen.read c bytes old new) is steps

-- a step with its reply is that of its message
pub answered_by : (https : Bool) (s : Settings) (a : Answered) (seen : Seen) (whole : List ℕ) (old new : Desk)
    → IsSeenOf a.message seen → IsDated whole a.reply → IsReplyTo https s seen a.at old whole new
    → IsAnswered https s a old new
unfolding IsAnswered
answered_by https s a seen whole old new is date step = (seen, whole, is, date, step)
