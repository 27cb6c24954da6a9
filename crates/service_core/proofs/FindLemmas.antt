-- What every desk refuses, and what is read where it doesn't, are the outcomes of a search and of
-- the counts of queues.
use Rattle.std.proofs.Common.{◌≡◌, ◌≢◌, ◌∙◌, ℕ, List, Option, Some, None, Result, Ok, Err}
use Rattle.std.proofs.Common.{IfErr, IfOk, ap}
use Rattle.settings_core.specs.declared.settings.Settings.{Settings}
use Rattle.desk_model.specs.Step.{refusal_beforehand}
use Rattle.desk_model.specs.declared.command.Command.{Command}
use Rattle.desk_model.specs.declared.command.Command.TheVariants.{Overdue}
use Rattle.desk_model.specs.declared.refusal.Refusal.{Refusal}
use Rattle.desk_model.specs.declared.refusal.Refusal.TheVariants.{Unavailable}
use Rattle.find_core.specs.Find.{refusal_of, unless_refused}

module _ {X : Type 0} where
  pub as_read : (result : Result X Refusal) (answer : X)
      → IfOk result (λ it. it ≡ answer) → IfErr result (λ refusal. refusal ≡ Unavailable)
      → result ≢ Err Unavailable → result ≡ Ok answer
  as_read (Ok it) answer same fault other = ap Ok same
  as_read (Err refusal) answer same fault other = absurd (other (ap Err fault))

module _ {X : Type 0} (s : Settings) (at : ℕ) (caller : List ℕ) (answer : X) (command : Command)
    (same : command ≡ Overdue) where
  abbrev by_first : Option Refusal → Result X Refusal
  by_first refused = unless_refused refused answer

  abbrev first : Command → Option Refusal
  first asked = refusal_beforehand s at caller asked

  pub refused_so : (refusal : Refusal) → Some refusal ≡ first command
      → Err refusal ≡ unless_refused (refusal_of s at caller) answer
  refused_so refusal is = ap by_first (is ∙ ap first same)

  pub read_so : (result : Result X Refusal) → None ≡ first command
      → IfOk result (λ it. it ≡ answer)
      → IfErr result (λ refusal. refusal ≡ Unavailable) → result ≢ Err Unavailable
      → result ≡ unless_refused (refusal_of s at caller) answer
  read_so result none read fault told =
      as_read result answer read fault told ∙ ap by_first (none ∙ ap first same)
