-- Two desks that a caller sees alike write a list for that caller alike: what is written is the text
-- of what comes of the command, and that is told of the caller's view.
use Rattle.std.specs.Prelude.{⊤, is_ok}
use Rattle.std.proofs.Common.{◌≡◌, ◌≢◌, ◌∙◌, ℕ, [], true, false, List, Option, Err, Ok, Result}
use Rattle.std.proofs.Common.{inl, inr, refl, sym, ap, subst}
use Rattle.std.specs.Io.KnownBytes.{Appends}
use Rattle.sqlite.specs.Store.{Ghosts}
use Rattle.settings_core.specs.declared.settings.Settings.{Settings}
use Rattle.desk_model.specs.Desk.{Desk}
use Rattle.desk_model.specs.Step.{Ask, Outcome, outcome_of}
use Rattle.desk_model.specs.declared.answer.Answer.{Answer}
use Rattle.desk_model.specs.declared.refusal.Refusal.TheVariants.{Unavailable}
use Rattle.desk_texts.specs.Texts.{answer_text}
use Rattle.desk_reports.specs.declared.fault.StreamFault.{StreamFault}
use Rattle.desk_reports.specs.declared.fault.StreamFault.TheVariants.{Refused, Write}
use Rattle.stream_core.specs.Written.{IsWritten}
use Rattle.service_core.specs.Alike.{IsWhole, WritesAlike}
use Rattle.service_core.specs.Streaming.{IsStreamed, is_write}
use Rattle.service_core.specs.TableSteps.{IsStep}
use Rattle.service_core.proofs.RunsAlike.{tells}

-- how a stream ends, and what it writes, by what comes of its command
abbrev ends_by : Outcome → Result ⊤ StreamFault
ends_by (Ok answer) = Ok tt
ends_by (Err refusal) = Err (Refused refusal)

abbrev text_by : Outcome → List ℕ
text_by (Ok answer) = answer_text answer
text_by (Err refusal) = []

-- what came of the command of a whole stream
abbrev Came : Settings → Ask → Desk → Result ⊤ StreamFault → List ℕ → Type 0
Came settings ask desk result printed =
    (outcome : Outcome) × (outcome ≢ Err Unavailable) × IsStep settings ask desk outcome desk
    × (result ≡ ends_by outcome) × (printed ≡ text_by outcome)

is_answer : (answer : Answer) (outcome : Outcome) → outcome ≡ Ok answer → outcome ≢ Err Unavailable
is_answer answer outcome is refused =
    let e : true ≡ false = ap is_ok (sym is ∙ refused) in cc

came : (s : Settings) (ask : Ask) (desk : Desk) (result : Result ⊤ StreamFault)
    (printed : List ℕ) → IsWhole result → IsStreamed s ask desk result printed
    → Came s ask desk result printed
came s ask desk (Ok done) printed whole h = (Ok h.0, is_answer h.0 (Ok h.0) refl, h.1, refl, h.2)
came s ask desk (Err Write) printed whole h = absurd (whole.0 refl)
came s ask desk (Err (Refused refusal)) printed whole h =
    elim h [
      | inl left ↦ (Err refusal, λ e. whole.1 (ap (λ (o : Outcome). ends_by o) e), left.0, refl, left.1)
      | inr cut ↦ absurd (whole.1 (ap (λ r. Err (Refused r)) cut.0))
    ]

written : (result : Result ⊤ StreamFault) (before after : Option (List ℕ)) (text : List ℕ)
    → IsWhole result → IsWritten (is_write result) before after text → Appends before after text
written (Ok done) before after text whole h = h
written (Err Write) before after text whole h = absurd (whole.0 refl)
written (Err (Refused refusal)) before after text whole h = h

pub written_alike : {S T : Type 0} (g : Ghosts S) (h : Ghosts T) (s : Settings) (ask : Ask)
    → WritesAlike g h s ask
written_alike g h s ask one other old new old_other new_other result other_result before after
    before_other after_other is stand clean is_other stand_other clean_other same reads whole
    whole_other streams streams_other =
    let left = came s ask one result streams.0 whole (streams.2 one is stand clean) in
    let right =
    came s ask other other_result streams_other.0 whole_other
    (streams_other.2 other is_other stand_other clean_other) in
    let alike : left.0 ≡ right.0 =
    tells s ask.caller ask one one left.0 (reads, refl) left.1 left.2
    ∙ ap (outcome_of s ask.at ask.caller ask.command) same
    ∙ sym (tells s ask.caller ask other other right.0 (reads, refl) right.1 right.2) in
    let one_text : streams_other.0 ≡ streams.0 =
    right.4 ∙ ap (λ (o : Outcome). text_by o) (sym alike) ∙ sym left.4 in (
      left.3 ∙ ap (λ (o : Outcome). ends_by o) alike ∙ sym right.3,
      streams.0,
      written result before after streams.0 whole streams.1,
      subst (Appends before_other after_other) one_text
          (written other_result before_other after_other streams_other.0 whole_other streams_other.1),
    )
