-- A reply with the code 503 tells that nothing was done.
use Rattle.std.proofs.Common.{◌≡◌, ◌∙◌, inl, inr, ℕ, Bool, List, Option, None, Ok, Err, Result}
use Rattle.std.proofs.Common.{refl, ap, sym, take, get_or, arith}
use Rattle.std.specs.Fmt.{digits}
use Rattle.settings_core.specs.declared.settings.Settings.{Settings}
use Rattle.desk_model.specs.Desk.{Desk}
use Rattle.desk_model.specs.Step.{Ask, Outcome, Steps}
use Rattle.desk_model.specs.declared.answer.Answer.TheVariants as answer
use Rattle.desk_texts.specs.Texts.{outcome_text}
use Rattle.message_core.specs.Reply.{bytes_of, head_of, status_line}
use Rattle.message_core.specs.declared.message.Message.{Message}
use Rattle.message_core.specs.declared.fault.WireFault.{WireFault}
use Rattle.route_core.specs.Commands.{Asked}
use Rattle.service_core.specs.TableSteps.{ask_by}
use Rattle.wire_core.specs.Replies.{is_head, outcome_reply, reply_with}
use Rattle.wire_core.specs.Steps.{CommandSteps, IsUnavailable, ReadSteps, StreamSteps}
use Rattle.wire_core.proofs.Stepping.{refused_same}

-- ---- the first digit of a reply's code

abbrev digit : List ℕ → ℕ
digit bytes = get_or (take 12 bytes) 9 0

filed_digit : (h : Bool) (text : List ℕ) → digit (bytes_of (reply_with 201 None text h)) ≡ 50
unfolding digits head_of status_line
filed_digit h text = refl

done_digit : (h : Bool) (text : List ℕ) → digit (bytes_of (reply_with 200 None text h)) ≡ 50
unfolding digits head_of status_line
done_digit h text = refl

-- ---- a step

done_same : (s : Settings) (ask : Ask) (h : Bool) (outcome : Outcome) (old new : Desk)
    → digit (bytes_of (outcome_reply h outcome)) ≡ 53
    → Steps s ask.at ask.caller ask.command old outcome new → new ≡ old
done_same s ask h (Err refusal) old new told steps =
    refused_same s ask.at ask.caller ask.command old new refusal steps
done_same s ask h (Ok (answer.Created id)) old new told steps =
    let no : ◌≡◌ {A = ℕ} 50 53 = sym (filed_digit h (outcome_text (Ok (answer.Created id)))) ∙ told in
    absurd (omega (arith, no))
done_same s ask h (Ok other) old new told steps =
    let no : ◌≡◌ {A = ℕ} 50 53 = sym (done_digit h (outcome_text (Ok other))) ∙ told in
    absurd (omega (arith, no))

command_same : (s : Settings) (at : ℕ) (message : Message)
    (asked : Asked) (old : Desk) (bytes : List ℕ) (new : Desk)
    → digit bytes ≡ 53 → CommandSteps s at message asked old bytes new → new ≡ old
command_same s at message (Err unasked) old bytes new told did = did.1
command_same s at message (Ok asked) old bytes new told did =
    done_same s (ask_by at asked.0 asked.1) (is_head message) did.0 old new (ap digit (sym did.2) ∙ told) did.1.step

read_same : (s : Settings) (at : ℕ) (read : Result Message WireFault) (old : Desk)
    (bytes : List ℕ) (new : Desk) → digit bytes ≡ 53 → ReadSteps s at read old bytes new → new ≡ old
read_same s at (Err fault) old bytes new told did = did.1
read_same s at (Ok message) old bytes new told (inl left) = left.1
read_same s at (Ok message) old bytes new told (inr did) =
    command_same s at message _ old bytes new told did

pub desk_left : (s : Settings) (at : ℕ) (had left : Option (List ℕ)) (old : Desk) (bytes : List ℕ)
    (new : Desk) → StreamSteps s at had left old bytes new → IsUnavailable bytes → new ≡ old
desk_left s at had left old bytes new steps told =
    read_same s at steps.0 old bytes new (ap (λ (b : List ℕ). get_or b 9 0) told) steps.2
