-- The replies to outcomes and faults have the form of a reply.
use Rattle.std.proofs.Common.{Bool, Ok, Err, refl}
use Rattle.std.proofs.Common.{◌≤◌, length, arith, lit<}
use Rattle.desk_model.specs.Step.{Outcome}
use Rattle.desk_model.specs.declared.answer.Answer.TheVariants as answer
use Rattle.desk_model.specs.declared.refusal.Refusal.TheVariants as refusal
use Rattle.message_core.specs.Reply.{IsReply, bytes_of, unavailable}
use Rattle.message_core.proofs.ReplyLemmas.{short_reply}
use Rattle.message_core.specs.declared.fault.WireFault.{WireFault}
use Rattle.route_core.specs.declared.fault.Unasked.{Unasked}
use Rattle.route_core.specs.declared.fault.Unasked.TheVariants.{NoRoute, BadMethod, NoToken}
use Rattle.route_core.specs.declared.fault.Unasked.TheVariants.{BadBody}
use Rattle.wire_core.specs.Replies.{outcome_reply, stream_reply, unasked_reply}

pub outcome_form : (head_only : Bool) (outcome : Outcome)
    → IsReply (outcome_reply head_only outcome)
outcome_form h (Ok (answer.Created id)) = record { code = refl; allow = refl }
outcome_form h (Ok other) = record { code = refl; allow = refl }
outcome_form h (Err refusal.UnknownCaller) = record { code = refl; allow = refl }
outcome_form h (Err refusal.BadMoment) = record { code = refl; allow = refl }
outcome_form h (Err refusal.BadText) = record { code = refl; allow = refl }
outcome_form h (Err refusal.NotFound) = record { code = refl; allow = refl }
outcome_form h (Err refusal.UnknownName) = record { code = refl; allow = refl }
outcome_form h (Err (refusal.Denied right)) = record { code = refl; allow = refl }
outcome_form h (Err refusal.NoChange) = record { code = refl; allow = refl }
outcome_form h (Err refusal.NoTransition) = record { code = refl; allow = refl }
outcome_form h (Err refusal.OpenDependency) = record { code = refl; allow = refl }
outcome_form h (Err refusal.Owned) = record { code = refl; allow = refl }
outcome_form h (Err refusal.NotOwned) = record { code = refl; allow = refl }
outcome_form h (Err refusal.NotOwner) = record { code = refl; allow = refl }
outcome_form h (Err refusal.Exists) = record { code = refl; allow = refl }
outcome_form h (Err refusal.SelfLink) = record { code = refl; allow = refl }
outcome_form h (Err refusal.Full) = record { code = refl; allow = refl }
outcome_form h (Err refusal.Unavailable) = record { code = refl; allow = refl }

pub stream_form : (fault : WireFault) → IsReply (stream_reply fault)
stream_form fault = record { code = refl; allow = refl }

pub unasked_form : (head_only : Bool) (unasked : Unasked)
    → IsReply (unasked_reply head_only unasked)
unasked_form h NoRoute = record { code = refl; allow = refl }
unasked_form h (BadMethod methods) = record { code = refl; allow = refl }
unasked_form h NoToken = record { code = refl; allow = refl }
unasked_form h BadBody = record { code = refl; allow = refl }

-- the reply that nothing was done is a short one
pub unavailable_short : (head_only : Bool) → length (bytes_of (unavailable head_only)) ≤ 512
unavailable_short head_only =
    let short =
    short_reply (unavailable head_only) (record { code = refl; allow = refl }) (lit< tt) in
    omega (arith, short)
