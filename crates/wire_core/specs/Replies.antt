-- Which reply each outcome and each fault has.
use Rattle.std.specs.Prelude.{◌≡◌, ◌≢◌, ◌⊎◌, ℕ, Bool, false, List, ◌++◌, Option, Some, None, Ok, Err, codes, decimal}
use Rattle.std.specs.Str.{bytes_eq}
use Rattle.desk_model.specs.Step.{Outcome}
use Rattle.desk_model.specs.declared.answer.Answer.{Answer}
use Rattle.desk_model.specs.declared.answer.Answer.TheVariants as answer
use Rattle.desk_model.specs.declared.refusal.Refusal.{Refusal}
use Rattle.desk_model.specs.declared.refusal.Refusal.TheVariants as refusal
use Rattle.desk_texts.specs.Texts.{outcome_text, refusal_text}
use Rattle.message_core.specs.Fault as message
use Rattle.message_core.specs.Reply.{bytes_of, unavailable}
use Rattle.message_core.specs.declared.fault.WireFault.{WireFault}
use Rattle.message_core.specs.declared.message.Message.{Message}
use Rattle.message_core.specs.declared.reply.Allow.{Allow}
use Rattle.message_core.specs.declared.reply.Reply.{Reply}
use Rattle.route_core.specs.Fault as route
use Rattle.route_core.specs.declared.fault.Unasked.{Unasked}
use Rattle.route_core.specs.declared.fault.Unasked.TheVariants.{NoRoute, BadMethod, NoToken}
use Rattle.route_core.specs.declared.fault.Unasked.TheVariants.{BadBody}

abbrev pub reply_with : ℕ → Option Allow → List ℕ → Bool → Reply
reply_with status allow body head_only =
    record { status = status; allow = allow; body = body; head_only = head_only }

-- a HEAD, whose reply is written without its body
abbrev pub is_head : Message → Bool
is_head message = bytes_eq message.method (codes "HEAD")

-- ---- what came of a command

-- a request that was filed, or any other answer
abbrev pub code_of_answer : Answer → ℕ
code_of_answer (answer.Created id) = 201
code_of_answer other = 200

abbrev pub code_of_refusal : Refusal → ℕ
code_of_refusal refusal.UnknownCaller = 403
code_of_refusal refusal.BadMoment = 400
code_of_refusal refusal.BadText = 400
code_of_refusal refusal.NotFound = 404
code_of_refusal refusal.UnknownName = 400
code_of_refusal (refusal.Denied right) = 403
code_of_refusal refusal.NoChange = 409
code_of_refusal refusal.NoTransition = 409
code_of_refusal refusal.OpenDependency = 409
code_of_refusal refusal.Owned = 409
code_of_refusal refusal.NotOwned = 409
code_of_refusal refusal.NotOwner = 409
code_of_refusal refusal.Exists = 409
code_of_refusal refusal.SelfLink = 400
code_of_refusal refusal.Full = 409
code_of_refusal refusal.Unavailable = 503

abbrev pub code_of : Outcome → ℕ
code_of (Ok answer) = code_of_answer answer
code_of (Err refusal) = code_of_refusal refusal

-- the text of what came of a command is the body
abbrev pub outcome_reply : Bool → Outcome → Reply
outcome_reply head_only outcome =
    reply_with (code_of outcome) None (outcome_text outcome) head_only

-- ---- faults

-- words, a number and a name
unfoldable pub fault_text : List ℕ → ℕ → List ℕ → List ℕ
fault_text words number name =
    words ++ (codes " " ++ (decimal number ++ (codes " " ++ (name ++ codes "\n"))))

-- a stream without a message
abbrev pub stream_reply : WireFault → Reply
stream_reply fault =
    reply_with 400 None
    (fault_text (codes "bad message") (message.number_of fault) (message.name_of fault)) false

abbrev pub code_of_unasked : Unasked → ℕ
code_of_unasked NoRoute = 404
code_of_unasked (BadMethod methods) = 405
code_of_unasked NoToken = 403
code_of_unasked BadBody = 400

-- the methods of the place are told where the message has another one
abbrev pub allow_of : Unasked → Option Allow
allow_of NoRoute = None
allow_of (BadMethod methods) = Some methods
allow_of NoToken = None
allow_of BadBody = None

abbrev pub bad_request_text : Unasked → List ℕ
bad_request_text unasked =
    let fault = route.fault_of unasked in
    fault_text (codes "bad request") (route.number_of fault) (route.name_of fault)

-- one who has no token is told what an unknown caller is told
abbrev pub text_of_unasked : Unasked → List ℕ
text_of_unasked NoRoute = bad_request_text NoRoute
text_of_unasked (BadMethod methods) = bad_request_text (BadMethod methods)
text_of_unasked NoToken = refusal_text refusal.UnknownCaller
text_of_unasked BadBody = bad_request_text BadBody

-- a message that asks for no command
abbrev pub unasked_reply : Bool → Unasked → Reply
unasked_reply head_only unasked =
    reply_with (code_of_unasked unasked) (allow_of unasked) (text_of_unasked unasked) head_only

-- the reply tells the fault of a stream, or that there was no memory
abbrev pub TellsFault : WireFault → List ℕ → Type 0
TellsFault fault bytes =
    (bytes ≡ bytes_of (unavailable false))
    ⊎ ((fault ≢ WireFault.NoMemory) × (bytes ≡ bytes_of (stream_reply fault)))
