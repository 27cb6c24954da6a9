-- Examples of the definitions: the code of each outcome and of each message that asks for nothing,
-- what is told of a fault, and which faults tell of a failed call.
use Rattle.std.specs.Prelude.{◌≡◌, refl, ⊤, true, false, [], List, ℕ, codes, Some, None, Ok, Err}
use Rattle.std.specs.Fmt.{digits}
use Rattle.desk_model.specs.declared.answer.Answer.TheVariants as answer
use Rattle.desk_model.specs.declared.refusal.Refusal.TheVariants as refusal
use Rattle.message_core.specs.declared.fault.WireFault.TheVariants as wire
use Rattle.message_core.specs.declared.message.Message.{Message}
use Rattle.message_core.specs.declared.reply.Allow.TheVariants as allow
use Rattle.route_core.specs.declared.fault.Unasked.TheVariants.{NoRoute, BadMethod, NoToken}
use Rattle.route_core.specs.declared.fault.Unasked.TheVariants.{BadBody}
use Rattle.wire_core.specs.Fault.{is_unread, tells_failed_read, tells_failed_write}
use Rattle.wire_core.specs.Replies.{allow_of, code_of, code_of_answer, code_of_refusal}
use Rattle.wire_core.specs.Replies.{code_of_unasked, fault_text, is_head, outcome_reply, stream_reply}
use Rattle.wire_core.specs.Replies.{text_of_unasked, unasked_reply}
use Rattle.wire_core.specs.declared.fault.ServeFault.TheVariants.{Read, Write, NoMemory}
use Rattle.wire_core.specs.declared.fault.Unanswered.TheVariants.{NoRoom, Unread}

-- Replies.antt: what came of a command

filed_request_is_created : code_of_answer (answer.Created 7) ≡ 201
filed_request_is_created = refl

done_is_ok : code_of_answer answer.Done ≡ 200
done_is_ok = refl

refused_with_400 :
    (code_of_refusal refusal.BadMoment ≡ 400) × (code_of_refusal refusal.BadText ≡ 400)
    × (code_of_refusal refusal.UnknownName ≡ 400) × (code_of_refusal refusal.SelfLink ≡ 400)
refused_with_400 = (refl, refl, refl, refl)

refused_with_403 :
    (code_of_refusal refusal.UnknownCaller ≡ 403)
    × (code_of_refusal (refusal.Denied (codes "OwnTicket")) ≡ 403)
refused_with_403 = (refl, refl)

-- what is hidden is told as what isn't there
refused_with_404 : code_of_refusal refusal.NotFound ≡ 404
refused_with_404 = refl

refused_with_409 :
    (code_of_refusal refusal.NoChange ≡ 409) × (code_of_refusal refusal.NoTransition ≡ 409)
    × (code_of_refusal refusal.OpenDependency ≡ 409) × (code_of_refusal refusal.Owned ≡ 409)
    × (code_of_refusal refusal.NotOwned ≡ 409) × (code_of_refusal refusal.NotOwner ≡ 409)
    × (code_of_refusal refusal.Exists ≡ 409) × (code_of_refusal refusal.Full ≡ 409)
refused_with_409 = (refl, refl, refl, refl, refl, refl, refl, refl)

refused_with_503 : code_of_refusal refusal.Unavailable ≡ 503
refused_with_503 = refl

code_of_a_filed_request : code_of (Ok (answer.Created 7)) ≡ 201
code_of_a_filed_request = refl

code_of_a_refused_one : code_of (Err refusal.Full) ≡ 409
code_of_a_refused_one = refl

reply_to_a_command :
    outcome_reply false (Ok answer.Done)
    ≡ record { status = 200; allow = None; body = codes "ok\n"; head_only = false }
reply_to_a_command = refl

reply_to_a_head :
    outcome_reply true (Err refusal.NotFound)
    ≡ record { status = 404; allow = None; body = codes "refused 4 NotFound\n"; head_only = true }
unfolding digits
reply_to_a_head = refl

-- Replies.antt: messages

abbrev message : List ℕ → Message
message method =
    record { method = method; target = codes "/queues"; token = None; body = [] }

head_is_one : is_head (message (codes "HEAD")) ≡ true
head_is_one = refl

head_in_small_letters_is_not : is_head (message (codes "head")) ≡ false
head_in_small_letters_is_not = refl

-- Replies.antt: faults

words_a_number_and_a_name :
    fault_text (codes "bad message") 3 (codes "BadHead") ≡ codes "bad message 3 BadHead\n"
unfolding fault_text digits
words_a_number_and_a_name = refl

no_route_is_not_found : code_of_unasked NoRoute ≡ 404
no_route_is_not_found = refl

other_method_is_not_allowed : code_of_unasked (BadMethod allow.Get) ≡ 405
other_method_is_not_allowed = refl

no_token_is_forbidden : code_of_unasked NoToken ≡ 403
no_token_is_forbidden = refl

bad_body_is_bad : code_of_unasked BadBody ≡ 400
bad_body_is_bad = refl

methods_are_told_with_405 : allow_of (BadMethod allow.GetPost) ≡ Some allow.GetPost
methods_are_told_with_405 = refl

and_with_nothing_else : allow_of NoRoute ≡ None
and_with_nothing_else = refl

-- as an unknown caller is told
no_token_is_told_as_an_unknown_caller :
    text_of_unasked NoToken ≡ codes "refused 1 UnknownCaller\n"
unfolding digits
no_token_is_told_as_an_unknown_caller = refl

bad_body_is_told_as_a_bad_request : text_of_unasked BadBody ≡ codes "bad request 4 BadBody\n"
unfolding fault_text digits
bad_body_is_told_as_a_bad_request = refl

reply_with_the_methods :
    unasked_reply true (BadMethod allow.Post)
    ≡ record {
      status = 405;
      allow = Some allow.Post;
      body = codes "bad request 2 BadMethod\n";
      head_only = true;
    }
unfolding fault_text digits
reply_with_the_methods = refl

stream_without_a_message :
    stream_reply wire.BadHead
    ≡ record { status = 400; allow = None; body = codes "bad message 3 BadHead\n"; head_only = false }
unfolding fault_text digits
stream_without_a_message = refl

-- Fault.antt

failed_read_is_told : tells_failed_read {A = ⊤} (Err Read) ≡ true
failed_read_is_told = refl

no_memory_is_no_failed_read : tells_failed_read {A = ⊤} (Err NoMemory) ≡ false
no_memory_is_no_failed_read = refl

failed_write_is_told : tells_failed_write {A = ⊤} (Err Write) ≡ true
failed_write_is_told = refl

failed_read_is_no_failed_write : tells_failed_write {A = ⊤} (Err Read) ≡ false
failed_read_is_no_failed_write = refl

no_reply_since_a_read_failed : is_unread {A = ⊤} (Err Unread) ≡ true
no_reply_since_a_read_failed = refl

no_room_is_another_fault : is_unread {A = ⊤} (Err NoRoom) ≡ false
no_room_is_another_fault = refl
