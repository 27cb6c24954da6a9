-- a reply went out whole, or a write of it failed
use Rattle.std.proofs.Common.{◌≡◌, ◌∙◌, ◌++◌, Some, Err, false, rules}
use Rattle.std.proofs.lemmas.List.{append-nil}
use Rattle.message_core.specs.Reply.{bytes_of, unavailable}
use Rattle.wire_core.specs.Rooms.{held_in}
use Rattle.wire_core.specs.Served.{IsSent}
use Rattle.wire_core.specs.declared.fault.Unanswered.TheVariants.{NoRoom}
use Rattle.wire_core.proofs.Serving.{not_unread, sent_reply}
use Rattle.wire_core.proofs.serve.send_answer.Goals as goal

pub returns-in-Ok-clause-sent : goal.returns-in-Ok-clause-sent
returns-in-Ok-clause-sent g c =
    let same : c.as_slice.result.now ++ c.as_slice-in-Ok.result.now ≡ held_in c.in-Ok.room =
    search rules in
    let sent : IsSent g.W.Write.contents c.args.output.now c.send.new.output
    (Some (held_in c.in-Ok.room)) c.send.result =
    sent_reply g.W.Write.contents c.args.output.now c.send.new.output (held_in c.in-Ok.room) _
    c.send.result same c.send.ensures.printed c.send.ensures.kinds in
    rw c.in-Ok.is sent

pub returns-in-Ok-clause-unread : goal.returns-in-Ok-clause-unread
returns-in-Ok-clause-unread g c = rw c.in-Ok.is (not_unread c.send.result c.send.ensures.kinds)

pub returns-in-Err-NoRoom-clause-sent : goal.returns-in-Err-NoRoom-clause-sent
returns-in-Err-NoRoom-clause-sent g c =
    let is : c.args.answer ≡ Err NoRoom = search rules in
    let sent : IsSent g.W.Write.contents c.args.output.now c.send-in-Err-NoRoom.new.output
    (Some (bytes_of (unavailable false))) c.send-in-Err-NoRoom.result =
    sent_reply g.W.Write.contents c.args.output.now c.send-in-Err-NoRoom.new.output _ _
    c.send-in-Err-NoRoom.result (append-nil _ ∙ c.unavailable_reply.ensures)
    c.send-in-Err-NoRoom.ensures.printed
    c.send-in-Err-NoRoom.ensures.kinds in
    rw is sent

pub returns-in-Err-NoRoom-clause-unread : goal.returns-in-Err-NoRoom-clause-unread
returns-in-Err-NoRoom-clause-unread g c =
    let is : c.args.answer ≡ Err NoRoom = search rules in
    rw is
    (not_unread c.send-in-Err-NoRoom.result c.send-in-Err-NoRoom.ensures.kinds)
