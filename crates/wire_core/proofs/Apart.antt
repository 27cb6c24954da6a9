-- A reply whose text stands apart from its head.
use Rattle.std.proofs.Common.{◌≤◌, ◌<◌, ◌+◌, ◌^◌, ◌++◌, ℕ, true, [], Option, length, length-append}
use Rattle.std.proofs.Common.{ap, arith, decimal, lit<}
use Rattle.std.proofs.lemmas.Fmt.{length-decimal-le}
use Rattle.message_core.specs.Reply.{IsReply, bytes_of, head_of as text_head, last_line, status_line}
use Rattle.message_core.proofs.ReplyLemmas.{allow_line, fields, head_is, short_reply, type_line}
use Rattle.message_core.specs.declared.reply.Allow.{Allow}
use Rattle.message_core.specs.declared.reply.Reply.{Reply}
use Rattle.wire_core.specs.Replies.{reply_with}

-- a greater length is told in at most 20 digits
fields_grow : (allow : Option Allow) (n : ℕ) → n < 2 ^ 64
    → length (fields allow n) ≤ length (fields allow 0) + 20
unfolding fields
fields_grow allow n wide =
    let told : length (decimal n) ≤ 20 =
    length-decimal-le 20 n (omega arith) (omega (arith, wide)) wide in
    omega (
      arith,
      told,
      length-append type_line (decimal n ++ (allow_line allow ++ last_line)),
      length-append (decimal n) (allow_line allow ++ last_line),
      length-append type_line (decimal 0 ++ (allow_line allow ++ last_line)),
      length-append (decimal 0) (allow_line allow ++ last_line),
    )

-- what goes out of a reply but for its body
abbrev pub head_of : Reply → Reply
head_of reply = reply_with reply.status reply.allow reply.body true

pub head_short : (reply : Reply) → IsReply reply → length reply.body < 2 ^ 64
    → length (bytes_of (head_of reply)) ≤ 512
head_short reply is wide =
    let line = status_line reply.status in
    let told = fields reply.allow (length reply.body) in
    let none = fields reply.allow 0 in
    let short =
    short_reply (reply_with reply.status reply.allow [] true)
    (record { code = is.code; allow = is.allow }) (lit< tt) in
    omega (
      arith,
      short,
      fields_grow reply.allow (length reply.body) wide,
      ap length (head_is reply.status reply.allow (length reply.body)),
      ap length (head_is reply.status reply.allow 0),
      length-append line told,
      length-append line none,
      length-append (text_head reply.status reply.allow (length reply.body)) [],
      length-append (text_head reply.status reply.allow 0) [],
    )
