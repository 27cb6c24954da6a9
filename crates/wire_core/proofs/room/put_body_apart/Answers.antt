-- there is room for the head, which goes out first, and the body as it is behind it
use Rattle.std.proofs.Common.{◌≡◌, arith, rules}
use Rattle.std.specs.Vec.{vec_len}
use Rattle.wire_core.proofs.Apart.{head_short}
use Rattle.wire_core.proofs.room.put_body_apart.Goals as goal

pub put_reply-requires-clause-room : goal.put_reply-requires-clause-room
put_reply-requires-clause-room c =
    let none : vec_len c.args.room.now.head ≡ 0 = search rules in
    let short = head_short c.args.reply c.requires.reply c.requires.length in
    omega (arith, none, short, c.requires.empty.enough)
