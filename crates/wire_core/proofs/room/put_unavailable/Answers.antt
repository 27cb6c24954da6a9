-- there is room for the reply
use Rattle.std.proofs.Common.{◌≡◌, ◌≤◌, length, arith, rules}
use Rattle.std.specs.Vec.{vec_len}
use Rattle.wire_core.proofs.Forms.{unavailable_short}
use Rattle.wire_core.proofs.room.put_unavailable.Goals as goal

pub unwrap-requires : goal.unwrap-requires
unwrap-requires c =
    let short : length c.unavailable_reply.result.now ≤ 512 =
    rw c.unavailable_reply.ensures (unavailable_short c.args.head_only) in
    let none : vec_len c.args.room.now.head ≡ 0 = search rules in
    c.extend_from_slice.ensures.succeeds (omega (arith, short, none, c.requires.empty.enough))
