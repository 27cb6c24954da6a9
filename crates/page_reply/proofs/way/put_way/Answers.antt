use Rattle.std.proofs.Common.{◌++◌, ◌+◌, length, length-append, arith}
use Rattle.std.specs.Vec.{vec_capacity, vec_len}
use Rattle.page_reply.specs.PageReply.{way_to}
use Rattle.page_reply.proofs.WayLemmas.{ok_where_room, way_is_short}
use Rattle.page_reply.proofs.way.put_way.Goals as goal

pub unwrap-requires : goal.unwrap-requires
unwrap-requires c =
    let front = c.args.front.now in
    let rest = c.args.middle.now ++ c.args.back.now in
    ok_where_room c.add_way.result (vec_capacity c.args.out.now)
    (vec_len c.args.out.now + length (way_to (front ++ rest))) c.add_way.ensures.full
    (omega (
      arith,
      c.requires.short,
      c.requires.room,
      way_is_short (front ++ rest),
      length-append front rest,
      length-append c.args.middle.now c.args.back.now,
    ))
