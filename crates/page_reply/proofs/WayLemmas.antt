-- How long the reply is that leads to a place.
use Rattle.std.proofs.Common.{ℕ, ◌≤◌, ◌+◌, List, [], ◌++◌, length, length-append, codes, Some, None}
use Rattle.std.proofs.Common.{arith, lit≤, refl, Result, Ok, Err, OnErr, ◌<◌}
use Rattle.std.specs.Prelude.{IsOk}
use Rattle.std.specs.Fmt.{digits}
use Rattle.message_core.specs.ReplyHead.{content_length_line, content_type_line, head_start}
use Rattle.message_core.specs.ReplyHead.{last_line, status_line}
use Rattle.page_reply.specs.PageReply.{allow_line, guard_lines, leads_line, own_lines, page_kind}
use Rattle.page_reply.specs.PageReply.{way_to}
use Rattle.page_reply.specs.declared.reply.CookieChange.TheVariants.{Keep}

start_is_short : length (head_start 303 page_kind 0) ≤ 83
unfolding status_line content_type_line content_length_line page_kind digits
start_is_short = lit≤ tt

guard_is_short : length guard_lines ≤ 296
unfolding guard_lines
guard_is_short = lit≤ tt

end_is_short : length last_line ≤ 21
unfolding last_line
end_is_short = lit≤ tt

place_line_length : (place : List ℕ) → length (leads_line place) ≤ 12 + length place
unfolding leads_line
place_line_length place = omega (arith, length-append place (codes "\r\n"))

own_length : (place : List ℕ) → length (own_lines Keep (Some place) None) ≤ 12 + length place
unfolding own_lines allow_line
own_length place = omega (arith, place_line_length place, length-append (leads_line place) [])

pub way_is_short : (place : List ℕ) → length (way_to place) ≤ 412 + length place
way_is_short place =
    let own = own_lines Keep (Some place) None in
    omega (
      arith,
      start_is_short,
      guard_is_short,
      end_is_short,
      own_length place,
      length-append (head_start 303 page_kind 0) ((own ++ guard_lines) ++ last_line),
      length-append (own ++ guard_lines) last_line,
      length-append own guard_lines,
    )

pub ok_where_room : {T E : Type 0} (r : Result T E) (room need : ℕ) → OnErr r (room < need)
    → need ≤ room → IsOk r
ok_where_room (Ok x) room need full fits = refl
ok_where_room (Err e) room need full fits = absurd (omega (arith, full, fits))
