-- the messages so far were served, one after the other
use Rattle.std.proofs.Common.{◌≡◌, ◌≤◌, length, map, take}
use Rattle.std.specs.Vec.{vec_capacity, vec_len}
use Rattle.service_core.specs.Leaves.{LeavesDesk}
use Rattle.service_core.specs.Seen.{settings_of, tables_of}
use Rattle.wire_core.specs.Runs.{RunsOver, all_replied, sent_of}
use Rattle.wire_core.proofs.list.serve_list.Given as goal

abbrev pub invariant-loop-message : goal.invariant-loop-message
invariant-loop-message g l =
    record {
      run :
          RunsOver (tables_of g.S.Store) (settings_of g.S.Store l.fn.desk)
          (map sent_of (take l.message-index l.messages)) (all_replied l.replies.items)
          l.fn.desk l.desk;
      left : LeavesDesk g.S.Store l.fn.desk l.desk;
      room : length l.messages ≤ vec_capacity l.replies;
      count : vec_len l.replies ≡ l.message-index;
    }
