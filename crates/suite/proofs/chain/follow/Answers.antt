-- each call goes on from where the one before it ended
use Rattle.service_core.proofs.LeftLemmas.{left_on}
use Rattle.service_core.specs.Leaves.{LeavesDesk}
use Rattle.suite.proofs.chain.follow.Goals as goal

pub returns : goal.returns
returns g c =
    let done = c.execute-outcome.new.self in
    let written = c.stream-listed.new.self in
    let spared = c.stream-listed.ensures.left in
    let listed : LeavesDesk g.S.Store done written = record {
      same = spared.same;
      clean = spared.kept.clean;
      lasts = spared.kept.lasts;
    } in
    record {
      left = left_on g.S.Store c.args.desk.now done c.serve_list-replies.new.desk
          (left_on g.S.Store c.args.desk.now c.execute_all-outcomes.new.self done
          c.execute_all-outcomes.ensures.left c.execute-outcome.ensures.left)
          (left_on g.S.Store done written c.serve_list-replies.new.desk listed
          c.serve_list-replies.ensures.left);
    }
