-- each connection is one more
use Rattle.std.proofs.Common.{◌≡◌, ◌∙◌, ◌<◌, ◌+◌, arith, rules}
use Rattle.service_core.proofs.LeftLemmas.{left_on, left_same}
use Rattle.service_core.specs.Seen.{settings_of, tables_of}
use Rattle.desk_program.specs.Listening.{accepted_of, asked_of, has_accept_failed, minute_of}
use Rattle.desk_program.proofs.Connections.{all_and_one, all_but_one, all_ended, none_answered}
use Rattle.desk_program.proofs.Connections.{with_failure, without_failure}
use Rattle.desk_program.proofs.serving.serve_on.Goals as goal

pub loop-connection-init : goal.loop-connection-init
loop-connection-init g c =
    record {
      all = none_answered (settings_of g.S.Store c.args.desk.now) c.args.listener.now
          (tables_of g.S.Store c.args.desk.now) c.requires;
      asked = c.requires.asked;
      accepted = c.requires.accepted;
      unfailed = c.requires.failed;
      left = left_same g.S.Store c.args.desk.now;
    }

pub accept-requires-clause-asked : goal.accept-requires-clause-asked
accept-requires-clause-asked g c =
    let low : c.loop-connection._connection < c.args.count = search rules in
    omega (arith, low, c.loop-connection.invariant.asked)

pub accept-requires-clause-accepted : goal.accept-requires-clause-accepted
accept-requires-clause-accepted g c =
    let low : c.loop-connection._connection < c.args.count = search rules in
    omega (arith, low, c.loop-connection.invariant.accepted)

pub serve-passed_over-requires : goal.serve-passed_over-requires
serve-passed_over-requires g c =
    let low : c.loop-connection._connection < c.args.count = search rules in
    let so_far = c.loop-connection.invariant in
    let accepts = c.in-Some.ensures in
    let each = all_ended (settings_of g.S.Store c.args.desk.now) c.loop-connection.listener
    (tables_of g.S.Store c.args.desk.now) (tables_of g.S.Store c.loop-connection.desk) so_far.all in
    omega (arith, low, each, so_far.accepted, accepts.answered, accepts.unread)

pub loop-connection-preserved : goal.loop-connection-preserved
loop-connection-preserved g c =
    let so_far = c.loop-connection.invariant in
    let step = c.serve-passed_over.ensures in
    let accepts = c.in-Some.ensures in
    let one : accepted_of c.accept.new.self ≡ accepted_of c.loop-connection.listener + 1 =
    accepts.accepted in
    record {
      all =
          all_and_one (settings_of g.S.Store c.args.desk.now)
          (settings_of g.S.Store c.loop-connection.desk) (minute_of c.in-Some.connection)
          c.loop-connection.listener c.accept.new.self c.serve-passed_over.new.self
          c.in-Some.connection c.serve-passed_over.result
          (tables_of g.S.Store c.args.desk.now) (tables_of g.S.Store c.loop-connection.desk)
          (tables_of g.S.Store c.serve-passed_over.new.desk) so_far.left.same so_far.all accepts
          step.counted step.left.clean step.one;
      asked = omega (arith, so_far.asked, accepts.asked, step.counted.asked);
      accepted = omega (arith, so_far.accepted, one, step.counted.accepted);
      unfailed = step.counted.failed ∙ accepts.failed ∙ so_far.unfailed;
      left =
          left_on g.S.Store c.args.desk.now c.loop-connection.desk c.serve-passed_over.new.desk
          so_far.left step.left;
    }

pub returns-in-None-clause-ended : goal.returns-in-None-clause-ended
returns-in-None-clause-ended g c =
    let so_far = c.loop-connection.invariant in
    let fails = c.in-None.ensures in
    let low : c.loop-connection._connection < c.args.count = search rules in
    let none : accepted_of c.accept.new.self ≡ accepted_of c.loop-connection.listener + 0 =
    fails.accepted in
    record {
      told =
          with_failure (has_accept_failed c.accept.new.self) c.args.count
          (asked_of c.accept.new.self) (accepted_of c.accept.new.self) _ fails.failed
          (omega (arith, low, so_far.accepted, none))
          (omega (arith, so_far.asked, so_far.accepted, none, fails.asked)) (search rules);
      all =
          all_but_one (settings_of g.S.Store c.args.desk.now) c.loop-connection.listener
          c.accept.new.self (tables_of g.S.Store c.args.desk.now)
          (tables_of g.S.Store c.loop-connection.desk) so_far.all fails;
    }

pub returns-clause-ended : goal.returns-clause-ended
returns-clause-ended g c =
    let so_far = c.loop-connection.invariant in
    let whole : c.loop-connection._connection ≡ c.args.count = search rules in
    record {
      told =
          without_failure (has_accept_failed c.loop-connection.listener) c.args.count
          (asked_of c.loop-connection.listener) (accepted_of c.loop-connection.listener) _
          so_far.unfailed (so_far.accepted ∙ whole) (so_far.asked ∙ whole) (search rules);
      all = so_far.all;
    }
