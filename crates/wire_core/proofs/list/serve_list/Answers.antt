-- each message goes on with the run
use Rattle.std.proofs.Common.{◌≡◌, ◌<◌, ◌++◌, ◌∷◌, [], length, refl, rules}
use Rattle.service_core.proofs.LeftLemmas.{left_on, left_same}
use Rattle.service_core.specs.Seen.{settings_of, tables_of}
use Rattle.wire_core.specs.Runs.{all_replied, all_sent}
use Rattle.wire_core.proofs.Serving.{all_run, run_leads, run_on}
use Rattle.wire_core.proofs.list.serve_list.Goals as goal

pub loop-message-init : goal.loop-message-init
loop-message-init g c =
    let none : c.in_ok-replies.replies.items ≡ [] = search rules in
    record {
      run = rw none refl;
      left = left_same g.S.Store c.args.desk.now;
      room = search rules;
      count = search rules;
    }

pub loop-message-preserved : goal.loop-message-preserved
loop-message-preserved g c =
    let low : c.loop-message.message-index < length c.args.messages.now = search rules in
    let so_far = c.loop-message.invariant in
    let step = c.serve_bytes-reply.ensures in
    let pushed :
    c.push.new.self.items ≡ c.loop-message.replies.items ++ c.serve_bytes-reply.result ∷ [] =
    search rules in
    record {
      run =
          run_on (tables_of g.S.Store) (settings_of g.S.Store c.args.desk.now)
          (settings_of g.S.Store c.loop-message.desk)
          c.args.messages.now c.loop-message.message-index c.message-item.result
          c.as_slice.result.now c.loop-message.replies.items c.push.new.self.items
          c.serve_bytes-reply.result c.args.desk.now c.loop-message.desk c.serve_bytes-reply.new.desk
          low pushed so_far.left.same c.message-item.is c.as_slice.ensures.value so_far.run
          step.left.clean step.over;
      left =
          left_on g.S.Store c.args.desk.now c.loop-message.desk c.serve_bytes-reply.new.desk
          so_far.left step.left;
      room = search rules;
      count = search rules;
    }

pub returns-clause-each : goal.returns-clause-each
returns-clause-each g c =
    all_run (tables_of g.S.Store) (settings_of g.S.Store c.args.desk.now) c.args.messages.now
    c.loop-message.message-index (all_replied c.loop-message.replies.items)
    c.args.desk.now c.loop-message.desk
    c.loop-message-test.false c.loop-message.invariant.run

pub returns-clause-run : goal.returns-clause-run
returns-clause-run g c =
    run_leads (tables_of g.S.Store) (settings_of g.S.Store c.args.desk.now)
    (all_sent c.args.messages.now) (all_replied c.loop-message.replies.items)
    c.args.desk.now c.loop-message.desk (returns-clause-each g c)
