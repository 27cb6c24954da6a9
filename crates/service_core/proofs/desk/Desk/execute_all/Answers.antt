-- each step goes on with the run
use Rattle.std.proofs.Common.{◌≡◌, ◌<◌, ◌++◌, ◌∷◌, [], length, rules}
use Rattle.service_core.specs.Seen.{settings_of, tables_of}
use Rattle.service_core.proofs.LeftLemmas.{left_on, left_same}
use Rattle.service_core.proofs.Running.{all_asked, run_begins, run_on}
use Rattle.service_core.proofs.desk.Desk.execute_all.Goals as goal

pub loop-ask-init : goal.loop-ask-init
loop-ask-init g c =
    let none : c.in_ok-outcomes.outcomes.items ≡ [] = search rules in
    record {
      run =
          rw none
          (run_begins (settings_of g.S.Store c.args.self.now)
          (tables_of g.S.Store c.args.self.now));
      left = left_same g.S.Store c.args.self.now;
      room = search rules;
      count = search rules;
    }

pub loop-ask-preserved : goal.loop-ask-preserved
loop-ask-preserved g c =
    let low : c.loop-ask.ask-index < length c.args.asks.now = search rules in
    let so_far = c.loop-ask.invariant in
    let step = c.execute-outcome.ensures in
    let pushed :
    c.push.new.self.items ≡ c.loop-ask.outcomes.items ++ c.execute-outcome.result ∷ [] =
    search rules in
    record {
      run =
          run_on (settings_of g.S.Store c.args.self.now) (settings_of g.S.Store c.loop-ask.self)
          c.args.asks.now c.loop-ask.ask-index c.ask-item.result c.as_str.result.now
          c.loop-ask.outcomes.items
          c.push.new.self.items c.execute-outcome.result
          (tables_of g.S.Store c.args.self.now) (tables_of g.S.Store c.loop-ask.self)
          (tables_of g.S.Store c.execute-outcome.new.self)
          low pushed so_far.left.same c.ask-item.is c.as_str.ensures.value so_far.run
          step.left.clean step.step;
      left =
          left_on g.S.Store c.args.self.now c.loop-ask.self c.execute-outcome.new.self so_far.left
          step.left;
      room = search rules;
      count = search rules;
    }

pub returns-clause-run : goal.returns-clause-run
returns-clause-run g c =
    all_asked (settings_of g.S.Store c.args.self.now) c.args.asks.now c.loop-ask.ask-index
    c.loop-ask.outcomes.items (tables_of g.S.Store c.args.self.now)
    (tables_of g.S.Store c.loop-ask.self) c.loop-ask-test.false c.loop-ask.invariant.run

pub returns-clause-left : goal.returns-clause-left
returns-clause-left g c = c.loop-ask.invariant.left

pub returns-in_err-outcomes-clause-left : goal.returns-in_err-outcomes-clause-left
returns-in_err-outcomes-clause-left g c = left_same g.S.Store c.args.self.now
