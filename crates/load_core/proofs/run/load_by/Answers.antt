-- lines were passed over, and those after them answered
use Rattle.std.proofs.Common.{refl, arith}
use Rattle.service_core.specs.Seen.{settings_of}
use Rattle.stream_core.specs.Seen.{has_write_failed, held_in}
use Rattle.load_core.specs.Load.{held_by}
use Rattle.load_core.proofs.LoadLemmas.{begins, none_loaded}
use Rattle.load_core.proofs.run.load_by.Goals as goal

pub returns-in-None-clause-loaded : goal.returns-in-None-clause-loaded
returns-in-None-clause-loaded g c =
    record {
      passed = c.args.plan.passed;
      start = g.R.Read.remaining c.pass_lines.new.reader;
      passes = rw c.in-None.is at c.pass_lines.ensures;
      within = omega arith;
      run =
          begins g.S.Store (settings_of g.S.Store c.args.desk.now) c.args.plan
          (g.R.Read.remaining c.pass_lines.new.reader) (held_by g.S.Store c.args.desk.now)
          (held_in g.W.Write.contents c.args.output.now) (has_write_failed c.args.output.now)
          (g.R.Read.remaining c.answer_lines.new.reader) (held_by g.S.Store c.answer_lines.new.desk)
          (held_in g.W.Write.contents c.answer_lines.new.output) c.answer_lines.result c.requires
          c.answer_lines.ensures.run;
      full = λ other. absurd (other refl);
    }

pub returns-in-Some-clause-loaded : goal.returns-in-Some-clause-loaded
returns-in-Some-clause-loaded g c =
    let (n, few, start, passes, none) = rw c.in-Some.is at c.pass_lines.ensures in
    rw c.none_answered.ensures (
    none_loaded g.S.Store (settings_of g.S.Store c.args.desk.now) c.args.plan
    (g.R.Read.remaining c.args.reader.now) n start (g.R.Read.remaining c.pass_lines.new.reader)
    (held_by g.S.Store c.args.desk.now) (held_in g.W.Write.contents c.args.output.now)
    c.in-Some.ending passes (omega (arith, few)) none
    )
