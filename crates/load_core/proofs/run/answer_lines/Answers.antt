-- a line more, and why none follows it
use Rattle.std.proofs.Common.{◌∙◌, ◌+◌, false, ap, refl, rules, subst, sym}
use Rattle.settings_core.specs.declared.settings.Settings.{Settings}
use Rattle.service_core.proofs.LeftLemmas.{left_on, left_same}
use Rattle.service_core.specs.Seen.{settings_of}
use Rattle.stream_core.specs.Seen.{has_write_failed, held_in}
use Rattle.load_core.specs.Load.{AnswersLine, held_by, place_at}
use Rattle.load_core.proofs.LoadLemmas.{ends_after, ends_at, gives_up, goes_first, goes_on, one_more}
use Rattle.load_core.proofs.run.answer_lines.Goals as goal

pub loop-count-init : goal.loop-count-init
loop-count-init g c = record {
  lines = refl;
  goes = (c.requires, goes_first c.args.plan.stop);
  same_writer = refl;
  left = left_same g.S.Store c.args.desk.now;
}

pub loop-count-preserved : goal.loop-count-preserved
loop-count-preserved g c =
    let contents = g.W.Write.contents in
    let plan = c.args.plan in
    let so_far = c.loop-count.invariant in
    let start =
    place_at (g.R.Read.remaining c.args.reader.now) (held_by g.S.Store c.args.desk.now) contents
    c.args.output.now false in
    let here =
    place_at (g.R.Read.remaining c.loop-count.reader) (held_by g.S.Store c.loop-count.desk) contents
    c.loop-count.output c.loop-count.refused in
    let next =
    place_at (g.R.Read.remaining c.answer_next.new.reader)
    (held_by g.S.Store c.answer_next.new.desk) contents c.answer_next.new.output c.in-Ok.now in
    let line =
    subst (λ (s : Settings). AnswersLine g.S.Store s plan.all (plan.passed + c.loop-count.count + 1)
    here next) so_far.left.same c.in-Ok.ensures.answered in
    record {
      lines =
          one_more g.S.Store (settings_of g.S.Store c.args.desk.now) plan c.loop-count.count start
          here next so_far.lines so_far.goes line;
      goes =
          goes_on (has_write_failed c.answer_next.new.output) plan.stop c.in-Ok.now
          (sym c.ending_after.ensures ∙ c.in_default.is);
      same_writer = c.answer_next.ensures.same_writer ∙ so_far.same_writer;
      left =
          left_on g.S.Store c.args.desk.now c.loop-count.desk c.answer_next.new.desk so_far.left
          c.answer_next.ensures.left;
    }

pub returns-in-Err-clause-run : goal.returns-in-Err-clause-run
returns-in-Err-clause-run g c =
    let contents = g.W.Write.contents in
    let so_far = c.loop-count.invariant in
    let (none, stay, quiet) = c.in-Err.ensures.none in
    let here =
    place_at (g.R.Read.remaining c.loop-count.reader) (held_by g.S.Store c.loop-count.desk) contents
    c.loop-count.output c.loop-count.refused in
    record {
      place = here;
      lines = so_far.lines;
      ends =
          ends_at c.in-Err.ending c.args.plan.stop here
          (g.R.Read.remaining c.answer_next.new.reader) none so_far.goes;
      tables_are = stay;
      written_is = ap (held_in contents) quiet;
      refused_is = refl;
    }

pub returns-in-Err-clause-left : goal.returns-in-Err-clause-left
returns-in-Err-clause-left g c =
    left_on g.S.Store c.args.desk.now c.loop-count.desk c.answer_next.new.desk
    c.loop-count.invariant.left c.answer_next.ensures.left

pub returns-in-Some-clause-left : goal.returns-in-Some-clause-left
returns-in-Some-clause-left g c =
    left_on g.S.Store c.args.desk.now c.loop-count.desk c.answer_next.new.desk
    c.loop-count.invariant.left c.answer_next.ensures.left

pub returns-in-Some-clause-run : goal.returns-in-Some-clause-run
returns-in-Some-clause-run g c =
    let contents = g.W.Write.contents in
    let plan = c.args.plan in
    let so_far = c.loop-count.invariant in
    let start =
    place_at (g.R.Read.remaining c.args.reader.now) (held_by g.S.Store c.args.desk.now) contents
    c.args.output.now false in
    let here =
    place_at (g.R.Read.remaining c.loop-count.reader) (held_by g.S.Store c.loop-count.desk) contents
    c.loop-count.output c.loop-count.refused in
    let next =
    place_at (g.R.Read.remaining c.answer_next.new.reader)
    (held_by g.S.Store c.answer_next.new.desk) contents c.answer_next.new.output c.in-Ok.now in
    let line =
    subst (λ (s : Settings). AnswersLine g.S.Store s plan.all (plan.passed + c.loop-count.count + 1)
    here next) so_far.left.same c.in-Ok.ensures.answered in
    record {
      place = next;
      lines =
          one_more g.S.Store (settings_of g.S.Store c.args.desk.now) plan c.loop-count.count start
          here next so_far.lines so_far.goes line;
      ends =
          ends_after c.in-Some.ending plan.stop next (sym c.ending_after.ensures ∙ c.in-Some.is);
      tables_are = refl;
      written_is = refl;
      refused_is = refl;
    }

pub returns-clause-run : goal.returns-clause-run
returns-clause-run g c =
    let so_far = c.loop-count.invariant in
    record {
      place =
          place_at (g.R.Read.remaining c.loop-count.reader) (held_by g.S.Store c.loop-count.desk)
          g.W.Write.contents c.loop-count.output c.loop-count.refused;
      lines = search rules;
      ends = (gives_up (g.R.Read.remaining c.loop-count.reader), so_far.goes);
      tables_are = refl;
      written_is = refl;
      refused_is = refl;
    }
