-- a line more, and where its text is taken only in part, the rest left out
use Rattle.std.proofs.Common.{◌∙◌, true, ◌≡◌, ℕ, ◌+◌, List, ◌++◌, length, take, sym, subst, arith}
use Rattle.std.proofs.lemmas.Iterator.Consumers.{YieldsList-at, YieldsList-end, YieldsList-turn}
use Rattle.std.proofs.lemmas.Iterator.Splits.{YieldsList-from_lines}
use Rattle.std.proofs.lemmas.List.{length_push, take_all}
use Rattle.std.specs.Str.Lines.{lines}
use Rattle.settings_core.specs.declared.settings.Settings.{Settings}
use Rattle.desk_model.specs.Desk.{empty_desk}
use Rattle.service_core.specs.Seen.{settings_of, tables_of}
use Rattle.stream_core.specs.Seen.{has_write_failed}
use Rattle.stream_core.proofs.WriterLemmas.{prints_both, prints_cut_short}
use Rattle.desk_program.specs.Script.{LineLeads, line_of}
use Rattle.desk_program.proofs.PrintedLines.{LinesPrint, PrintUpTo, print_one_more}
use Rattle.desk_program.proofs.PrintedLines.{print_the_rest, run_of_lines}
use Rattle.desk_program.proofs.run.run_lines.Goals as goal

pub loop-line-preserved : goal.loop-line-preserved
loop-line-preserved g c =
    let settings = settings_of g.S.Store c.args.desk.now in
    let all = lines c.args.commands.now in
    let i = length c.loop-line.yielded in
    let gives = YieldsList-at c.into_iter-line-iterator.ensures.into_iter_gives
    (YieldsList-from_lines c.args.commands.now c.lines-line-items.ensures.rest) in
    let turn = YieldsList-turn gives c.loop-line.yielded _ c.loop-line.yielded_by _ _
    c.in-Some.line c.in-Some.is c.next.ensures.steps in
    let so_far = c.loop-line.invariant.printed in
    let here = c.run_line.ensures.printed in
    let old = tables_of g.S.Store c.loop-line.desk in
    let new = tables_of g.S.Store c.run_line.new.desk in
    let leads = subst (λ (s : Settings). LineLeads s (line_of c.in-Some.line.now) here.0 old new)
    c.loop-line.invariant.settings here.1 in
    let clean = c.requires.clean c.run_line.new.desk.store.tables.conn in
    let after = leads so_far.1 so_far.2 so_far.3 clean in
    let text = so_far.0 ++ here.0 in
    let more = print_one_more settings all i c.in-Some.line.now turn so_far.1 after.0
    so_far.0 here.0 so_far.4 after.1.0 in
    record {
      same = c.run_line.ensures.same_writer ∙ c.loop-line.invariant.same;
      settings = c.run_line.ensures.left.same ∙ c.loop-line.invariant.settings;
      printed = (
        text,
        after.0,
        after.1.1,
        after.2,
        subst (λ (n : ℕ). PrintUpTo settings all n text after.0)
            (sym (length_push c.loop-line.yielded c.in-Some.line)) more,
        prints_both g.W.Write.contents _ _ _ _ _ so_far.5 here.2,
      );
    }

pub returns-then-failed-clause-printed : goal.returns-then-failed-clause-printed
returns-then-failed-clause-printed g c =
    let settings = settings_of g.S.Store c.args.desk.now in
    let all = lines c.args.commands.now in
    let i = length c.loop-line.yielded in
    let gives = YieldsList-at c.into_iter-line-iterator.ensures.into_iter_gives
    (YieldsList-from_lines c.args.commands.now c.lines-line-items.ensures.rest) in
    let turn = YieldsList-turn gives c.loop-line.yielded _ c.loop-line.yielded_by _ _
    c.in-Some.line c.in-Some.is c.next.ensures.steps in
    let failed : has_write_failed c.run_line.new.output ≡ true =
    sym c.failed.ensures ∙ c.if-failed.true in
    let so_far = c.loop-line.invariant.printed in
    let here = c.run_line.ensures.printed in
    let old = tables_of g.S.Store c.loop-line.desk in
    let new = tables_of g.S.Store c.run_line.new.desk in
    let leads = subst (λ (s : Settings). LineLeads s (line_of c.in-Some.line.now) here.0 old new)
    c.loop-line.invariant.settings here.1 in
    let clean = c.requires.clean c.run_line.new.desk.store.tables.conn in
    let after = leads so_far.1 so_far.2 so_far.3 clean in
    let more = print_one_more settings all i c.in-Some.line.now turn so_far.1 after.0
    so_far.0 here.0 so_far.4 after.1.0 in
    let whole = print_the_rest settings all (i + 1) after.0 (so_far.0 ++ here.0) more in
    let text = (so_far.0 ++ here.0) ++ whole.0 in
    let run = run_of_lines settings all empty_desk after.0 text whole.1 in (
      text,
      (run.0, after.0, run.1, run.2),
      prints_cut_short g.W.Write.contents _ _ _ whole.0 failed
          (prints_both g.W.Write.contents _ _ _ _ _ so_far.5 here.2),
    )

pub returns-clause-printed : goal.returns-clause-printed
returns-clause-printed g c =
    let settings = settings_of g.S.Store c.args.desk.now in
    let all = lines c.args.commands.now in
    let gives = YieldsList-at c.into_iter-line-iterator.ensures.into_iter_gives
    (YieldsList-from_lines c.args.commands.now c.lines-line-items.ensures.rest) in
    let ends = YieldsList-end gives c.loop-line.yielded _ c.loop-line.yielded_by _ _ c.in-None.is
    c.next.ensures.steps in
    let so_far = c.loop-line.invariant.printed in
    let whole : take (length c.loop-line.yielded) all ≡ all =
    take_all _ _ (omega (arith, ends.1)) in
    let run = run_of_lines settings all empty_desk so_far.1 so_far.0
    (subst (λ (ls : List (List ℕ)). LinesPrint settings ls empty_desk so_far.0 so_far.1) whole
    so_far.4) in
    (so_far.0, (run.0, so_far.1, run.1, run.2), so_far.5)
