-- each row that was put comes after those before it
use Rattle.std.proofs.Common.{◌≡◌, ◌∙◌, ◌∷◌, ◌++◌, [], Err, false, refl, rules, true}
use Rattle.store_tables.specs.Contents.{contents_of}
use Rattle.store_tables.proofs.Spared.{stands}
use Rattle.desk_reports.specs.Lines.{row_in}
use Rattle.desk_reports.proofs.GatheredLemmas.{gathers_both, gathers_none, left_none, left_on}
use Rattle.desk_reports.proofs.PrintedLemmas.{cut_after, row_more, rows_left, rows_whole}
use Rattle.desk_reports.proofs.rows.put_rows.Goals as goal

pub rows-init : goal.rows-init
rows-init g c = record {
  left = left_none g.S.Store c.args.rows.now;
  reading = c.requires.reading;
  writer = refl;
  ready = c.requires.ready;
  gathered = (
    [],
    gathers_none g.W.Write.contents c.args.output.now c.args.gathered.now.items,
    λ rise desk ok due stand clean all has. ([], has, refl),
  );
}

pub returns-in_err-put_next-clause-gathered : goal.returns-in_err-put_next-clause-gathered
returns-in_err-put_next-clause-gathered g c =
    let text = row_in c.args.kind c.args.settings.now c.args.person.now c.args.watches.now in
    let it = c.rows.invariant.gathered in
    let more = c.in_err-put_next.ensures.gathered in
    let is : c.from_residual.result ≡ Err c.in_err-put_next.field-0.0 = search rules in (
      it.0 ++ more.0,
      gathers_both g.W.Write.contents _ _ _ _ _ _ it.0 more.0 it.1 more.1,
      λ rise desk ok due stand clean all has.
          let now = it.2 rise desk ok due stand (c.put_next.ensures.rows.kept.clean clean) all has in
          let at = stands c.rows.invariant.left.kept (contents_of due desk) stand in
          let cut = more.2 rise desk ok due at clean all now.0 now.1 in
          rw is (cut.0, cut_after text all now.0 it.0 more.0 cut.0 now.2 cut.1),
    )

pub returns-then-not-branch-clause-gathered : goal.returns-then-not-branch-clause-gathered
returns-then-not-branch-clause-gathered g c =
    let text = row_in c.args.kind c.args.settings.now c.args.person.now c.args.watches.now in
    let it = c.rows.invariant.gathered in
    let more = c.in_ok-put_next.ensures.gathered in
    let over : c.in_ok-put_next.field-0 ≡ false = search rules in (
      it.0 ++ more.0,
      gathers_both g.W.Write.contents _ _ _ _ _ _ it.0 more.0 it.1 more.1,
      λ rise desk ok due stand clean all has.
          let now = it.2 rise desk ok due stand (c.put_next.ensures.rows.kept.clean clean) all has in
          let at = stands c.rows.invariant.left.kept (contents_of due desk) stand in
          let end = rw over at (more.2 rise desk ok due at clean all now.0 now.1) in
          rows_whole text all now.0 it.0 more.0 end.0 now.2 end.1,
    )

pub rows-preserved : goal.rows-preserved
rows-preserved g c =
    let text = row_in c.args.kind c.args.settings.now c.args.person.now c.args.watches.now in
    let it = c.rows.invariant.gathered in
    let more = c.in_ok-put_next.ensures.gathered in
    let given : c.in_ok-put_next.field-0 ≡ true = search rules in
    record {
      left = left_on c.rows.invariant.left c.put_next.ensures.rows;
      reading = c.in_ok-put_next.ensures.reading given;
      writer = c.put_next.ensures.output.same_writer ∙ c.rows.invariant.writer;
      ready = c.in_ok-put_next.ensures.output.failed;
      gathered = (
        it.0 ++ more.0,
        gathers_both g.W.Write.contents _ _ _ _ _ _ it.0 more.0 it.1 more.1,
        λ rise desk ok due stand clean all has.
            let now = it.2 rise desk ok due stand (c.put_next.ensures.rows.kept.clean clean) all has in
            let at = stands c.rows.invariant.left.kept (contents_of due desk) stand in
            let next = rw given at (more.2 rise desk ok due at clean all now.0 now.1) in (
              now.0 ++ next.0 ∷ [],
              next.1,
              row_more text now.0 next.0 it.0 more.0 now.2 next.2,
            ),
      );
    }

pub returns-clause-gathered : goal.returns-clause-gathered
returns-clause-gathered g c =
    let text = row_in c.args.kind c.args.settings.now c.args.person.now c.args.watches.now in
    let it = c.rows.invariant.gathered in (
      it.0,
      it.1,
      λ rise desk ok due stand clean all has.
          let now = it.2 rise desk ok due stand clean all has in
          (_, rows_left text all now.0 _ it.0 now.2 now.1),
    )
