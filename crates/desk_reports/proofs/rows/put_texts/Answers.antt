-- the header was gathered, and then the rows
use Rattle.std.proofs.Common.{◌≡◌, ◌∙◌, ◌++◌, Err, rules}
use Rattle.desk_reports.specs.Lines.{header_of, rows_in}
use Rattle.desk_reports.proofs.GatheredLemmas.{gathers_both}
use Rattle.desk_reports.proofs.PrintedLemmas.{printed_both, printed_first}
use Rattle.desk_reports.proofs.rows.put_texts.Goals as goal

pub returns-in_err-put_header-clause-gathered : goal.returns-in_err-put_header-clause-gathered
returns-in_err-put_header-clause-gathered g c =
    let it = c.in_err-put_header.ensures.gathered in
    let is : c.from_residual.result ≡ Err c.in_err-put_header.field-0.0 = search rules in (
      it.0,
      it.1,
      λ rise desk ok due stand clean all given.
          rw is (printed_first (header_of c.args.kind)
          (rows_in c.args.kind c.args.settings.now c.args.person.now c.args.watches.now all)
          it.0 c.in_err-put_header.field-0.0 it.2),
    )

pub returns-clause-gathered : goal.returns-clause-gathered
returns-clause-gathered g c =
    let first = c.in_ok-put_header.ensures.gathered in
    let rest = c.put_rows.ensures.gathered in (
      first.0 ++ rest.0,
      gathers_both g.W.Write.contents _ _ _ _ _ _ first.0 rest.0 first.1 rest.1,
      λ rise desk ok due stand clean all given.
          printed_both (header_of c.args.kind)
          (rows_in c.args.kind c.args.settings.now c.args.person.now c.args.watches.now all)
          first.0 rest.0 c.put_rows.result first.2
          (rest.2 rise desk ok due stand clean all given),
    )
