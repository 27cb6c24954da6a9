-- a row that was put is given, and where it was cut short so are the texts of those that are left
use Rattle.std.proofs.Common.{◌≡◌, [], Err, refl, rules}
use Rattle.desk_reports.specs.Lines.{row_in}
use Rattle.desk_reports.proofs.GatheredLemmas.{gathers_none}
use Rattle.desk_reports.proofs.PrintedLemmas.{row_cut, rows_cut}
use Rattle.desk_reports.proofs.rows.put_next.Goals as goal

pub returns-in_err-put_row-in-Ok-Some-clause-gathered :
    goal.returns-in_err-put_row-in-Ok-Some-clause-gathered
returns-in_err-put_row-in-Ok-Some-clause-gathered g c =
    let text = row_in c.args.kind c.args.settings.now c.args.person.now c.args.watches.now in
    let it = c.in_err-put_row-in-Ok-Some.ensures.gathered in
    let fault = c.in_err-put_row-in-Ok-Some.field-0.0 in
    let is : c.from_residual.result ≡ Err fault = search rules in (
      it.0,
      it.1,
      λ rise desk ok due stand clean all given has.
          let on = rw c.in-Ok-Some.field-0-is at
          (c.in-Ok-Some.ensures.given c.requires.reading desk ok due stand clean) in
          rw is (row_cut text all given _ c.in-Ok-Some.dated it.0 fault (on all given has)
          (it.2 rise)),
    )

pub returns-in_ok-put_row-in-Ok-Some-clause-gathered :
    goal.returns-in_ok-put_row-in-Ok-Some-clause-gathered
returns-in_ok-put_row-in-Ok-Some-clause-gathered g c =
    let it = c.in_ok-put_row-in-Ok-Some.ensures.gathered in (
      it.0,
      it.1,
      λ rise desk ok due stand clean all given has.
          let on = rw c.in-Ok-Some.field-0-is at
          (c.in-Ok-Some.ensures.given c.requires.reading desk ok due stand clean) in
          (c.in-Ok-Some.dated, on all given has, it.2 rise),
    )

pub returns-in-Ok-None-clause-gathered : goal.returns-in-Ok-None-clause-gathered
returns-in-Ok-None-clause-gathered g c = (
  [],
  gathers_none g.W.Write.contents c.args.output.now c.args.gathered.now.items,
  λ rise desk ok due stand clean all given has.
      let over = rw c.in-Ok-None.field-0-is at
      (c.in-Ok-None.ensures.given c.requires.reading desk ok due stand clean) in
      (over all given has, refl),
)

pub returns-in-Err-clause-gathered : goal.returns-in-Err-clause-gathered
returns-in-Err-clause-gathered g c =
    let text = row_in c.args.kind c.args.settings.now c.args.person.now c.args.watches.now in (
      [],
      gathers_none g.W.Write.contents c.args.output.now c.args.gathered.now.items,
      λ rise desk ok due stand clean all given has. (_, rows_cut text all given _ has),
    )
