use Rattle.std.proofs.Common.{◌<◌, ◌≤◌, inl, length, refl, rules}
use Rattle.sqlite.specs.Held.{state}
use Rattle.store_tables.proofs.Lasting.{on, same}
use Rattle.store_core.proofs.FrontLemmas.{grows_all, reaches_on, text_is, within}
use Rattle.store_core.proofs.making.make_tables.Goals as goal

pub loop-sql-init : goal.loop-sql-init
loop-sql-init g c = record {
  same = refl;
  reaches = λ are clean. inl (refl, refl, refl);
  runs = record {
    ran = λ clean. tt;
    keeps = λ clean live. (clean, live, refl);
    clean = λ clean. clean;
    lasts = same _;
    refused = tt;
  };
}

pub loop-sql-preserved : goal.loop-sql-preserved
loop-sql-preserved g c =
    let so_far = c.loop-sql.invariant in
    let run = c.in_ok-run.ensures.runs in
    let texts = c.args.texts.now in
    let i = c.loop-sql.sql-index in
    let low : i < length texts = search rules in
    record {
      same = search rules;
      reaches = λ are.
          reaches_on i (state g.S.Store c.args.tx.now.conn.now) (within texts are i low)
          (text_is texts are i low _) (so_far.reaches are) run;
      runs = search (rules, on);
    }

pub returns-clause-grows : goal.returns-clause-grows
returns-clause-grows g c are =
    let texts = c.args.texts.now in
    let i = c.loop-sql.sql-index in
    let least : length texts ≤ i = search rules in
    let most : i ≤ length texts = search rules in
    grows_all texts are i (state g.S.Store c.args.tx.now.conn.now)
    (state g.S.Store c.loop-sql.tx.conn.now) least most (c.loop-sql.invariant.reaches are)
