use Rattle.std.proofs.Common.{refl, rules}
use Rattle.sqlite.specs.Values.{bound}
use Rattle.store_tables.proofs.Lasting.{by}
use Rattle.store_tables.proofs.StandLemmas.{inside_keeps, was_clean}
use Rattle.store_tables.proofs.transaction.run.Goals as goal

pub returns-in-Ok-clause-runs : goal.returns-in-Ok-clause-runs
returns-in-Ok-clause-runs g c =
    let lasts = by c.execute.ensures.survives in
    let clean = was_clean _ _ _ c.execute.ensures.survives in
    let keeps = inside_keeps g.S.Store c.args.sql.now (bound c.args.params.now) _ _ _ _ refl
    (λ none. (c.execute.ensures.ended none).1) clean c.execute.ensures.runs in
    record { ran = search rules; keeps = keeps; clean = clean; lasts = lasts; refused = tt }

pub returns-in-Err-clause-runs : goal.returns-in-Err-clause-runs
returns-in-Err-clause-runs g c =
    let lasts = by c.execute.ensures.survives in
    let clean = was_clean _ _ _ c.execute.ensures.survives in
    let keeps = inside_keeps g.S.Store c.args.sql.now (bound c.args.params.now) _ _ _ _ refl
    (λ none. (c.execute.ensures.ended none).1) clean c.execute.ensures.runs in
    record { ran = λ none. tt; keeps = keeps; clean = clean; lasts = lasts; refused = refl }
