use Rattle.std.proofs.Common.{◌≡◌, Err, Result, rules, subst, sym}
use Rattle.std.specs.Prelude.{⊤}
use Rattle.sqlite.specs.Held.{state}
use Rattle.store_tables.specs.Contents.{contents_of}
use Rattle.store_tables.proofs.Lasting.{by, through}
use Rattle.store_tables.specs.Stands.{RolledBack}
use Rattle.store_tables.specs.declared.fault.StoreFault.{StoreFault}
use Rattle.store_tables.proofs.ReadingLemmas.{if_err}
use Rattle.store_tables.proofs.StandLemmas.{begins_on, begun_back, was_clean}
use Rattle.store_core.proofs.MakeLemmas.{always, always_ok}
use Rattle.store_core.proofs.RunLemmas.{and_then}
use Rattle.store_core.specs.Migrating.{IsGrown}
use Rattle.store_core.proofs.making.make_schema.Goals as goal

pub returns-in_err-make_all-clause-blames : goal.returns-in_err-make_all-clause-blames
returns-in_err-make_all-clause-blames g c has clean =
    let is : c.from_residual.result ≡ Err c.in_err-make_all.field-0.0 = search rules in
    let middle = was_clean _ _ _ c.drop-tx.ensures.survives clean in
    let begun = c.transaction-tx.ensures.begun in
    rw is (λ e. rw begun at (c.in_err-make_all.ensures.blames (rw begun has) middle e))

pub returns-in_err-make_all-clause-mismatch : goal.returns-in_err-make_all-clause-mismatch
returns-in_err-make_all-clause-mismatch g c =
    let is : c.from_residual.result ≡ Err c.in_err-make_all.field-0.0 = search rules in
    let begun = c.transaction-tx.ensures.begun in
    rw is (λ wrong has clean.
    let middle = was_clean _ _ _ c.drop-tx.ensures.survives clean in
    rw begun at (c.in_err-make_all.ensures.mismatch wrong (rw begun has) middle))

pub returns-clause-completed : goal.returns-clause-completed
returns-clause-completed g c =
    let begun = c.transaction-tx.ensures.begun in
    let made = c.in_ok-make_all.ensures in
    record {
      held = λ d other part. c.finish.ensures.done d (made.there d other (rw begun part));
      numbered = λ d part. c.finish.ensures.done d (made.numbered d (rw begun part));
      refuses = λ d part clean. c.finish.ensures.fault;
    }

pub returns-clause-brings : goal.returns-clause-brings
returns-clause-brings g c desk is due part =
    c.finish.ensures.done (contents_of due desk) (c.in_ok-make_all.ensures.brings desk is due
    (rw c.transaction-tx.ensures.begun part))

pub returns-clause-over : goal.returns-clause-over
returns-clause-over g c has clean =
    let begun = c.transaction-tx.ensures.begun in
    let over = c.in_ok-make_all.ensures.over (rw begun has) (c.finish.ensures.honest clean) in
    always c.finish.result (rw begun at over)

pub returns-clause-alone : goal.returns-clause-alone
returns-clause-alone g c n low schema row within first clean =
    let begun = c.transaction-tx.ensures.begun in
    let grown = c.in_ok-make_all.ensures.alone n low (rw begun schema) row (rw begun within)
    (λ one. first (rw begun at one)) (c.finish.ensures.honest clean) in
    and_then c.finish.result (λ commits.
    let it = commits clean in
    let grows = IsGrown n (state g.S.Store c.args.tables.now.conn).now in
    (subst grows (sym it.1) (rw begun at grown), subst grows (sym it.2) (rw begun at grown)))
    c.finish.ensures.shown

pub returns-in_err-make_all-clause-lasts : goal.returns-in_err-make_all-clause-lasts
returns-in_err-make_all-clause-lasts g c =
    let all = c.in_err-make_all.ensures in
    through g.S.Store c.args.tables.now.conn c.transaction-tx.result.conn.now _ _
    c.transaction-tx.ensures.begun all.honest all.lasts
    (was_clean _ _ _ c.drop-tx.ensures.survives) (by c.drop-tx.ensures.survives)

pub returns-in_err-make_all-clause-completed : goal.returns-in_err-make_all-clause-completed
returns-in_err-make_all-clause-completed g c =
    let is : c.from_residual.result ≡ Err c.in_err-make_all.field-0.0 = search rules in
    let begun = c.transaction-tx.ensures.begun in
    rw is (record {
      held = λ d other part. tt;
      numbered = λ d part. tt;
      refuses = λ d part clean. c.in_err-make_all.ensures.refused d (rw begun part)
          (was_clean _ _ _ c.drop-tx.ensures.survives clean);
    })

pub returns-in_err-make_all-clause-refuses : goal.returns-in_err-make_all-clause-refuses
returns-in_err-make_all-clause-refuses g c d known part clean =
    let is : c.from_residual.result ≡ Err c.in_err-make_all.field-0.0 = search rules in
    rw is (c.in_err-make_all.ensures.refuses d known (rw c.transaction-tx.ensures.begun part)
    (was_clean _ _ _ c.drop-tx.ensures.survives clean))

pub returns-in_err-make_all-clause-back : goal.returns-in_err-make_all-clause-back
returns-in_err-make_all-clause-back g c =
    let is : c.from_residual.result ≡ Err c.in_err-make_all.field-0.0 = search rules in
    let mid = state g.S.Store c.make_all.new.tx.conn.now in
    let end = state g.S.Store c.drop-tx.new.self.0 in
    let back : RolledBack mid end = λ clean live.
    let undone = c.drop-tx.ensures.undone clean in
    let before = was_clean _ _ _ c.drop-tx.ensures.survives clean in
    (before, undone.was_open live, (undone.undone live).0, (undone.undone live).1) in
    let failed : Result ⊤ StoreFault = Err c.in_err-make_all.field-0.0 in
    rw is (begun_back g.S.Store c.args.tables.now.conn c.transaction-tx.result.conn.now mid end
    failed c.transaction-tx.ensures.begun c.make_all.ensures.keeps back)

pub returns-clause-version : goal.returns-clause-version
returns-clause-version g c d part clean =
    let known = c.in_ok-make_all.ensures.known d (rw c.transaction-tx.ensures.begun part)
    (c.finish.ensures.honest clean) in (
      always_ok c.finish.result known,
      if_err c.finish.result (λ e is wrong. absurd (cc)) c.finish.ensures.fault,
    )

pub returns-clause-lasts : goal.returns-clause-lasts
returns-clause-lasts g c = search (rules, through)

pub returns-clause-back : goal.returns-clause-back
returns-clause-back g c =
    let begun = c.transaction-tx.ensures.begun in
    let goes = begins_on g.S.Store c.args.tables.now.conn _ begun in
    let back = c.finish.ensures.back (c.in_ok-make_all.ensures.goes_on goes) in
    search (rules, begun_back)

pub returns-in_err-make_all-clause-version : goal.returns-in_err-make_all-clause-version
returns-in_err-make_all-clause-version g c d part clean =
    let is : c.from_residual.result ≡ Err c.in_err-make_all.field-0.0 = search rules in
    let before = was_clean _ _ _ c.drop-tx.ensures.survives clean in
    rw is (tt, c.in_err-make_all.ensures.wrong d (rw c.transaction-tx.ensures.begun part) before)
