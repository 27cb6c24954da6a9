use Rattle.std.proofs.Common.{pos, refl, rules, subst, sym}
use Rattle.sqlite.specs.Held.{state}
use Rattle.sqlite_rules.specs.Lists.{Has}
use Rattle.store_tables.specs.Stands.{HasFront}
use Rattle.store_core.specs.Migrating.{IsGrown}
use Rattle.store_core.proofs.RunLemmas.{and_then}
use Rattle.store_tables.specs.Contents.{first_contents_of}
use Rattle.store_tables.proofs.Lasting.{on}
use Rattle.store_tables.proofs.ReadingLemmas.{if_err}
use Rattle.store_core.proofs.MakeLemmas.{blamed_before, front_there, over_before, part_grown}
use Rattle.store_core.proofs.MakeLemmas.{unnumbered_grown, version_before}
use Rattle.store_core.proofs.making.make_all.Goals as goal

pub returns-clause-numbered : goal.returns-clause-numbered
returns-clause-numbered g c d part =
    c.bring_up.ensures.numbered d (unnumbered_grown c.make_tables.ensures.runs
    (c.in_ok-make_tables.ensures.grows refl) d part)

pub returns-clause-there : goal.returns-clause-there
returns-clause-there g c d other part =
    c.bring_up.ensures.there d other (part_grown c.make_tables.ensures.runs
    (c.in_ok-make_tables.ensures.grows refl) d part)

pub returns-clause-brings : goal.returns-clause-brings
returns-clause-brings g c desk is due part =
    c.bring_up.ensures.brings desk is due (part_grown c.make_tables.ensures.runs
    (c.in_ok-make_tables.ensures.grows refl) (first_contents_of due desk) part)

pub returns-clause-known : goal.returns-clause-known
returns-clause-known g c d part =
    c.bring_up.ensures.known d (part_grown c.make_tables.ensures.runs
    (c.in_ok-make_tables.ensures.grows refl) d part)

pub returns-clause-wrong : goal.returns-clause-wrong
returns-clause-wrong g c d part =
    c.bring_up.ensures.wrong d (part_grown c.make_tables.ensures.runs
    (c.in_ok-make_tables.ensures.grows refl) d part)

pub returns-clause-refused : goal.returns-clause-refused
returns-clause-refused g c d part =
    c.bring_up.ensures.refused d (unnumbered_grown c.make_tables.ensures.runs
    (c.in_ok-make_tables.ensures.grows refl) d part)

pub returns-clause-refuses : goal.returns-clause-refuses
returns-clause-refuses g c d known part =
    c.bring_up.ensures.refuses d known (part_grown c.make_tables.ensures.runs
    (c.in_ok-make_tables.ensures.grows refl) d part)

pub returns-clause-mismatch : goal.returns-clause-mismatch
returns-clause-mismatch g c =
    let made = c.make_tables.ensures.runs in
    let grows = c.in_ok-make_tables.ensures.grows refl in
    if_err c.bring_up.result (λ e why wrong has clean.
    blamed_before made grows has (c.bring_up.ensures.on.clean clean)
    (why wrong (front_there made grows has) clean)) c.bring_up.ensures.mismatch

pub returns-clause-blames : goal.returns-clause-blames
returns-clause-blames g c has clean =
    let made = c.make_tables.ensures.runs in
    let grows = c.in_ok-make_tables.ensures.grows refl in
    if_err c.bring_up.result (λ e why wrong.
    let it = why wrong in
    let before = version_before made grows has (c.bring_up.ensures.on.clean clean) it.0 it.1 in
    (it.0, before, it.2)) (c.bring_up.ensures.blames (front_there made grows has) clean)

pub returns-clause-over : goal.returns-clause-over
returns-clause-over g c has clean =
    let made = c.make_tables.ensures.runs in
    let grows = c.in_ok-make_tables.ensures.grows refl in
    and_then c.bring_up.result
    (over_before made grows has (c.bring_up.ensures.on.clean clean))
    (c.bring_up.ensures.others.over (front_there made grows has) clean)

pub returns-clause-alone : goal.returns-clause-alone
returns-clause-alone g c n low schema row within first clean =
    let made = c.make_tables.ensures.runs in
    let grows = c.in_ok-make_tables.ensures.grows refl in
    let before = c.bring_up.ensures.on.clean clean in
    let grown = (grows before).2 n low schema in
    let has : HasFront (state g.S.Store c.args.tx.now.conn.now) = λ d o. (n, low, schema) in
    let here = subst (λ rows. Has rows row) (sym grown.1.0) within in
    and_then c.bring_up.result
    (λ same. subst (IsGrown n (state g.S.Store c.args.tx.now.conn.now).now) (sym same) grown)
    (c.bring_up.ensures.others.alone (front_there made grows has) clean
    (λ one. first (version_before made grows has before (pos 1) one)) row here)

pub returns-clause-lasts : goal.returns-clause-lasts
returns-clause-lasts g c = search (rules, on)

pub returns-clause-goes_on : goal.returns-clause-goes_on
returns-clause-goes_on g c goes =
    let grows = c.in_ok-make_tables.ensures.grows refl in
    c.bring_up.ensures.on.goes_on (λ clean live. (grows clean).1)
