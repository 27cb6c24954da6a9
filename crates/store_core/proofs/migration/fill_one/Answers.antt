use Rattle.std.proofs.Common.{◌≡◌, ◌∙◌, ap, inr, rules}
use Rattle.desk_model.specs.Facts.{stays_at}
use Rattle.desk_model.specs.Stays.{stays_of}
use Rattle.store_tables.proofs.Contents.Entry.{entry_table}
use Rattle.store_tables.proofs.StepLemmas.{looks_beside}
use Rattle.store_core.proofs.MigrationLemmas.{one_told}
use Rattle.store_core.proofs.RunLemmas.{and_then, beside_then, blamed_inside, does_on, looks_on}
use Rattle.store_core.proofs.RunLemmas.{looks_then, refused_inside}
use Rattle.store_core.proofs.migration.fill_one.Goals as goal

pub returns-clause-fills : goal.returns-clause-fills
returns-clause-fills g c desk is due d dated entries holds =
    and_then c.put_stays.result
    (λ put clean live.
    let read = c.in_ok-entries.ensures.listed d holds (c.put_stays.ensures.put.clean clean) in
    let told : c.as_slice-2.result.now ≡ stays_at desk c.args.id =
    c.as_slice-2.ensures.value ∙ c.in_ok-stays.ensures.ok
    ∙ ap stays_of c.as_slice.ensures.value ∙ one_told due desk d c.args.id is entries _ read in
    rw told at (put clean live))
    (c.put_stays.ensures.put.makes d (c.in_ok-entries.ensures.looks.makes d holds))

pub returns-in_err-entries-clause-refuses : goal.returns-in_err-entries-clause-refuses
returns-in_err-entries-clause-refuses g c =
    refused_inside entry_table c.entries_inside.ensures.looks c.in_err-entries.ensures.mismatch
    (search rules)

pub returns-in_err-entries-clause-blames : goal.returns-in_err-entries-clause-blames
returns-in_err-entries-clause-blames g c =
    blamed_inside entry_table c.entries_inside.ensures.looks c.in_err-entries.ensures.mismatch
    (search rules) inr

pub returns-clause-on : goal.returns-clause-on
returns-clause-on g c = looks_then c.in_ok-entries.ensures.looks (does_on c.put_stays.ensures.put)

pub returns-clause-beside : goal.returns-clause-beside
returns-clause-beside g c =
    let looks = c.in_ok-entries.ensures.looks in
    and_then c.put_stays.result (beside_then (looks_on looks) (looks_beside looks)
    (does_on c.put_stays.ensures.put)) c.put_stays.ensures.beside
