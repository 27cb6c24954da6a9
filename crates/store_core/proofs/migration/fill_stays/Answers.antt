use Rattle.std.proofs.Common.{◌≡◌, ◌∙◌, inl, rules}
use Rattle.desk_model.specs.IsDesk.{ids}
use Rattle.store_tables.proofs.Contents.Request.{id_table}
use Rattle.store_tables.proofs.StepLemmas.{looks_beside}
use Rattle.store_core.proofs.MigrationLemmas.{all_numbers}
use Rattle.store_core.proofs.RunLemmas.{and_then, blamed_inside, blames_then, looks_on, looks_then}
use Rattle.store_core.proofs.RunLemmas.{refused_inside}
use Rattle.store_core.proofs.migration.fill_stays.Goals as goal

pub returns-clause-fills : goal.returns-clause-fills
returns-clause-fills g c desk is due d dated entries holds =
    and_then c.fill_each.result
    (λ filled clean live.
    let read = c.in_ok-ids.ensures.listed d holds (c.fill_each.ensures.on.clean clean) in
    let all : c.as_slice.result.now ≡ ids desk =
    c.as_slice.ensures.value ∙ all_numbers due desk d is dated _ read in
    rw all at (filled clean live))
    (c.fill_each.ensures.fills desk is due d dated entries
    (c.in_ok-ids.ensures.looks.makes d holds))

pub returns-in_err-ids-clause-refuses : goal.returns-in_err-ids-clause-refuses
returns-in_err-ids-clause-refuses g c =
    refused_inside id_table c.numbers_inside.ensures.looks c.in_err-ids.ensures.mismatch (search rules)

pub returns-in_err-ids-clause-blames : goal.returns-in_err-ids-clause-blames
returns-in_err-ids-clause-blames g c =
    blamed_inside id_table c.numbers_inside.ensures.looks c.in_err-ids.ensures.mismatch (search rules) inl

pub returns-clause-blames : goal.returns-clause-blames
returns-clause-blames g c =
    let looks = c.in_ok-ids.ensures.looks in
    blames_then (looks_on looks) (looks_beside looks) c.fill_each.ensures.on
    c.fill_each.ensures.blames

pub returns-clause-on : goal.returns-clause-on
returns-clause-on g c = looks_then c.in_ok-ids.ensures.looks c.fill_each.ensures.on
