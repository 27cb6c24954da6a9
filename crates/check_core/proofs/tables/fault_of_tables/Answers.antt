use Rattle.store_tables.proofs.ReadOn.{blames_after}
use Rattle.check_core.proofs.Telling.{lacking, refused_only, told_only}
use Rattle.check_core.proofs.tables.fault_of_tables.Goals as goal

pub returns-in-Ok-clause-is : goal.returns-in-Ok-clause-is
returns-in-Ok-clause-is g c =
    lacking c.args.settings.now c.knows_tables.ensures.kept c.name_lacked.ensures.kept
    c.in-Ok-false.ensures.tested (rw c.in-Ok-false.field-0-test at c.in-Ok-false.ensures.told)
    c.in-Ok.ensures.told

pub returns-in-Err-name_lacked-clause-is : goal.returns-in-Err-name_lacked-clause-is
returns-in-Err-name_lacked-clause-is g c =
    blames_after c.knows_tables.ensures.kept c.name_lacked.ensures.kept.clean
    (told_only c.in-Err-name_lacked.refused c.in-Err-name_lacked.ensures.blames)

pub returns-in-Err-clause-begins : goal.returns-in-Err-clause-begins
returns-in-Err-clause-begins g c =
    refused_only c.args.settings.now c.in-Err.fault c.knows_tables.ensures.kept
    (told_only c.in-Err.fault c.in-Err.ensures.fault)
