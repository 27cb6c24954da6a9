use Rattle.std.proofs.Common.{rules, string_bytes}
use Rattle.store_tables.proofs.ReadOn.{blames_failed, blames_refused}
use Rattle.check_core.proofs.NamesRead.{first_lacked, if_any, none_lacked}
use Rattle.check_core.proofs.tables.name_lacked.Goals as goal

pub returns-in_err-told-clause-blames : goal.returns-in_err-told-clause-blames
returns-in_err-told-clause-blames g c =
    blames_failed c.in_err-told.ensures.blames (search rules)

pub returns-in-Some-clause-told : goal.returns-in-Some-clause-told
returns-in-Some-clause-told g c =
    first_lacked c.args.settings.now (rw c.in-Some.is at c.in_ok-told.ensures)

pub returns-in-None-clause-told : goal.returns-in-None-clause-told
returns-in-None-clause-told g c =
    if_any c.some_name.result (λ told. none_lacked c.args.settings.now (string_bytes told)
    (rw c.in-None.is at c.in_ok-told.ensures))

pub returns-in-None-clause-blames : goal.returns-in-None-clause-blames
returns-in-None-clause-blames g c = blames_refused c.some_name.result c.some_name.ensures
