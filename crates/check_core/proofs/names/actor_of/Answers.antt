use Rattle.std.proofs.Common.{◌∙◌, Err, Result, ap, rules}
use Rattle.std.specs.Prelude.{⊤}
use Rattle.store_core.specs.Seen.{state_of}
use Rattle.store_tables.specs.declared.fault.StoreFault.{StoreFault}
use Rattle.store_tables.proofs.Contents.Entry.{entry_table}
use Rattle.store_tables.proofs.RowLemmas.{blames_of}
use Rattle.check_core.specs.Rows.{unknown_entry}
use Rattle.check_core.proofs.NamesRead.{told_by, told_failed}
use Rattle.check_core.proofs.names.actor_of.Goals as goal

pub returns-in_err-entries : goal.returns-in_err-entries
returns-in_err-entries g c =
    let old = state_of g.S.Store c.args.store.now in
    let new = state_of g.S.Store c.entries_of.new.self in
    let result : Result ⊤ StoreFault = Err c.in_err-entries.field-0.0 in
    told_failed c.entries_of.ensures.kept
    (blames_of entry_table old new result c.in_err-entries.ensures.mismatch) (search rules)

pub returns : goal.returns
returns g c =
    told_by c.unknown_entry.result c.entries_of.ensures.kept
    (λ desk is stand clean. c.unknown_entry.ensures
    ∙ ap (unknown_entry c.args.settings.now)
    (c.as_slice.ensures.value ∙ c.in_ok-entries.ensures.listed desk is stand clean))
    c.told_if.ensures.told c.told_if.ensures.fault
