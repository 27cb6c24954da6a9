use Rattle.std.proofs.Common.{◌∙◌, Err, Result, ap, rules}
use Rattle.std.specs.Prelude.{⊤}
use Rattle.store_core.specs.Seen.{state_of}
use Rattle.store_tables.specs.declared.fault.StoreFault.{StoreFault}
use Rattle.store_tables.proofs.Contents.Watcher.{watcher_table}
use Rattle.store_tables.proofs.RowLemmas.{blames_of}
use Rattle.check_core.specs.Rows.{unknown_watcher}
use Rattle.check_core.proofs.NamesRead.{told_by, told_failed}
use Rattle.check_core.proofs.names.watcher_told.Goals as goal

pub returns-in_err-watchers : goal.returns-in_err-watchers
returns-in_err-watchers g c =
    let old = state_of g.S.Store c.args.store.now in
    let new = state_of g.S.Store c.watchers.new.self in
    let result : Result ⊤ StoreFault = Err c.in_err-watchers.field-0.0 in
    told_failed c.watchers.ensures.kept
    (blames_of watcher_table old new result c.in_err-watchers.ensures.tested.fails) (search rules)

pub returns : goal.returns
returns g c =
    told_by c.unknown_watcher.result c.watchers.ensures.kept
    (λ desk is stand clean. c.unknown_watcher.ensures
    ∙ ap (unknown_watcher c.args.settings.now)
    (c.as_slice.ensures.value ∙ c.in_ok-watchers.ensures.listed desk is stand clean))
    c.told_if.ensures.told c.told_if.ensures.fault
