-- the row is so, and then the history tells
use Rattle.std.proofs.Common.{◌∙◌, ap, sym}
use Rattle.store_tables.proofs.Spared.{stands_for}
use Rattle.service_core.specs.Filed.{is_filed_with}
use Rattle.service_core.proofs.FiledLemmas.{row_told}
use Rattle.service_core.proofs.filed.is_filed_at.Goals as goal

pub returns-clause-told : goal.returns-clause-told
returns-clause-told g c desk is stand clean =
    let kept = c.is_row_at.ensures.kept in
    let before = c.entries_of.ensures.kept.clean clean in
    c.is_filed_with.ensures
    ∙ ap (is_filed_with c.args.call.caller.now c.args.text.now)
    (c.as_slice.ensures.value ∙ c.in_ok-entries.ensures.listed desk is (stands_for kept desk stand) clean)
    ∙ sym (row_told c.args.call.settings.now c.args.call.at c.args.call.caller.now c.args.create.now
    c.args.text.now desk c.args.id
    (sym (c.in_ok-is_row.ensures.told desk is stand before) ∙ c.if-not-is_row.false))
