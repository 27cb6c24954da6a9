use Rattle.std.proofs.Common.{◌∙◌, Bool, None, Option, ap, cond, sym}
use Rattle.std.specs.Option.{option_map}
use Rattle.find_core.specs.Ordered.{Placed}
use Rattle.find_core.specs.Rows.{place_if}
use Rattle.find_core.specs.declared.search.Place.{Place}
use Rattle.store_tables.proofs.ReadingLemmas.{if_ok}
use Rattle.desk_finds.specs.Found.{told_by}
use Rattle.desk_finds.proofs.finding.place_of.Goals as goal

pub returns-then-is_left-clause-told : goal.returns-then-is_left-clause-told
returns-then-is_left-clause-told g c own theirs rise desk is stand clean =
    let dated = c.args.dated.now in
    let beside : Place → Placed = λ p. (p, dated.1) in
    let it : Option Placed = option_map beside (place_if c.args.search.now dated
    (told_by c.args.call.settings.now c.args.call.caller.now c.args.own.now desk dated.0)) in
    if_ok c.sought.result (λ place told.
    ap (option_map beside) told
    ∙ ap (λ (b : Bool). cond b it None)
    (sym (sym (c.is_left.ensures own theirs rise) ∙ c.if-is_left.true)))
    (c.sought.ensures.told own desk is stand clean)

pub returns-else-is_left-clause-told : goal.returns-else-is_left-clause-told
returns-else-is_left-clause-told g c own theirs rise desk is stand clean =
    let dated = c.args.dated.now in
    let beside : Place → Placed = λ p. (p, dated.1) in
    let it : Option Placed = option_map beside (place_if c.args.search.now dated
    (told_by c.args.call.settings.now c.args.call.caller.now c.args.own.now desk dated.0)) in
    ap (λ (b : Bool). cond b it None)
    (sym (sym (c.is_left.ensures own theirs rise) ∙ c.if-is_left.false))
