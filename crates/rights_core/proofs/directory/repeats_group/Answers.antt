use Rattle.std.proofs.Common.{◌≡◌, ◌+◌, ◌-◌, true, false, ◌||◌, List, drop, take, length, arith}
use Rattle.std.proofs.Common.{sym, ap, ◌∙◌}
use Rattle.std.proofs.lemmas.Grind.{common_steps}
use Rattle.rights_core.specs.declared.parts.Group.{Group}
use Rattle.rights_core.specs.RightsFaults.{group_names, has_group}
use Rattle.text_core.specs.Texts.{repeats_text}
use Rattle.rights_core.proofs.Repeats.{repeats_from}
use Rattle.rights_core.proofs.directory.repeats_group.Goals as goal

pub returns-then-has_group : goal.returns-then-has_group
returns-then-has_group c =
    let groups = c.args.groups.now in
    let name = c.index-groups-i.result.name in
    let rest : List Group = drop (c.loop-i.i + 1) groups in
    let whole : rest ≡ take (length groups - (c.loop-i.i + 1)) rest = grind (arith, common_steps) in
    let again : has_group rest name ≡ true =
    ap (λ gs. has_group gs name) whole
    ∙ ap (has_group (take (length groups - (c.loop-i.i + 1)) rest)) (sym c.as_str.ensures)
    ∙ sym c.has_group.ensures
    ∙ c.if-has_group.true in
    sym
    (c.loop-i.invariant
    ∙ repeats_from groups c.loop-i.i c.index-groups-i.result c.loop-i-test.true c.index-groups-i.is
    ∙ ap (λ b. b || repeats_text (group_names rest)) again)

pub loop-i-preserved : goal.loop-i-preserved
loop-i-preserved c =
    let groups = c.args.groups.now in
    let name = c.index-groups-i.result.name in
    let rest : List Group = drop (c.loop-i.i + 1) groups in
    let whole : rest ≡ take (length groups - (c.loop-i.i + 1)) rest = grind (arith, common_steps) in
    let once : has_group rest name ≡ false =
    ap (λ gs. has_group gs name) whole
    ∙ ap (has_group (take (length groups - (c.loop-i.i + 1)) rest)) (sym c.as_str.ensures)
    ∙ sym c.has_group.ensures
    ∙ c.if-has_group.false in
    c.loop-i.invariant
    ∙ repeats_from groups c.loop-i.i c.index-groups-i.result c.loop-i-test.true c.index-groups-i.is
    ∙ ap (λ b. b || repeats_text (group_names rest)) once
