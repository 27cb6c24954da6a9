use Rattle.std.proofs.Common.{ap, ◌∙◌, rules, FitsSigned, w32}
use Rattle.std.proofs.lemmas.Int.{to_z-of_z}
use Rattle.zone_rules.specs.Rule.{nanos, seconds_at}
use Rattle.zone_rules.proofs.TextLemmas.{zone_offset}
use Rattle.zone_rules.proofs.rule.Rule.offset_at.Goals as goal

pub returns : goal.returns
returns c =
    let fits : FitsSigned w32 c.offset_of.result = search rules in
    to_z-of_z w32 c.offset_of.result fits ∙ c.offset_of.ensures
    ∙ zone_offset c.self.inside.zone.inner (nanos c.args.minute) c.self.invariant
    ∙ ap (λ rule. seconds_at rule (nanos c.args.minute)) c.self.view_is
