-- each turn looks at the first piece of what is left
use Rattle.std.proofs.Common.{rules, ◌≡◌, ◌∙◌, ◌++◌, ◌∷◌, [], ap, option_map, sym}
use Rattle.browser_core.proofs.Decodes.{field_more, no_field}
use Rattle.browser_core.proofs.Stops.{size_less}
use Rattle.browser_core.proofs.form.fields_in.Goals as goal

pub returns-in-None : goal.returns-in-None
returns-in-None c =
    no_field c.loop-left.fields.items c.in-Some.rest.now c.cut.result.0.now
    (option_map (λ r. r.now) c.loop-left.left) _ (ap (option_map (λ r. r.now)) c.in-Some.is)
    c.cut.ensures.before (sym c.in_ok-field.ensures ∙ c.in-None.is) c.loop-left.invariant

pub loop-left-smaller : goal.loop-left-smaller
loop-left-smaller c =
    size_less 38 c.in-Some.rest.now (option_map (λ r. r.now) c.loop-left.left)
    (option_map (λ r. r.now) c.cut.result.1) (ap (option_map (λ r. r.now)) c.in-Some.is)
    c.cut.ensures.after

pub loop-left-preserved : goal.loop-left-preserved
loop-left-preserved c =
    let pushed : c.push.new.self.items ≡ c.loop-left.fields.items ++ c.in-Some-2.field ∷ [] =
    search rules in
    field_more c.loop-left.fields.items c.push.new.self.items c.in-Some-2.field
    c.in-Some.rest.now c.cut.result.0.now (option_map (λ r. r.now) c.loop-left.left)
    (option_map (λ r. r.now) c.cut.result.1) _ (ap (option_map (λ r. r.now)) c.in-Some.is)
    c.cut.ensures.before c.cut.ensures.after (sym c.in_ok-field.ensures ∙ c.in-Some-2.is) pushed
    c.loop-left.invariant
