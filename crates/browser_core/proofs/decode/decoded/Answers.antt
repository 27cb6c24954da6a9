-- each turn looks at the front of what is left
use Rattle.std.proofs.Common.{rules, ◌≡◌, ◌∙◌, ◌++◌, ◌∷◌, [], ap}
use Rattle.browser_core.specs.Form.{decoded, onto}
use Rattle.browser_core.proofs.Decodes.{goes_on}
use Rattle.browser_core.proofs.decode.decoded.Goals as goal

pub loop-left-preserved : goal.loop-left-preserved
loop-left-preserved c =
    let rest = c.first_of-byte.result.1.now in
    let pushed : c.push.new.self.items ≡ c.loop-left.out.items ++ c.in-Some.byte ∷ [] =
    search rules in
    goes_on c.loop-left.out.items c.push.new.self.items c.loop-left.left.now rest c.in-Some.byte _
    (c.first_of-byte.ensures.first ∙ ap (λ b. onto b (decoded rest)) c.in-Some.is) pushed
    c.loop-left.invariant
