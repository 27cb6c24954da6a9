-- what was read without memory stays so by the rules
use Rattle.std.proofs.Common.{◌≡◌, ◌∙◌, Result, Ok, Err}
use Rattle.message_core.specs.declared.fault.WireFault.{WireFault}
use Rattle.message_core.specs.declared.fault.WireFault.TheVariants.{NoMemory}
use Rattle.message_core.specs.declared.request.Request.{Request}
use Rattle.http_rules.specs.Rules.{IsByRules}
use Rattle.web_core.proofs.web.taken.Goals as goal

stays : (came read : Result Request WireFault) → came ≡ Err NoMemory → IsByRules came read
    → read ≡ Err NoMemory
stays (Err fault) read is by = by ∙ is
stays (Ok request) read is by = cc

pub returns : goal.returns
returns c = λ told.
    let by = c.by_rules.ensures told in (
      c.read_sent.result,
      c.read_sent.ensures (λ none. told (stays c.read_sent.result c.by_rules.result none by)),
      by,
    )
