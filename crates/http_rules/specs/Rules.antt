-- What was read, by HTTP's rules.
use Rattle.std.specs.Prelude.{◌≡◌, if◌then◌else◌, [], Result, Ok, Err}
use Rattle.httparse.specs.Grammar.{RequestHead}
use Rattle.message_core.specs.Head.{StartsWith}
use Rattle.message_core.specs.declared.fault.WireFault.{WireFault}
use Rattle.message_core.specs.declared.fault.WireFault.TheVariants.{BadHead}
use Rattle.message_core.specs.declared.request.Request.{Request}
use Rattle.http_rules.specs.Host.{has_host}
use Rattle.http_rules.specs.Target.{in_origin_form}

-- a message with this head: without its host it is none, and its target is taken in origin form
abbrev pub ruled : RequestHead → Request → Result Request WireFault
ruled h request = if has_host h then Ok (in_origin_form request) else Err BadHead

-- a fault stays
abbrev pub IsByRules : Result Request WireFault → Result Request WireFault → Type 0
IsByRules (Err fault) taken = taken ≡ Err fault
IsByRules (Ok request) taken =
    (h : RequestHead) → StartsWith request.head h [] → taken ≡ ruled h request
