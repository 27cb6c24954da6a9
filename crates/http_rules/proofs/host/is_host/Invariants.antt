-- each byte so far is one of a host
use Rattle.std.proofs.Common.{◌≡◌, drop}
use Rattle.std.specs.List.{list_all}
use Rattle.http_rules.specs.Host.{is_host_byte}
use Rattle.http_rules.proofs.host.is_host.Given as goal

abbrev pub invariant-loop-byte : goal.invariant-loop-byte
invariant-loop-byte l =
    list_all is_host_byte (drop l.byte-index l.value) ≡ list_all is_host_byte l.value
