-- what was read has come, and where there is no memory for it the connection is dropped
use Rattle.std.proofs.Common.{arith, inl, inr, refl}
use Rattle.connection_core.specs.Seen.{seen}
use Rattle.server_core.proofs.ReadLemmas.{some_taken}
use Rattle.server_core.proofs.StreamLemmas.{read_came}
use Rattle.server_core.proofs.slot.read_some.Goals as goal

pub returns-in-Ok-take-clause-read : goal.returns-in-Ok-take-clause-read
returns-in-Ok-take-clause-read g c =
    read_came g.F.Framing.States (g.H.Host.calls c.args.host.now) (g.H.Host.calls c.read.new.self)
    c.args.place c.in-Ok.count (g.H.Host.remaining c.args.stream.now)
    (g.H.Host.remaining c.read.new.stream) (seen c.args.connection.now) (seen c.take.new.self) _ _ _
    c.in-Ok.ensures.calls
    (some_taken c.in-Ok.count c.read.new.buffer c.in-Ok.ensures.bound.0 (grind (arith, c.in-Ok.count-test)))
    (inl c.in-Ok-take.ensures.ok) c.in-Ok.ensures.bytes.0 refl

pub returns-in-Err-take-clause-read : goal.returns-in-Err-take-clause-read
returns-in-Err-take-clause-read g c =
    read_came g.F.Framing.States (g.H.Host.calls c.args.host.now) (g.H.Host.calls c.read.new.self)
    c.args.place c.in-Ok.count (g.H.Host.remaining c.args.stream.now)
    (g.H.Host.remaining c.read.new.stream) (seen c.args.connection.now) (seen c.close.new.self) _ _ _
    c.in-Ok.ensures.calls
    (some_taken c.in-Ok.count c.read.new.buffer c.in-Ok.ensures.bound.0 (grind (arith, c.in-Ok.count-test)))
    (inr c.close.ensures) c.in-Ok.ensures.bytes.0 refl
