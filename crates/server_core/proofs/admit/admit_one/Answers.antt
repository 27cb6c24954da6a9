-- the network gave a connection, for which there is a place, or none, or has failed
use Rattle.std.proofs.Common.{refl}
use Rattle.server_core.proofs.AcceptLemmas.{admits_at, admits_fault, admits_nobody}
use Rattle.server_core.proofs.admit.admit_one.Goals as goal

pub returns-in-Ok-Some-clause-admits : goal.returns-in-Ok-Some-clause-admits
returns-in-Ok-Some-clause-admits g c =
    admits_at (g.H.Host.calls c.args.host.now) (g.H.Host.calls c.accept.new.self) c.in-Some.place
    c.args.now c.args.slots.now c.args.marks.now _ _ c.in-Ok-Some.field-0 c.in-Ok-Some.stream
    c.in-Ok-Some.field-0-is c.in-Ok-Some.ensures.calls c.in-Some.ensures.gives c.open.ensures refl

pub returns-in-Ok-None-clause-admits : goal.returns-in-Ok-None-clause-admits
returns-in-Ok-None-clause-admits g c =
    admits_nobody (g.H.Host.calls c.args.host.now) (g.H.Host.calls c.accept.new.self) c.in-Some.place
    c.args.now c.args.slots.now c.args.marks.now c.in-Ok-None.field-0 c.in-Ok-None.field-0-is
    c.in-Ok-None.ensures.calls

pub returns-in-Err-clause-admits : goal.returns-in-Err-clause-admits
returns-in-Err-clause-admits g c =
    admits_fault (g.H.Host.calls c.args.host.now) (g.H.Host.calls c.accept.new.self) c.in-Some.place
    c.args.now c.args.slots.now c.args.marks.now c.in-Err.ensures.calls
