-- it has waited as long as there was nothing to do
use Rattle.server_core.proofs.PauseLemmas.{rests_on, rests_still}
use Rattle.server_core.proofs.server.wait.Goals as goal

pub returns-then-branch-clause-rests : goal.returns-then-branch-clause-rests
returns-then-branch-clause-rests g c =
    rests_on c.args.queue c.args.marks.now c.wait.new.marks c.wait_moment-now.result
    c.pause_of-pause.result _ c.args.slots.now (g.H.Host.calls c.args.host.now)
    (g.H.Host.calls c.wait_moment-now.new.self) (g.H.Host.calls c.wait.new.self)
    c.wait_moment-now.ensures.calls c.in_ok-wait.ensures.calls c.pause_of-pause.ensures.is
    c.requires c.if-branch.true

pub returns-else-branch-clause-rests : goal.returns-else-branch-clause-rests
returns-else-branch-clause-rests g c =
    rests_still c.args.queue c.args.marks.now c.wait.new.marks c.wait_moment-now.result
    c.pause_of-pause.result _ c.args.slots.now (g.H.Host.calls c.args.host.now)
    (g.H.Host.calls c.wait_moment-now.new.self) (g.H.Host.calls c.wait.new.self)
    c.wait_moment-now.ensures.calls c.in_ok-wait.ensures.calls c.pause_of-pause.ensures.is
    c.requires c.if-branch.false
