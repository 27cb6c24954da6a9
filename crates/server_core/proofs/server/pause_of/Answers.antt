-- one more was looked at
use Rattle.std.proofs.Common.{◌∙◌, ap, arith, false, get_or, min}
use Rattle.connection_core.specs.Seen.{seen}
use Rattle.server_core.specs.Wait.{is_full, pause_at}
use Rattle.server_core.specs.declared.host.Readiness.{Readiness}
use Rattle.server_core.proofs.PauseLemmas.{pauses_on}
use Rattle.server_core.proofs.server.pause_of.Goals as goal

pub loop-place-preserved : goal.loop-place-preserved
loop-place-preserved g c =
    let none : Readiness = record { readable = false; writable = false } in
    let mark = get_or c.args.marks.now c.loop-place.place none in
    pauses_on c.args.slots.now c.args.marks.now (is_full c.args.queue) c.args.now c.loop-place.pause
    c.min-pause.result _ c.loop-place.place c.index-slots-place.result none
    (omega (arith, c.loop-place-test.true))
    (omega (arith, c.loop-place-test.true, c.requires))
    (c.min-pause.ensures ∙ ap (λ n. min c.loop-place.pause n) (c.pause_at.ensures
    ∙ ap (λ b. pause_at b c.args.now (seen c.index-slots-place.result.connection) mark)
    c.is_full-full.ensures
    ∙ ap (λ s. pause_at (is_full c.args.queue) c.args.now (seen s.connection) mark)
    c.index-slots-place.is)) c.loop-place.invariant
