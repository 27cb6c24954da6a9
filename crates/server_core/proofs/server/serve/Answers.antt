-- the places are as many as were asked for, and have a mark each
use Rattle.std.proofs.Common.{◌≡◌, ◌∙◌, ℕ, ap, subst, replicate, arith}
use Rattle.connection_core.specs.Machine.{closed}
use Rattle.server_core.specs.Places.{conns}
use Rattle.server_core.specs.Served.{IsServed}
use Rattle.server_core.proofs.ServedLemmas.{marks_unset, places_count, places_free}
use Rattle.server_core.proofs.server.serve.Goals as goal

pub serve_at-requires-clause-free : goal.serve_at-requires-clause-free
serve_at-requires-clause-free g c =
    let free : conns c.deref_mut.result.now ≡ replicate c.args.places closed =
    ap (λ l. conns l) c.deref_mut.ensures.value ∙ c.in_ok-slots.ensures in
    places_free c.deref_mut.result.now c.args.places free

pub serve_at-requires-clause-marks : goal.serve_at-requires-clause-marks
serve_at-requires-clause-marks g c =
    let free : conns c.deref_mut.result.now ≡ replicate c.args.places closed =
    ap (λ l. conns l) c.deref_mut.ensures.value ∙ c.in_ok-slots.ensures in
    let count = places_count c.deref_mut.result.now c.args.places free in
    omega (arith, count, c.deref_mut-2.ensures.len, c.in_ok-marks.ensures.len)

pub serve_at-requires-clause-unmarked : goal.serve_at-requires-clause-unmarked
serve_at-requires-clause-unmarked g c =
    let free : conns c.deref_mut.result.now ≡ replicate c.args.places closed =
    ap (λ l. conns l) c.deref_mut.ensures.value ∙ c.in_ok-slots.ensures in
    let count = places_count c.deref_mut.result.now c.args.places free in
    marks_unset c.deref_mut-2.result.now c.in_ok-marks.marks.items c.args.places _
    c.deref_mut-2.ensures.value (c.in_ok-marks.ensures.items_if_clones_equal (λ y is. is)) count

pub returns-clause-ok : goal.returns-clause-ok
returns-clause-ok g c =
    let free : conns c.deref_mut.result.now ≡ replicate c.args.places closed =
    ap (λ l. conns l) c.deref_mut.ensures.value ∙ c.in_ok-slots.ensures in
    subst (λ (n : ℕ). IsServed g.D.Framing.States g.D.Desk.Steps g.D.Desk.shuts
    (g.H.Host.told c.args.host.now) (g.H.Host.told c.serve_at.new.host)
    (g.H.Host.calls c.args.host.now) (g.H.Host.calls c.serve_at.new.host) n c.args.most c.args.desk.now
    c.serve_at.result c.serve_at.new.desk) (places_count c.deref_mut.result.now c.args.places free)
    c.serve_at.ensures
