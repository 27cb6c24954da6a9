-- each byte is taken as it comes, and at the end none is left
use Rattle.std.proofs.Common.{◌+◌, List, ℕ, arith, drop, get_or, subst, sym}
use Rattle.std.proofs.lemmas.List.{drop_all, drop_more}
use Rattle.connection_core.specs.Machine.{Hears}
use Rattle.connection_core.specs.Seen.{seen}
use Rattle.connection_core.proofs.HearsLemmas.{hears_more, hears_none}
use Rattle.connection_core.proofs.connection.Connection.take.Goals as goal

pub loop-byte-preserved : goal.loop-byte-preserved
loop-byte-preserved g c =
    let i = c.loop-byte.byte-index in
    let cut = drop_more c.args.bytes.now i 0 c.loop-byte-test.true in
    record {
      hears = λ new rest. c.loop-byte.invariant.hears new
          (subst (λ (l : List ℕ). Hears g.F.Framing.States (seen c.loop-byte.self) l new) (sym cut)
          (hears_more g.F.Framing.States (seen c.loop-byte.self) (seen c.take_byte.new.self) new
          (get_or c.args.bytes.now i 0) (drop (i + 1) c.args.bytes.now) c.take_byte.ensures.took rest));
      room = omega (
        arith,
        c.loop-byte.invariant.room,
        c.take_byte.ensures.len,
        c.take_byte.ensures.capacity,
        c.loop-byte-test.true,
      );
    }

pub returns-clause-ok : goal.returns-clause-ok
returns-clause-ok g c =
    c.loop-byte.invariant.hears (seen c.loop-byte.self)
    (subst (λ (l : List ℕ). Hears g.F.Framing.States (seen c.loop-byte.self) l (seen c.loop-byte.self))
    (sym (drop_all c.loop-byte.byte-index c.args.bytes.now (grind arith)))
    (hears_none g.F.Framing.States (seen c.loop-byte.self)))
