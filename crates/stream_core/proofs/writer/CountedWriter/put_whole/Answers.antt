-- what a write took stands after what was taken before
use Rattle.std.proofs.Common.{◌≡◌, ◌≤◌, ◌-◌, true, false, length, take, drop, arith, length-drop}
use Rattle.std.proofs.Math.Seq.{take-add}
use Rattle.std.proofs.lemmas.List.{take_all}
use Rattle.stream_core.proofs.WriterLemmas.{appends_both, cut_short, fails, fails_not, written_if}
use Rattle.stream_core.proofs.writer.CountedWriter.put_whole.Goals as goal

pub loop-taken-preserved : goal.loop-taken-preserved
loop-taken-preserved g c =
    let contents = g.W.Write.contents in
    let bytes = c.args.bytes.now in
    let taken = c.loop-taken.taken in
    let rest = drop taken bytes in
    let fits : length rest ≤ length bytes - taken = simp length-drop (omega arith) in
    let whole : take (length bytes - taken) rest ≡ rest = take_all _ rest fits in
    let some = rw whole at c.write-count.ensures.bytes in
    let bound = rw whole at c.write-count.ensures.bound in
    let both = appends_both (contents c.args.self.now.writer.now)
    (contents c.loop-taken.self.writer.now) (contents c.write-count.new.self.writer.now)
    (take taken bytes) (take c.write-count.result rest) c.loop-taken.invariant.taken some in
    record {
      same = cc;
      taken = rw (take-add taken c.write-count.result bytes) both;
      within = omega (arith, simp length-drop at bound);
      counted = omega (arith, c.write-count.ensures.counted);
      unfailed = fails_not _ _ _ c.loop-taken.invariant.unfailed c.write-count.ensures.failed
          c.if-count-eq0.false;
    }

pub returns-then-count-eq0-clause-written : goal.returns-then-count-eq0-clause-written
returns-then-count-eq0-clause-written g c =
    let contents = g.W.Write.contents in
    let failed = fails _ _ _ c.write-count.ensures.failed c.if-count-eq0.true in
    written_if _ true (contents c.args.self.now.writer.now)
    (contents c.write-count.new.self.writer.now) c.args.bytes.now failed
    (cut_short (contents c.args.self.now.writer.now) (contents c.loop-taken.self.writer.now)
    (contents c.write-count.new.self.writer.now) c.args.bytes.now c.loop-taken.taken
    c.loop-taken-test.true _ c.write-count.result c.if-count-eq0.true c.loop-taken.invariant.taken
    c.write-count.ensures.bytes)

pub returns-clause-written : goal.returns-clause-written
returns-clause-written g c =
    let bytes = c.args.bytes.now in
    let whole : take c.loop-taken.taken bytes ≡ bytes = take_all _ _ c.loop-taken-test.false in
    written_if _ false (g.W.Write.contents c.args.self.now.writer.now)
    (g.W.Write.contents c.loop-taken.self.writer.now) bytes c.loop-taken.invariant.unfailed
    (rw whole at c.loop-taken.invariant.taken)
