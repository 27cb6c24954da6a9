-- over a writer that counts from then on
use Rattle.std.proofs.Common.{◌≡◌, rules, subst}
use Rattle.stream_core.specs.Written.{IsWritten}
use Rattle.service_core.specs.Streaming.{is_write}
use Rattle.service_core.proofs.StreamLemmas.{written_by}
use Rattle.service_core.proofs.desk.Desk.stream.Goals as goal

pub returns-clause-streamed : goal.returns-clause-streamed
returns-clause-streamed g c =
    let it = c.stream_counted.ensures.streamed in
    let same : c.stream_counted.new.output.writer.now ≡ c.writer-1.given.0 =
    search (rules, c.stream_counted.ensures.writer.same_writer) in (
      it.0,
      subst (λ w. IsWritten (is_write c.stream_counted.result)
          (g.W.Write.contents c.args.writer.now) (g.W.Write.contents w) it.0) same
          (rw c.new-output.ensures.untouched at
          (written_by g.W.Write.contents c.new-output.result c.stream_counted.new.output
          (is_write c.stream_counted.result) it.0 c.new-output.ensures.unfailed
          c.stream_counted.ensures.writer.failed it.1)),
      it.2,
    )
