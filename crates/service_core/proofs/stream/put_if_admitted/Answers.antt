-- the list of a command that isn't refused, or nothing
use Rattle.std.proofs.Common.{[]}
use Rattle.desk_reports.proofs.PrintedLemmas.{prints_none}
use Rattle.store_core.specs.Due.{due_of_row}
use Rattle.store_tables.proofs.Spared.{joined, stands}
use Rattle.store_tables.specs.Contents.{contents_of}
use Rattle.service_core.specs.Asked.{asked}
use Rattle.service_core.proofs.StreamLemmas.{refused_stream}
use Rattle.service_core.proofs.stream.put_if_admitted.Goals as goal

pub returns-in-Ok-clause-streamed : goal.returns-in-Ok-clause-streamed
returns-in-Ok-clause-streamed g c =
    let done = c.put_list.ensures.streamed in
    let it = done.streamed in
    let settings = c.args.call.settings.now in
    record {
      streamed = (
        it.0,
        it.1,
        λ desk is stand clean.
            it.2 desk is (c.in-Ok.ensures.admitted desk is stand (done.kept.clean clean))
            (stands c.admit.ensures.kept (contents_of (due_of_row settings desk) desk) stand)
            clean,
      );
      failed = done.failed;
      kept = joined c.admit.ensures.kept done.kept;
    }

pub returns-in-Err-clause-streamed : goal.returns-in-Err-clause-streamed
returns-in-Err-clause-streamed g c = record {
  streamed = (
    [],
    prints_none g.W.Write.contents c.args.output.now,
    λ desk is stand clean.
        refused_stream c.args.call.settings.now (asked c.args.call c.args.command.now) desk is
        c.in-Err.refusal (c.in-Err.ensures.admitted desk is stand clean),
  );
  failed = c.requires.ready;
  kept = c.admit.ensures.kept;
}
