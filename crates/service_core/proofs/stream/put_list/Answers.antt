-- what was written of the list is what comes of the command
use Rattle.std.proofs.Common.{refl, subst, sym}
use Rattle.desk_model.specs.declared.command.Command.{Command}
use Rattle.desk_model.specs.declared.command.Command.TheVariants.{List, Overdue}
use Rattle.stream_core.specs.Seen.{has_write_failed}
use Rattle.stream_core.specs.Written.{Prints}
use Rattle.store_core.specs.Seen.{state_of}
use Rattle.service_core.specs.Asked.{asked}
use Rattle.service_core.specs.Streaming.{StreamsAdmitted}
use Rattle.service_core.proofs.StreamLemmas.{is_cut_by, listed_stream}
use Rattle.service_core.proofs.stream.put_list.Goals as goal

pub returns-in-List-clause-streamed : goal.returns-in-List-clause-streamed
returns-in-List-clause-streamed g c =
    let s = c.args.call.settings.now in
    let it = c.stream_list.ensures.written in
    record {
      streamed =
          subst (λ (command : Command). StreamsAdmitted s (asked c.args.call command)
          (state_of g.S.Store c.args.store.now) (state_of g.S.Store c.stream_list.new.store)
          c.stream_list.result
          (Prints g.W.Write.contents c.args.output.now c.stream_list.new.output))
          (sym c.in-List.is) (
            it.0,
            it.1,
            λ desk is free stand clean.
                listed_stream s (asked c.args.call (List c.in-List.queue)) desk is
                (has_write_failed c.stream_list.new.output) it.0 c.stream_list.result refl free
                c.stream_list.ensures.failed (it.2 desk is stand clean),
          );
      failed =
          is_cut_by c.stream_list.result (has_write_failed c.stream_list.new.output)
          c.stream_list.ensures.failed;
      kept = c.stream_list.ensures.kept;
    }

pub returns-in-Overdue-clause-streamed : goal.returns-in-Overdue-clause-streamed
returns-in-Overdue-clause-streamed g c =
    let s = c.args.call.settings.now in
    let it = c.stream_overdue.ensures.written in
    record {
      streamed =
          subst (λ (command : Command). StreamsAdmitted s (asked c.args.call command)
          (state_of g.S.Store c.args.store.now) (state_of g.S.Store c.stream_overdue.new.store)
          c.stream_overdue.result
          (Prints g.W.Write.contents c.args.output.now c.stream_overdue.new.output))
          (sym c.in-Overdue.is) (
            it.0,
            it.1,
            λ desk is free stand clean.
                listed_stream s (asked c.args.call Overdue) desk is
                (has_write_failed c.stream_overdue.new.output) it.0 c.stream_overdue.result refl
                free c.stream_overdue.ensures.failed (it.2 desk is stand clean),
          );
      failed =
          is_cut_by c.stream_overdue.result (has_write_failed c.stream_overdue.new.output)
          c.stream_overdue.ensures.failed;
      kept = c.stream_overdue.ensures.kept;
    }
