-- so many lines were answered, and the load goes on
use Rattle.std.proofs.Common.{false}
use Rattle.service_core.specs.Leaves.{LeavesDesk}
use Rattle.service_core.specs.Seen.{settings_of}
use Rattle.stream_core.specs.Seen.{HaveOneWriter}
use Rattle.load_core.specs.Load.{AnswersLines, GoesOn, held_by, place_at}
use Rattle.load_core.proofs.run.answer_lines.Given as goal

abbrev pub invariant-loop-count : goal.invariant-loop-count
invariant-loop-count g l = record {
  lines : AnswersLines g.S.Store (settings_of g.S.Store l.initial.desk) l.plan l.count
      (place_at (g.R.Read.remaining l.initial.reader) (held_by g.S.Store l.initial.desk)
      g.W.Write.contents l.initial.output false)
      (place_at (g.R.Read.remaining l.reader) (held_by g.S.Store l.desk)
      g.W.Write.contents l.output l.refused);
  goes : GoesOn l.plan.stop (place_at (g.R.Read.remaining l.reader) (held_by g.S.Store l.desk)
      g.W.Write.contents l.output l.refused);
  same_writer : HaveOneWriter l.output l.initial.output;
  left : LeavesDesk g.S.Store l.initial.desk l.desk;
}
