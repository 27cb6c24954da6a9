-- what the lines so far print was printed, and the tables stand for the desk that they left
use Rattle.std.proofs.Common.{◌≡◌, ℕ, List, length}
use Rattle.std.specs.Str.Lines.{lines}
use Rattle.store_core.specs.Due.{RepresentsWithDue}
use Rattle.desk_model.specs.Desk.{Desk}
use Rattle.desk_model.specs.IsDesk.{IsDesk}
use Rattle.service_core.specs.Seen.{settings_of, tables_of}
use Rattle.stream_core.specs.Seen.{HaveOneWriter}
use Rattle.stream_core.specs.Written.{Prints}
use Rattle.desk_program.proofs.PrintedLines.{PrintUpTo}
use Rattle.desk_program.proofs.run.run_lines.Given as goal

abbrev pub invariant-loop-line : goal.invariant-loop-line
invariant-loop-line g l = record {
  same : HaveOneWriter l.output l.initial.output;
  settings : settings_of g.S.Store l.desk ≡ settings_of g.S.Store l.initial.desk;
  printed : (text : List ℕ) × (now : Desk) × IsDesk now
      × RepresentsWithDue (settings_of g.S.Store l.initial.desk) now (tables_of g.S.Store l.desk)
      × PrintUpTo (settings_of g.S.Store l.initial.desk) (lines l.commands) (length l.yielded)
      text now
      × Prints g.W.Write.contents l.initial.output l.output text;
}
