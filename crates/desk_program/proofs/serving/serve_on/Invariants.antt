-- the connections so far were accepted, and each was answered, or a read failed in it
use Rattle.std.proofs.Common.{◌≡◌, false}
use Rattle.service_core.specs.Leaves.{LeavesDesk}
use Rattle.service_core.specs.Seen.{settings_of, tables_of}
use Rattle.desk_program.specs.Listening.{accepted_of, asked_of, has_accept_failed}
use Rattle.desk_program.specs.Serving.{AnswersAll}
use Rattle.desk_program.proofs.serving.serve_on.Given as goal

abbrev pub invariant-loop-connection : goal.invariant-loop-connection
invariant-loop-connection g l =
    record {
      all : AnswersAll (settings_of g.S.Store l.fn.desk) l.listener
          (tables_of g.S.Store l.fn.desk) (tables_of g.S.Store l.desk);
      asked : asked_of l.listener ≡ l._connection;
      accepted : accepted_of l.listener ≡ l._connection;
      unfailed : has_accept_failed l.listener ≡ false;
      left : LeavesDesk g.S.Store l.fn.desk l.desk;
    }
