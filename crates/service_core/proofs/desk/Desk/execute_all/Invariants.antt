-- the commands so far have run
use Rattle.std.proofs.Common.{◌≡◌, ◌≤◌, length, map, take}
use Rattle.std.specs.Vec.{vec_capacity, vec_len}
use Rattle.service_core.specs.Leaves.{LeavesDesk}
use Rattle.service_core.specs.TableSteps.{RunsOn, ask_of}
use Rattle.service_core.specs.Seen.{settings_of, tables_of}
use Rattle.service_core.proofs.desk.Desk.execute_all.Given as goal

abbrev pub invariant-loop-ask : goal.invariant-loop-ask
invariant-loop-ask g l =
    record {
      run :
          RunsOn (settings_of g.S.Store l.fn.self) (map ask_of (take l.ask-index l.asks))
          l.outcomes.items (tables_of g.S.Store l.fn.self) (tables_of g.S.Store l.self);
      left : LeavesDesk g.S.Store l.fn.self l.self;
      room : length l.asks ≤ vec_capacity l.outcomes;
      count : vec_len l.outcomes ≡ l.ask-index;
    }
