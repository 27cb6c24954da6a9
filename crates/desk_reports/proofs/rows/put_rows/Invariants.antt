-- the texts of the rows so far were gathered
use Rattle.std.proofs.Common.{◌≡◌, ℕ, List, [], false}
use Rattle.report_core.specs.Rows.{WatchesRise}
use Rattle.store_tables.specs.Contents.Request.{Dated}
use Rattle.store_core.specs.Ahead.{HasGiven}
use Rattle.stream_core.specs.Seen.{HaveOneWriter, has_write_failed}
use Rattle.desk_reports.specs.Gathered.{Gathers}
use Rattle.desk_reports.specs.Lines.{rows_in}
use Rattle.desk_reports.specs.Rows.{IsReading, LeavesRows, OfEachDesk}
use Rattle.desk_reports.proofs.rows.put_rows.Given as goal

abbrev pub invariant-rows : goal.invariant-rows
invariant-rows g l =
    record {
      left : LeavesRows g.S.Store l.fn.rows l.rows;
      reading : IsReading g.S.Store l.rows;
      writer : HaveOneWriter l.output l.fn.output;
      ready : has_write_failed l.output ≡ false;
      gathered : (gathered : List ℕ) × Gathers g.W.Write.contents l.fn.output l.fn.gathered.items
          l.output l.gathered.items gathered
          × (WatchesRise l.watches → OfEachDesk g.S.Store l.fn.rows l.rows (λ due desk.
          (all : List Dated) → HasGiven g.S.Store l.fn.rows due desk all []
          → (given : List Dated) × HasGiven g.S.Store l.rows due desk all given
          × (gathered ≡ rows_in l.kind l.settings l.person l.watches given)));
    }
