-- the search has come to the place without finding the marker
use Rattle.desk_program.proofs.MarkerSearch.{CameTo}
use Rattle.desk_program.proofs.input.split.Given as goal

abbrev pub invariant-loop-place : goal.invariant-loop-place
invariant-loop-place l = CameTo l.input l.place l.begins
