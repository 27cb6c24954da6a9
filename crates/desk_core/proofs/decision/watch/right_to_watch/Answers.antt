-- the rights are those of the words
use Rattle.std.proofs.Common.{refl}
use Rattle.rights_core.specs.Right.{watch, watch_as_admin_cc}
use Rattle.desk_core.proofs.decision.watch.right_to_watch.Goals as goal

pub returns-in-Requestor : goal.returns-in-Requestor
unfolding watch
returns-in-Requestor c = rw c.in-Requestor.is refl

pub returns-in-Cc : goal.returns-in-Cc
unfolding watch
returns-in-Cc c = rw c.in-Cc.is refl

pub returns-in-AdminCc : goal.returns-in-AdminCc
unfolding watch_as_admin_cc
returns-in-AdminCc c = rw c.in-AdminCc.is refl
