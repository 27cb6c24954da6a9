-- the persons of each role among the watchers so far
use Rattle.std.proofs.Common.{◌≡◌}
use Rattle.desk_model.specs.declared.rows.WatchRole.TheVariants.{AdminCc, Cc, Requestor}
use Rattle.store_core.specs.Found as found
use Rattle.store_core.proofs.seen_request.seen_request_of.Given as goal

abbrev pub invariant-loop-watcher : goal.invariant-loop-watcher
invariant-loop-watcher l = record {
  requestors : l.requestors.items ≡ found.persons_in Requestor l.yielded;
  cc : l.cc.items ≡ found.persons_in Cc l.yielded;
  admin_cc : l.admin_cc.items ≡ found.persons_in AdminCc l.yielded;
}
