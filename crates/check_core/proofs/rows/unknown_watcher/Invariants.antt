use Rattle.std.proofs.Common.{◌≡◌, drop}
use Rattle.check_core.specs.Rows.{unknown_watcher}
use Rattle.check_core.proofs.rows.unknown_watcher.Given as goal

abbrev pub invariant-loop-watcher : goal.invariant-loop-watcher
invariant-loop-watcher l =
    unknown_watcher l.settings (drop l.watcher-index l.watchers) ≡ unknown_watcher l.settings l.watchers
