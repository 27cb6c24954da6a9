-- what was taken so far, each time by a write that took a byte
use Rattle.std.proofs.Common.{◌≡◌, ◌≤◌, ◌+◌, ◌-◌, false, length, take}
use Rattle.std.specs.Io.KnownBytes.{Appends}
use Rattle.stream_core.proofs.writer.CountedWriter.put_whole.Given as goal

abbrev pub invariant-loop-taken : goal.invariant-loop-taken
invariant-loop-taken g l = record {
  same : l.self.writer.ghost_name ≡ l.initial.self.writer.ghost_name;
  taken : Appends (g.W.Write.contents l.initial.self.writer.now)
      (g.W.Write.contents l.self.writer.now) (take l.taken l.bytes);
  within : l.taken ≤ length l.bytes;
  counted : l.self.writes ≤ l.initial.self.writes + l.taken;
  unfailed : l.self.failed ≡ false;
}

abbrev pub decreases-loop-taken : goal.decreases-loop-taken
decreases-loop-taken g l = length l.bytes - l.taken
