-- what the bytes that are left lead to is what all do, and there is room for them
use Rattle.std.proofs.Common.{◌≤◌, ◌+◌, ◌-◌, length, drop}
use Rattle.std.specs.Vec.{vec_capacity, vec_len}
use Rattle.connection_core.specs.Machine.{Conn, Hears}
use Rattle.connection_core.specs.Seen.{seen}
use Rattle.connection_core.proofs.connection.Connection.take.Given as goal

abbrev pub invariant-loop-byte : goal.invariant-loop-byte
invariant-loop-byte g l = record {
  hears : (new : Conn)
      → Hears g.F.Framing.States (seen l.self) (drop l.byte-index l.bytes) new
      → Hears g.F.Framing.States (seen l.fn.self) l.bytes new;
  room : vec_len l.self.came + (length l.bytes - l.byte-index) ≤ vec_capacity l.self.came;
}
