-- those so far are free
use Rattle.std.proofs.Common.{◌≡◌, ◌≤◌, replicate}
use Rattle.std.specs.Vec.{vec_capacity, vec_len}
use Rattle.connection_core.specs.Machine.{closed}
use Rattle.server_core.specs.Places.{conns}
use Rattle.server_core.proofs.server.free_slots.Given as goal

abbrev pub invariant-loop-place : goal.invariant-loop-place
invariant-loop-place g l = record {
  free : conns l.slots.items ≡ replicate l._place closed;
  count : vec_len l.slots ≡ l._place;
  room : l.places ≤ vec_capacity l.slots;
}
