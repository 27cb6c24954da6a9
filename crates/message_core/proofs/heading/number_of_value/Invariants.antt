-- the number of the digits so far, or one over the limit
use Rattle.std.proofs.Common.{◌≡◌, ◌+◌, true, take}
use Rattle.std.specs.Prelude.{min}
use Rattle.std.specs.List.{list_all}
use Rattle.message_core.specs.Heading.{is_digit, value_of}
use Rattle.message_core.proofs.heading.number_of_value.Given as goal

abbrev pub invariant-loop-b : goal.invariant-loop-b
invariant-loop-b l = record {
  value : l.number ≡ min (value_of (take l.b-index l.value)) (l.limit + 1);
  digits : list_all is_digit (take l.b-index l.value) ≡ true;
}
