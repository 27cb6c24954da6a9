-- the digits so far have that value
use Rattle.std.proofs.Common.{◌≡◌, ◌<◌, ◌^◌, take, true}
use Rattle.std.specs.List.{list_all}
use Rattle.text_core.specs.Form.{is_digit}
use Rattle.desk_forms.specs.Number.{value_of}
use Rattle.desk_forms.proofs.number.number_of_word.Given as goal

abbrev pub invariant-loop-b : goal.invariant-loop-b
invariant-loop-b l = record {
  value : l.number ≡ value_of (take l.b-index l.b-items);
  digits : list_all is_digit (take l.b-index l.b-items) ≡ true;
  small : l.number < 10 ^ l.b-index;
}
