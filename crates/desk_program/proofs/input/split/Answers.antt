-- the search goes on after a byte where no marker stands, and finds the parts
use Rattle.std.proofs.Common.{◌≡◌, ◌-◌, ◌≤◌, length, take, drop, Some, None, sym, ap, ◌∙◌}
use Rattle.std.proofs.Common.{arith, length-drop}
use Rattle.std.proofs.lemmas.List.{take_all}
use Rattle.desk_program.proofs.MarkerSearch.{found_at, found_is_split, goes_on, marker_rest}
use Rattle.desk_program.proofs.MarkerSearch.{not_found}
use Rattle.desk_program.proofs.input.split.Goals as goal

pub loop-place-preserved : goal.loop-place-preserved
loop-place-preserved c =
    let input = c.args.input.now in
    let rest = drop c.loop-place.place input in
    let fits : length rest ≤ length input - c.loop-place.place = simp length-drop (omega arith) in
    let whole : take (length input - c.loop-place.place) rest ≡ rest = take_all _ rest fits in
    let none : marker_rest c.loop-place.begins rest ≡ None =
    ap (marker_rest c.loop-place.begins) (sym whole) ∙ sym c.in_default.ensures in
    goes_on input c.loop-place.place c.loop-place.begins c.loop-place-test.true none
    c.loop-place.invariant

pub returns-in-Some : goal.returns-in-Some
returns-in-Some c =
    let input = c.args.input.now in
    let rest = drop c.loop-place.place input in
    let fits : length rest ≤ length input - c.loop-place.place = simp length-drop (omega arith) in
    let whole : take (length input - c.loop-place.place) rest ≡ rest = take_all _ rest fits in
    let here : marker_rest c.loop-place.begins rest ≡ Some c.in-Some.rest.now =
    ap (marker_rest c.loop-place.begins) (sym whole) ∙ sym c.in-Some.ensures in
    found_is_split input (Some (take c.loop-place.place input, c.in-Some.rest.now))
    (found_at input c.loop-place.place c.loop-place.begins c.in-Some.rest.now
    c.loop-place-test.true here c.loop-place.invariant)

pub returns : goal.returns
returns c =
    let input = c.args.input.now in
    found_is_split input None
    (not_found input c.loop-place.place c.loop-place.begins c.loop-place-test.false
    c.loop-place.invariant)
