use Rattle.std.proofs.Common.{arith, length, rules, ◌≡◌, ◌+◌, ◌<◌, ◌≤◌, List, ◌∷◌, refl, zero, ℕ}
use Rattle.std.proofs.Common.{[], suc, get_or}
use Rattle.sqlite.specs.Held.{state}
use Rattle.store_tables.specs.Contents.Stay.{stay_rows, stay_row, stay_rows_from}
use Rattle.store_tables.specs.Contents.{add_stay}
use Rattle.store_tables.proofs.StepLemmas.{beside_on, does_all, does_more}
use Rattle.hours_core.specs.declared.stay.Stay.{Stay}
use Rattle.store_tables.proofs.tables.stay.put_stays.Goals as goal

rows_counted : (id n : ℕ) (stays : List Stay)
    → length (stay_rows_from id n stays) ≡ length stays
rows_counted id n [] = refl
rows_counted id n (x ∷ stays) = grind (arith, rows_counted id (n + 1) stays)

-- the one at a place has the number of the first and the place
row_at_place : (id n m : ℕ) (stays : List Stay) (i : ℕ) (x : Stay) → m ≡ n + i
    → i < length stays → x ≡ get_or stays i x
    → stay_row id m x ≡ get_or (stay_rows_from id n stays) i (stay_row id m x)
row_at_place id n m [] i x place low is = absurd (omega (arith, low))
row_at_place id n m (y ∷ stays) zero x place low is = grind (arith, place, is)
row_at_place id n m (y ∷ stays) (suc i) x place low is =
    row_at_place id (n + 1) m stays i x (omega (arith, place)) (omega (arith, low)) is

pub loop-stay-preserved : goal.loop-stay-preserved
loop-stay-preserved g c =
    let id = c.args.id in
    let stays = c.args.stays.now in
    let i = c.loop-stay.stay-index in
    let x = c.stay-item.result in
    let low : i < length stays = search rules in
    let next : c.in-Some.next ≡ i + 1 = search rules in
    let place : c.in-Some.next ≡ 1 + i = omega (arith, next) in
    let beside = beside_on (state g.S.Store c.args.tx.now.conn.now)
    (state g.S.Store c.loop-stay.tx.conn.now) (state g.S.Store c.put_stay.new.tx.conn.now)
    c.loop-stay.invariant.beside c.in_ok-put_stay.ensures.put.clean
    c.in_ok-put_stay.ensures.beside in
    let done = does_more add_stay (stay_rows id stays) (omega (arith, low, rows_counted id 1 stays))
    (row_at_place id 1 c.in-Some.next stays i x place low c.stay-item.is)
    c.loop-stay.invariant.done c.in_ok-put_stay.ensures.put in
    search rules

pub returns-clause-put : goal.returns-clause-put
returns-clause-put g c =
    let high : length c.args.stays.now ≤ c.loop-stay.stay-index = search rules in
    does_all add_stay (stay_rows c.args.id c.args.stays.now)
    (omega (arith, high, rows_counted c.args.id 1 c.args.stays.now)) c.loop-stay.invariant.done
