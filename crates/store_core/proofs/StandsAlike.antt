-- Tables that hold some rows hold them in any order.
use Rattle.std.proofs.Common.{rules, List, OnOk, Result, IsPermutation, None}
use Rattle.std.proofs.lemmas.List.Sorted.{IsPermutation-trans}
use Rattle.sqlite.specs.Effect.{Database}
use Rattle.sqlite.specs.Order.{Row}
use Rattle.sqlite.specs.State.{State}
use Rattle.store_tables.specs.Contents.{Contents, no_contents, Tables, AreAlike}
use Rattle.store_tables.specs.Kept.{Holds}
use Rattle.store_tables.specs.Stands.{HoldsNow, HoldCommitted, Represents}
use Rattle.store_tables.proofs.Contents.{values_alike}
use Rattle.desk_model.specs.Desk.{empty_desk}
use Rattle.store_core.proofs.RunLemmas.{and_then}

holds_alike : {K X : Type 0} {row : K → Row} {value : K → X} {xs ys : List X} {rows : List Row}
    → IsPermutation xs ys → Holds row value xs rows → Holds row value ys rows
holds_alike same h = let now = IsPermutation-trans _ _ _ h.same same in search rules

tables_alike : (a b : Contents) (db : Database) → AreAlike a b → Tables a db → Tables b db
tables_alike a b db same t =
    let meta = rw same.version at t.meta in
    search (holds_alike, values_alike, rules)

pub now_alike : (a b : Contents) (s : State) → AreAlike a b → HoldsNow a s → HoldsNow b s
now_alike a b s same holds c o = let it = holds c o in (tables_alike a b s.now same it.0, it.1)

pub done_alike : {X E : Type 0} (r : Result X E) (a b : Contents) (s : State) → AreAlike a b
    → OnOk r (HoldCommitted a s) → OnOk r (HoldCommitted b s)
done_alike r a b s same = and_then r (λ stand c o.
    let it = stand c o in
    (tables_alike a b s.now same it.0, tables_alike a b s.committed same it.1))

-- tables without rows stand for the empty desk
pub empty_stands : {X E : Type 0} (r : Result X E) (s : State) → OnOk r (HoldCommitted no_contents s)
    → OnOk r (Represents empty_desk s)
empty_stands r s = and_then r (λ stand. (λ row. None, stand))
