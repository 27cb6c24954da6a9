-- Which requests tables show, whatever rows their other tables have.
use Rattle.std.specs.Prelude.{◌≡◌, List, OnOk, Result, [], map, true}
use Rattle.sqlite.specs.Effect.{Database}
use Rattle.sqlite.specs.State.{State}
use Rattle.store_tables.specs.Contents.{Contents, desk_schema}
use Rattle.store_tables.specs.Contents.Request.{Dated, dated_shown, dated_shown_terms, request}
use Rattle.store_tables.specs.Picked.{Shows, shows}
use Rattle.store_tables.specs.Stands.{WhereOpen}
use Rattle.store_tables.specs.declared.fault.StoreFault.{StoreFault}

-- Where the tables are there, a query of all requests with their due moments shows these, in some
-- order. Of how a row is spelt it says no more.
pub record ShowsDated (xs : List Dated) (db : Database) : Type 0 where
  pub rows : db.schema ≡ desk_schema
      → Shows dated_shown xs (map (shows dated_shown_terms []) (db.trees request.tree))

-- the tables show these requests, and so do those of the last commit
abbrev pub ShowDatedCommitted : List Dated → State → Type 0
ShowDatedCommitted xs = WhereOpen (λ s. ShowsDated xs s.now × ShowsDated xs s.committed)

-- in a transaction the tables show these requests, whatever the last commit left
abbrev pub ShowsDatedNow : List Dated → State → Type 0
ShowsDatedNow xs = WhereOpen (λ s. ShowsDated xs s.now × (s.in_transaction ≡ true))

-- whatever requests the tables show, they show those that this makes of them
abbrev pub MakesDated : {X : Type 0} → (Contents → Contents) → State → State → Result X StoreFault
    → Type 0
MakesDated change old new result =
    (c : Contents) → ShowsDatedNow c.dated old → OnOk result (ShowsDatedNow (change c).dated new)

-- the same outside of a transaction
abbrev pub MakesDatedCommitted : {X : Type 0} → (Contents → Contents) → State → State
    → Result X StoreFault → Type 0
MakesDatedCommitted change old new result =
    (c : Contents) → ShowDatedCommitted c.dated old
    → OnOk result (ShowDatedCommitted (change c).dated new)
