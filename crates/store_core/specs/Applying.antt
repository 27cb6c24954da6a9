-- What it is that a change is written into the tables, and due moments.
use Rattle.std.specs.Prelude.{ℕ, List, OnOk, Option, Result, fold}
use Rattle.sqlite.specs.State.{State}
use Rattle.desk_model.specs.declared.change.Change.{Change}
use Rattle.desk_model.specs.declared.rows.RequestRow.{RequestRow}
use Rattle.desk_model.specs.Change.{applied}
use Rattle.desk_model.specs.Desk.{Desk}
use Rattle.desk_model.specs.IsDesk.{IsDesk}
use Rattle.store_tables.specs.Contents.{Contents, contents_of, set_each_due}
use Rattle.store_tables.specs.Contents.Request.{dues_but}
use Rattle.store_tables.specs.Stands.{HoldCommitted}
use Rattle.store_tables.specs.declared.fault.StoreFault.{StoreFault}
use Rattle.store_core.specs.Written.{IsWritable, dues_after, written}

-- whatever rows the tables held, they hold what the change makes of them
abbrev pub Writes : {X : Type 0} → Change → State → State → Result X StoreFault → Type 0
Writes change old new result =
    (c : Contents) → HoldCommitted c old → OnOk result (HoldCommitted (written change c) new)

-- the tables stood for a desk on which the change can be written, with some due moments, and stand
-- for the changed desk, with those after it
abbrev pub Applies : {X : Type 0} → Change → State → State → Result X StoreFault → Type 0
Applies change old new result =
    (desk : Desk) → IsDesk desk → IsWritable desk change → (due : RequestRow → Option ℕ)
    → HoldCommitted (contents_of due desk) old
    → OnOk result (HoldCommitted (contents_of (dues_after change due) (applied change desk)) new)

-- whatever rows the tables held, they hold them with these due moments, set one after the other
abbrev pub WritesDues : {X : Type 0} → List (ℕ × Option ℕ) → State → State → Result X StoreFault
    → Type 0
WritesDues dues old new result =
    (c : Contents) → HoldCommitted c old → OnOk result (HoldCommitted (fold set_each_due c dues) new)

-- the tables stood for a desk, with some due moments, and stand for it with those that are set
abbrev pub DatesDesk : {X : Type 0} → List (ℕ × Option ℕ) → State → State → Result X StoreFault
    → Type 0
DatesDesk dues old new result =
    (desk : Desk) (due : RequestRow → Option ℕ) → HoldCommitted (contents_of due desk) old
    → OnOk result (HoldCommitted (contents_of (dues_but dues due) desk) new)
