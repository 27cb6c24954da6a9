-- What it is that settings are attached to tables.
use Rattle.std.specs.Prelude.{◌≡◌, ◌≢◌, ◌⊎◌, Bool, true, false, ◌&&◌, Err, List, Ok, OnOk}
use Rattle.std.specs.Prelude.{Result, ⊤}
use Rattle.std.specs.List.{list_all}
use Rattle.sqlite.specs.State.{State, HasCleanDisk}
use Rattle.sqlite.specs.Store.{Ghosts}
use Rattle.settings_core.specs.Settings.{knows}
use Rattle.settings_core.specs.declared.settings.Settings.{Settings}
use Rattle.desk_model.specs.declared.rows.QueueRow.{QueueRow}
use Rattle.desk_model.specs.declared.rows.RequestRow.{RequestRow}
use Rattle.desk_model.specs.declared.rows.Watcher.{Watcher}
use Rattle.desk_model.specs.Desk.{Desk, empty_desk}
use Rattle.desk_model.specs.IsDesk.{IsDesk}
use Rattle.desk_model.specs.Known.{is_known, knows_queue, knows_row}
use Rattle.store_tables.specs.declared.fault.StoreFault.{StoreFault}
use Rattle.store_tables.specs.declared.fault.StoreFault.TheVariants.{Refused}
use Rattle.sqlite.specs.Effect.{Database}
use Rattle.store_tables.specs.Calls.{AreThere, LeavesTables}
use Rattle.store_tables.specs.Contents.{Contents, HasBadRow, actors}
use Rattle.store_tables.specs.Contents.Entry.{IsBareEntry, bare_shown, entry}
use Rattle.store_tables.specs.Contents.Link.{IsLinkRow, link}
use Rattle.store_tables.specs.Contents.Queue.{IsQueueRow, queue, queue_shown}
use Rattle.store_tables.specs.Contents.Request.{IsDatedRow, dated_shown_terms, request}
use Rattle.store_tables.specs.Contents.Stay.{IsStayRow, stay, stay_shown}
use Rattle.store_tables.specs.Contents.Watcher.{IsWatcherRow, watcher}
use Rattle.store_tables.specs.Query.{three_shown}
use Rattle.store_tables.specs.Readings.{MismatchMeansBadRow}
use Rattle.store_tables.specs.Stands.{HoldCommitted, Represents}
use Rattle.service_core.specs.Leaves.{KeepsStore}
use Rattle.service_core.specs.Renewing.{AreRenewed}
use Rattle.service_core.specs.Seen.{settings_of, tables_of}
use Rattle.service_core.specs.declared.desk.Desk as over_tables
use Rattle.service_core.specs.declared.fault.AttachFault.{AttachFault}
use Rattle.service_core.specs.declared.fault.AttachFault.TheVariants.{NoMemory, Store, UnknownName}
use Rattle.service_core.specs.declared.renewal.Renewal.{Renewal}
use Rattle.service_core.specs.declared.renewal.Renewal.TheVariants as renewal

-- whether the settings know each name of whatever desk the tables stand for
abbrev pub TellsKnown : Settings → State → State → Bool → Type 0
TellsKnown settings old new known =
    (desk : Desk) → IsDesk desk → Represents desk old → HasCleanDisk new
    → is_known settings desk ≡ known

-- over tables that hold values, the fault is an unknown name, or the store or memory refused it
abbrev pub FailsOver : State → State → AttachFault → Type 0
FailsOver old new fault =
    (c : Contents) → HoldCommitted c old → HasCleanDisk new
    → (fault ≡ UnknownName) ⊎ ((fault ≡ NoMemory) ⊎ (fault ≡ Store Refused))

-- the fault is an unknown name, want of memory, or one of the store that blames a row only where
-- one is bad
abbrev pub BlamesBad : State → State → AttachFault → Type 0
BlamesBad old new fault =
    (fault ≡ UnknownName) ⊎ ((fault ≡ NoMemory)
    ⊎ ((e : StoreFault) × (fault ≡ Store e)
    × (let r : Result ⊤ StoreFault = Err e in MismatchMeansBadRow old new r)))

-- whether no name of the tables was unknown
abbrev pub knows_names : Renewal → Bool
knows_names renewal.UnknownName = false
knows_names other = true

-- ---- which rows are tested

abbrev pub GoodQueues : Database → Type 0
GoodQueues db = ¬ HasBadRow queue.tree queue_shown IsQueueRow db

abbrev pub GoodRequests : Database → Type 0
GoodRequests db = ¬ HasBadRow request.tree dated_shown_terms IsDatedRow db

abbrev pub GoodWatchers : Database → Type 0
GoodWatchers db = ¬ HasBadRow watcher.tree three_shown IsWatcherRow db

abbrev pub GoodLinks : Database → Type 0
GoodLinks db = ¬ HasBadRow link.tree three_shown IsLinkRow db

-- but for the texts of entries
abbrev pub GoodEntries : Database → Type 0
GoodEntries db = ¬ HasBadRow entry.tree bare_shown IsBareEntry db

abbrev pub GoodStays : Database → Type 0
GoodStays db = ¬ HasBadRow stay.tree stay_shown IsStayRow db

-- no row of a queue, a request, a watcher, a link, an entry or a stay is bad
pub record AreGood (db : Database) : Type 0 where
  pub queues : GoodQueues db
  pub requests : GoodRequests db
  pub watchers : GoodWatchers db
  pub links : GoodLinks db
  pub entries : GoodEntries db
  pub stays : GoodStays db

-- no row of a link, an entry or a watcher is bad
pub record GoodPersons (db : Database) : Type 0 where
  pub links : GoodLinks db
  pub entries : GoodEntries db
  pub watchers : GoodWatchers db

-- where the tables are there, no row that they had is bad
abbrev pub AllRowsValid : State → State → Type 0
AllRowsValid old new = AreThere old → HasCleanDisk new → AreGood old.now

-- some of them are tested so, and nothing has changed
pub record Tests (P : Database → Type 0) (old new : State) : Type 0 where
  pub good : AreThere old → HasCleanDisk new → P old.now
  pub same : AreThere old → HasCleanDisk new → new.now ≡ old.now

-- each row is tested, or the fault blames a row only where one is bad
pub record TestsOrBlames {A : Type 0} (old new : State) (result : Result A StoreFault) :
    Type 0 where
  pub tested : OnOk result (AllRowsValid old new)
  pub blames : MismatchMeansBadRow old new result

-- ---- what is left, and what is answered

-- The store is kept. Unless due moments were renewed its tables stay as they are, whatever rows
-- they have.
pub record StaysUnlessDone (result : Result Renewal StoreFault) (old new : State) : Type 0 where
  pub left : result ≢ Ok renewal.Done → LeavesTables old new
  pub keeps : KeepsStore old new

-- A desk with the settings that were attached: each row was tested, they know each name, and the
-- tables keep the due moments that they give. The store is kept.
pub record IsAttached {S : Type 0} (g : Ghosts S) (settings : Settings) (old : State)
    (desk : over_tables.Desk S g) : Type 0 where
  pub same : settings_of g desk ≡ settings
  pub tested : AllRowsValid old (tables_of g desk)
  pub known : TellsKnown settings old (tables_of g desk) true
  pub renewed : AreRenewed settings old (tables_of g desk)
  pub keeps : KeepsStore old (tables_of g desk)

-- the settings lack a name of the tables, of which each row was tested first
pub record LacksName (settings : Settings) (old new : State) : Type 0 where
  pub tested : AllRowsValid old new
  pub unknown : TellsKnown settings old new false

-- why settings were not attached: what it may be over tables that hold values, and over any
pub record IsFaultOver (old new : State) (cause : AttachFault) : Type 0 where
  pub fault : FailsOver old new cause
  pub blames : BlamesBad old new cause

-- what is left of a store that is given back: it is spared, and its tables stand for the same desk
pub record IsGivenBack (old new : State) : Type 0 where
  pub spared : LeavesTables old new
  pub stands : (desk : Desk) → Represents desk old → Represents desk new

-- ---- what is asked of the rows

-- a desk of these queues alone
abbrev pub of_queues : List QueueRow → Desk
of_queues queues = record empty_desk { queues = queues }

-- the settings know each name in these rows of queues, requests and watchers
unfoldable pub knows_rows : Settings → List QueueRow → List RequestRow → List Watcher → Bool
knows_rows settings queues requests watchers =
    list_all (knows_queue settings) queues
    && (list_all (knows_row settings (of_queues queues)) requests
    && list_all (λ w. knows settings w.person) watchers)

-- the settings know each who made an entry
unfoldable pub knows_histories : Settings → Desk → Bool
knows_histories settings desk = list_all (knows settings) (actors desk)
