-- Which due moments of tables are written when settings are attached: those that differ.
use Rattle.std.specs.Prelude.{◌==◌, ◌≡◌, ℕ, Bool, true, false, not, List, Option, Some, None}
use Rattle.std.specs.Prelude.{filter, map, option_and_then}
use Rattle.std.specs.List.{AllByRecursion}
use Rattle.std.specs.List.Sorted.{IsNonDecreasingBy}
use Rattle.sqlite.specs.State.{State}
use Rattle.hours_core.specs.declared.stay.Stay.{Stay}
use Rattle.settings_core.specs.declared.settings.Settings.{Settings}
use Rattle.desk_model.specs.Desk.{Desk}
use Rattle.desk_model.specs.Due.{due_of, due_on}
use Rattle.desk_model.specs.IsDesk.{IsDesk}
use Rattle.desk_model.specs.declared.rows.QueueRow.{QueueRow}
use Rattle.desk_model.specs.declared.rows.RequestRow.{RequestRow}
use Rattle.report_core.specs.Rows.{queue_among}
use Rattle.store_tables.specs.Contents.{contents_of}
use Rattle.store_tables.specs.Contents.Request.{Dated}
use Rattle.store_tables.specs.Contents.Stay.{request_stay, stays}
use Rattle.store_tables.specs.Stands.{HoldCommitted, Represents}
use Rattle.store_core.specs.Due.{RepresentsWithDue, due_of_row}
use Rattle.store_core.specs.Rows.{dated_rows}

abbrev pub is_same_moment : Option ℕ → Option ℕ → Bool
is_same_moment None None = true
is_same_moment (Some a) (Some b) = a == b
is_same_moment a b = false

-- the stays of the request of that number, among stays that each stand beside the number of their
-- request
abbrev pub stays_among : List (ℕ × Stay) → ℕ → List Stay
stays_among all id = map (λ p. p.1) (filter (λ p. p.0 == id) all)

-- the stays stand in the order of their requests' numbers
abbrev pub StaysRise : List (ℕ × Stay) → Type 0
StaysRise all = IsNonDecreasingBy (λ n. n) (map (λ p. p.0) all)

-- these are the numbers, and these the stays
abbrev pub AreApart : List (ℕ × Stay) → List ℕ → List Stay → Type 0
AreApart all numbers stays = (numbers ≡ map (λ p. p.0) all) × (stays ≡ map (λ p. p.1) all)

-- when the request of a row with these stays is due, of these queues
abbrev pub due_with : Settings → List QueueRow → List Stay → RequestRow → Option ℕ
due_with settings queues stays row =
    option_and_then (λ q. due_of settings q stays row) (queue_among queues row.queue)

-- when it is, of the stays of all requests
abbrev pub due_by : Settings → List QueueRow → List (ℕ × Stay) → RequestRow → Option ℕ
due_by settings queues stays row = due_with settings queues (stays_among stays row.id) row

-- the tables keep another moment
abbrev pub is_stale : Settings → List QueueRow → List (ℕ × Stay) → Dated → Bool
is_stale settings queues stays p = not (is_same_moment (due_by settings queues stays p.0) p.1)

abbrev pub renewal : Settings → List QueueRow → List (ℕ × Stay) → Dated → ℕ × Option ℕ
renewal settings queues stays p = (p.0.id, due_by settings queues stays p.0)

-- the due moments that are written, by the number of the request
abbrev pub renewals : Settings → List QueueRow → List (ℕ × Stay) → List Dated
    → List (ℕ × Option ℕ)
renewals settings queues stays dated =
    map (renewal settings queues stays) (filter (is_stale settings queues stays) dated)

-- whatever due moments the tables kept beside the desk that they stood for, they keep the desk's
abbrev pub AreRenewed : Settings → State → State → Type 0
AreRenewed settings old new =
    (desk : Desk) → IsDesk desk → Represents desk old → RepresentsWithDue settings desk new

-- the moment that the tables keep for each request is the one at which it is due on the desk
abbrev pub KeepDues : Settings → Desk → Type 0
KeepDues settings desk =
    AllByRecursion (λ request. due_of_row settings desk request.row ≡ due_on settings desk request)
    desk.requests

-- the stays of all requests of a desk, each with the number of its request
abbrev pub all_stays : Desk → List (ℕ × Stay)
all_stays desk = map request_stay (stays desk)

-- so it is of the desk with these queues, stays and requests, whose due moments were these
abbrev pub AreRenewedFrom : Settings → List QueueRow → List (ℕ × Stay) → List Dated → State → State
    → Type 0
AreRenewedFrom settings queues stays dated old new =
    (desk : Desk) → IsDesk desk → (due : RequestRow → Option ℕ) → queues ≡ desk.queues
    → stays ≡ all_stays desk → dated ≡ dated_rows due desk → HoldCommitted (contents_of due desk) old
    → RepresentsWithDue settings desk new
