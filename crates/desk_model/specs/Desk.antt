-- The desk: its queues by name, its requests by number, each with its people and its history, and
-- the links.
use Rattle.std.specs.Prelude.{ℕ, Bool, ◌==◌, if◌then◌else◌, List}
use Rattle.std.specs.Prelude.{[], ◌∷◌, ◌++◌, Option, find, map, length}
use Rattle.std.specs.Ordering.{is_lt}
use Rattle.std.specs.Str.{bytes_eq}
use Rattle.desk_model.specs.Names.{text_order}
use Rattle.desk_model.specs.declared.rows.QueueRow.{QueueRow}
use Rattle.desk_model.specs.declared.rows.RequestRow.{RequestRow}
use Rattle.desk_model.specs.declared.rows.Entry.{Entry}
use Rattle.desk_model.specs.declared.rows.LinkRow.{LinkRow}

-- a request's row, the persons in each role in the order of their bytes, and its entries in order
pub record Request : Type 0 where
  pub row : RequestRow
  pub requestors : List (List ℕ)
  pub cc : List (List ℕ)
  pub admin_cc : List (List ℕ)
  pub entries : List Entry

-- the queues in the order of their names, the requests in that of their numbers, and the links
pub record Desk : Type 0 where
  pub queues : List QueueRow
  pub requests : List Request
  pub links : List LinkRow

abbrev pub empty_desk : Desk
empty_desk = record { queues = []; requests = []; links = [] }

-- the queue of that name, if there is one
abbrev pub queue_at : Desk → List ℕ → Option QueueRow
queue_at desk name = find (λ q. bytes_eq q.name name) desk.queues

-- the request with that number, if there is one
abbrev pub request_at : Desk → ℕ → Option Request
request_at desk id = find (λ r. r.row.id == id) desk.requests

abbrev pub queue_count : Desk → ℕ
queue_count desk = length desk.queues

abbrev pub request_count : Desk → ℕ
request_count desk = length desk.requests

-- the list with x before the first element that comes after it
abbrev pub placed : {X : Type 0} → (X → X → Bool) → List X → X → List X
placed comes_before [] x = x ∷ []
placed comes_before (y ∷ ys) x =
    if comes_before x y then x ∷ y ∷ ys else y ∷ placed comes_before ys x

abbrev pub has_lower_name : QueueRow → QueueRow → Bool
has_lower_name a b = is_lt (text_order a.name b.name)

-- the desk with this queue, which is new
abbrev pub with_queue : Desk → QueueRow → Desk
with_queue desk queue = record desk { queues = placed has_lower_name desk.queues queue }

-- the desk with this request, which is new and has the greatest number
abbrev pub with_request : Desk → Request → Desk
with_request desk request = record desk { requests = desk.requests ++ request ∷ [] }

-- what becomes of a request, if it has that number
abbrev pub revised_at : ℕ → (Request → Request) → Request → Request
revised_at id revised request = if request.row.id == id then revised request else request

-- the desk with what becomes of the request of that number
abbrev pub with_revised : Desk → ℕ → (Request → Request) → Desk
with_revised desk id revised = record desk { requests = map (revised_at id revised) desk.requests }
