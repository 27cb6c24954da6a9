-- What a change meets on a desk that stays one after it.
use Rattle.std.proofs.Common.{◌≡◌, ℕ, ◌+◌, ◌==◌, Bool, true, false, not, ◌&&◌}
use Rattle.std.proofs.Common.{◌||◌, List, [], ◌∷◌, length, Option, Some, None}
use Rattle.std.specs.List.{list_all}
use Rattle.std.specs.Option.{is_some}
use Rattle.text_core.specs.Form.{is_name}
use Rattle.desk_model.specs.Change.{request_filed}
use Rattle.desk_model.specs.Desk.{Desk, Request, queue_at, request_at}
use Rattle.desk_model.specs.Links.{has_link}
use Rattle.desk_model.specs.declared.change.Change.{Change}
use Rattle.desk_model.specs.declared.rows.Entry.{Entry}
use Rattle.desk_model.specs.declared.rows.LinkRow.{LinkRow}
use Rattle.desk_model.specs.declared.rows.QueueRow.{QueueRow}
use Rattle.desk_model.specs.declared.rows.RequestRow.{RequestRow}

-- no queue has the name of one that is opened
abbrev pub OpensNew : Desk → Option QueueRow → Type 0
OpensNew desk None = Unit {0}
OpensNew desk (Some queue) = is_some (queue_at desk queue.name) ≡ false

-- a queue that is opened has a name
abbrev pub OpensNamed : Option QueueRow → Type 0
OpensNamed None = Unit {0}
OpensNamed (Some queue) = is_name queue.name ≡ true

-- a request that is filed has the next number, and its queue is there
abbrev pub FilesNext : Desk → Option RequestRow → Type 0
FilesNext desk None = Unit {0}
FilesNext desk (Some row) =
    (row.id ≡ length desk.requests + 1) × (is_some (queue_at desk row.queue) ≡ true)

-- the queue of a change's row, if it has one
abbrev pub queue_in : Option RequestRow → List ℕ → List ℕ
queue_in None queue = queue
queue_in (Some row) queue = row.queue

-- a row that is set is in a queue that is there
abbrev pub StaysInQueue : Desk → Option RequestRow → Type 0
StaysInQueue desk row =
    (queue : List ℕ) × (queue_in row queue ≡ queue)
    × (is_some row ≡ true → is_some (queue_at desk queue) ≡ true)

-- both ends of a link are there
abbrev pub has_ends : Desk → LinkRow → Bool
has_ends desk link = is_some (request_at desk link.source) && is_some (request_at desk link.target)

-- a link that is put isn't there, and both its ends are
abbrev pub LinksAnew : Desk → Option LinkRow → Type 0
LinksAnew desk None = Unit {0}
LinksAnew desk (Some link) = (has_link desk link ≡ false) × (has_ends desk link ≡ true)

-- the entries are of one request, and numbered on after so many
abbrev pub FollowOn : ℕ → ℕ → ℕ → List Entry → Type 0
FollowOn id count next [] = Unit {0}
FollowOn id count next (e ∷ es) =
    (e.id ≡ id) × (e.number ≡ count + next) × FollowOn id count (next + 1) es

-- the request of that number has so many entries
abbrev pub has_count : ℕ → ℕ → Request → Bool
has_count id count r = not (r.row.id == id) || length r.entries == count

-- the entries are of one request, and follow on those that it has
pub record Appends (desk : Desk) (change : Change) : Type 0 where
  pub id : ℕ
  pub count : ℕ
  pub counted : list_all (has_count id count) (request_filed change.filed desk).requests ≡ true
  pub follow : FollowOn id count 1 change.entries

pub record Fits (desk : Desk) (change : Change) : Type 0 where
  pub opens : OpensNew desk change.queue
  pub named : OpensNamed change.queue
  pub files : FilesNext desk change.filed
  pub stays : StaysInQueue desk change.row
  pub links : LinksAnew desk change.linked
  pub appends : Appends desk change
