-- The entries that commands append, and whether there is room for them.
use Rattle.std.specs.Prelude.{ℕ, ◌+◌, Bool, List, [], ◌∷◌, nat_lt, Option, unwrap_or, codes}
use Rattle.settings_core.specs.Settings.{entry_limit}
use Rattle.desk_model.specs.Change.{revising, with_owner}
use Rattle.desk_model.specs.Plan.{Call}
use Rattle.desk_model.specs.declared.change.Change.{Change}
use Rattle.desk_model.specs.declared.facts.SeenRequest.{SeenRequest}
use Rattle.desk_model.specs.declared.rows.Entry.{Entry}
use Rattle.desk_model.specs.declared.rows.EntryKind.{EntryKind}
use Rattle.desk_model.specs.declared.rows.EntryKind.TheVariants as kind

-- so many more entries are too many
abbrev pub lacks_room : Call → SeenRequest → ℕ → Bool
lacks_room call request count = nat_lt (entry_limit call.settings) (request.entry_count + count)

-- the entry of that number after those that are there, by the caller and of the moment
abbrev pub entry_of : Call → SeenRequest → ℕ → EntryKind → List ℕ → List ℕ → Entry
entry_of call request number kind head body =
    record {
      id = request.row.id;
      number = request.entry_count + number;
      moment = call.at;
      actor = call.caller;
      kind = kind;
      head = head;
      body = body;
    }

-- an owner in an entry
abbrev pub owner_word : Option (List ℕ) → List ℕ
owner_word owner = unwrap_or owner (codes "Nobody")

-- the entry of a move
abbrev pub moving : Call → SeenRequest → ℕ → List ℕ → Entry
moving call request number status =
    entry_of call request number kind.Status request.row.status status

-- a request gets another owner, or none
abbrev pub giving_owner : Option (List ℕ) → Call → SeenRequest → Change
giving_owner owner call request =
    revising (with_owner owner request.row)
    (entry_of call request 1 kind.Owner (owner_word request.row.owner) (owner_word owner) ∷ [])
