-- The stays of a request in its statuses, read off its history.
use Rattle.std.specs.Prelude.{ℕ, Bool, true, false, if◌then◌else◌, List, [], ◌∷◌, ◌++◌}
use Rattle.std.specs.Prelude.{Option, Some, None}
use Rattle.hours_core.specs.declared.stay.Stay.{Stay}
use Rattle.desk_model.specs.declared.rows.Entry.{Entry}
use Rattle.desk_model.specs.declared.rows.EntryKind.{EntryKind}
use Rattle.desk_model.specs.declared.rows.EntryKind.TheVariants as kind

-- a stay begins where the request is filed, and where its status moves
abbrev pub begins_stay : EntryKind → Bool
begins_stay kind.Create = true
begins_stay kind.Status = true
begins_stay other = false

-- when the next stay begins, if there is one
abbrev pub next_begin : List Entry → Option ℕ
next_begin [] = None
next_begin (e ∷ entries) =
    if begins_stay e.kind then Some e.moment else next_begin entries

-- the stay that an entry begins goes up to where the next one begins
abbrev pub stay_from : Entry → List Entry → Stay
stay_from e later = record { status = e.body; from = e.moment; until = next_begin later }

-- the stays of a history in order, of which the last has no end
abbrev pub stays_of : List Entry → List Stay
stays_of [] = []
stays_of (e ∷ entries) =
    if begins_stay e.kind then stay_from e entries ∷ stays_of entries else stays_of entries

-- the last stay so far, if there is one, with its end
abbrev pub ended : Option Stay → Option ℕ → List Stay
ended None until = []
ended (Some stay) until = record stay { until = until } ∷ []

-- the last stay so far, with its end, and the stays of the entries after it
abbrev pub stays_on : Option Stay → List Entry → List Stay
stays_on last entries = ended last (next_begin entries) ++ stays_of entries

-- the stays of a history with these entries after those that made the stays so far: the last of
-- those ends where the next begins
abbrev pub stays_after : List Stay → List Entry → List Stay
stays_after [] entries = stays_of entries
stays_after (stay ∷ []) entries = stays_on (Some stay) entries
stays_after (stay ∷ next ∷ stays) entries = stay ∷ stays_after (next ∷ stays) entries
