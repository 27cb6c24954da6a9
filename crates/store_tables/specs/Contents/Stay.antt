-- The table `stay`: its columns, how a stay is spelt and read there, with its request and its number,
-- its statements.
use Rattle.std.specs.Prelude.{[], ◌∷◌, ◌++◌, Some, codes, List, ℕ, ◌≡◌, ◌<◌, length, Bool, ◌&&◌}
use Rattle.std.specs.Prelude.{◌==◌, if◌then◌else◌, ◌+◌, flat_map}
use Rattle.sqlite.specs.declared.types.Value.TheVariants.{Null, Text as Words}
use Rattle.sqlite.specs.Table.{Table}
use Rattle.sqlite_schema.specs.declared.schema.Index.{Index}
use Rattle.sqlite.specs.Kind.TheVariants.{Integer, Text}
use Rattle.sqlite.specs.Term.{lit, col, Term}
use Rattle.sqlite.specs.Order.{Row, column}
use Rattle.sqlite.specs.Values.{or_null}
use Rattle.hours_core.specs.declared.stay.Stay.{Stay}
use Rattle.std.specs.Ordering.{nat_cmp, on, then_cmp}
use Rattle.std.specs.declared.cmp.Ordering.{Ordering}
use Rattle.desk_model.specs.Desk.{Desk}
use Rattle.desk_model.specs.Stays.{stays_of}
use Rattle.store_tables.specs.Strict.{needed, optional, refers, strict_table, key_of}
use Rattle.store_tables.specs.Values.{count_value, IsText, IsCount, IsMinute, IsMinuteOrNull}
use Rattle.store_tables.specs.Query.{eq}

abbrev pub stay_text : List ℕ
stay_text =
    codes "CREATE TABLE IF NOT EXISTS stay (request INTEGER NOT NULL REFERENCES request(id), "
    ++ codes "number INTEGER NOT NULL, status TEXT NOT NULL, begun INTEGER NOT NULL, ended "
    ++ codes "INTEGER, PRIMARY KEY (request, number)) STRICT"

abbrev pub stay : Table
stay = strict_table (codes "stay") 10
    (needed (codes "request") Integer ∷ needed (codes "number") Integer
    ∷ needed (codes "status") Text ∷ needed (codes "begun") Integer
    ∷ optional (codes "ended") Integer ∷ []) (1 ∷ 2 ∷ [])
    (refers 1 (codes "request") (codes "id") ∷ [])

abbrev pub stay_key : Index
stay_key = key_of stay

pub record StayRow : Type 0 where
  pub request : ℕ
  pub number : ℕ
  pub stay : Stay

abbrev pub stay_row : ℕ → ℕ → Stay → StayRow
stay_row id number stay = record { request = id; number = number; stay = stay }

-- the stays of a request, numbered from there on in the order of the list
abbrev pub stay_rows_from : ℕ → ℕ → List Stay → List StayRow
stay_rows_from id number [] = []
stay_rows_from id number (stay ∷ stays) =
    stay_row id number stay ∷ stay_rows_from id (number + 1) stays

-- numbered from 1
abbrev pub stay_rows : ℕ → List Stay → List StayRow
stay_rows id stays = stay_rows_from id 1 stays

-- the stays of all requests of a desk, as their histories tell them
abbrev pub stays : Desk → List StayRow
stays desk = flat_map (λ r. stay_rows r.row.id (stays_of r.entries)) desk.requests

-- a stay of that request
abbrev pub is_of : ℕ → StayRow → Bool
is_of id r = r.request == id

-- the stay of that request with that number
abbrev pub is_stay : ℕ → ℕ → StayRow → Bool
is_stay id number r = (r.request == id) && (r.number == number)

-- that stay with that end, and each other as it is
abbrev pub with_end : ℕ → ℕ → ℕ → StayRow → StayRow
with_end id number until r =
    if is_stay id number r then record r { stay = record r.stay { until = Some until } } else r

-- the stay alone, and with its request
abbrev pub stay_of : StayRow → Stay
stay_of r = r.stay

abbrev pub request_stay : StayRow → ℕ × Stay
request_stay r = (r.request, r.stay)

-- a stay that lasts has no end
abbrev pub stay_columns : StayRow → Row
stay_columns s =
    count_value s.request ∷ count_value s.number ∷ Words s.stay.status ∷ count_value s.stay.from
    ∷ or_null count_value s.stay.until ∷ []

-- a row of a stay, of which neither the request nor the number is read
pub record ReadsStay (row : Row) (x : Stay) : Type 0 where
  pub status : column row 2 ≡ Words x.status
  pub from : column row 3 ≡ count_value x.from
  pub until : column row 4 ≡ or_null count_value x.until

-- the same, with its request
pub record ReadsRequestStay (row : Row) (x : ℕ × Stay) : Type 0 where
  pub request : column row 0 ≡ count_value x.0
  pub stay : ReadsStay row x.1

pub record IsStayRow (row : Row) : Type 0 where
  pub wide : 4 < length row
  pub request : IsCount (column row 0)
  pub number : IsCount (column row 1)
  pub status : IsText (column row 2)
  pub from : IsMinute (column row 3)
  pub until : IsMinuteOrNull (column row 4)

-- within one request: by number
abbrev pub by_stay_number : StayRow → StayRow → Ordering
by_stay_number a b = nat_cmp a.number b.number

-- by request and number
abbrev pub by_stay : StayRow → StayRow → Ordering
by_stay = then_cmp (on (λ s. s.request) nat_cmp) (on (λ s. s.number) nat_cmp)

abbrev pub stay_shown : List Term
stay_shown = col 1 1 ∷ col 1 2 ∷ col 1 3 ∷ col 1 4 ∷ col 1 5 ∷ []

abbrev pub stay_order : List Term
stay_order = col 1 1 ∷ col 1 2 ∷ []

abbrev pub add_stay_text : List ℕ
add_stay_text =
    codes "INSERT INTO stay (request, number, status, begun, ended) VALUES (?1, ?2, ?3, ?4, ?5)"

abbrev pub add_stay_terms : List Term
add_stay_terms = lit Null ∷ col 0 0 ∷ col 0 1 ∷ col 0 2 ∷ col 0 3 ∷ col 0 4 ∷ []

abbrev pub stay_test : List Term
stay_test = eq (col 1 1) (col 0 0) ∷ eq (col 1 2) (col 0 1) ∷ []

abbrev pub end_stay_text : List ℕ
end_stay_text = codes "UPDATE stay SET ended = ?3 WHERE request = ?1 AND number = ?2"

abbrev pub end_stay_terms : List Term
end_stay_terms = col 1 0 ∷ col 1 0 ∷ col 1 1 ∷ col 1 2 ∷ col 1 3 ∷ col 1 4 ∷ col 0 2 ∷ []
