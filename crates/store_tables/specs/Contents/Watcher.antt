-- The table `watcher`: its columns, how a watcher is spelt and read there, its statements.
use Rattle.std.specs.Prelude.{[], ◌∷◌, ◌++◌, codes, List, ℕ, ◌≡◌, ◌<◌, length, Bool, ◌&&◌, ◌==◌}
use Rattle.sqlite.specs.Table.{Table}
use Rattle.sqlite_schema.specs.declared.schema.Index.{Index}
use Rattle.sqlite.specs.Kind.TheVariants.{Integer, Text}
use Rattle.sqlite.specs.Term.{col, Term}
use Rattle.sqlite.specs.Order.{Row, column}
use Rattle.sqlite.specs.declared.types.Value.{Value}
use Rattle.sqlite.specs.declared.types.Value.TheVariants.{Text as Words}
use Rattle.desk_model.specs.declared.rows.Watcher.{Watcher}
use Rattle.desk_model.specs.declared.rows.WatchRole.{WatchRole}
use Rattle.desk_model.specs.declared.rows.WatchRole.TheVariants as role
use Rattle.std.specs.Ordering.{nat_cmp, on, then_cmp}
use Rattle.std.specs.Cmp.Lexicographic.{slice_cmp}
use Rattle.std.specs.Str.{bytes_eq}
use Rattle.std.specs.declared.cmp.Ordering.{Ordering}
use Rattle.store_tables.specs.Strict.{needed, refers, strict_table, key_of}
use Rattle.store_tables.specs.Values.{count_value, IsText, IsCount, same_text}
use Rattle.store_tables.specs.Query.{eq}

abbrev pub watcher_text : List ℕ
watcher_text =
    codes "CREATE TABLE IF NOT EXISTS watcher (request INTEGER NOT NULL REFERENCES request(id), "
    ++ codes "role INTEGER NOT NULL, person TEXT NOT NULL, PRIMARY KEY (request, role, person)) "
    ++ codes "STRICT"

abbrev pub watcher : Table
watcher = strict_table (codes "watcher") 4
    (needed (codes "request") Integer ∷ needed (codes "role") Integer
    ∷ needed (codes "person") Text ∷ []) (1 ∷ 2 ∷ 3 ∷ [])
    (refers 1 (codes "request") (codes "id") ∷ [])

abbrev pub watcher_key : Index
watcher_key = key_of watcher

abbrev pub role_number : WatchRole → ℕ
role_number role.Requestor = 1
role_number role.Cc = 2
role_number role.AdminCc = 3

abbrev pub IsRole : Value → Type 0
IsRole v = (r : WatchRole) × (v ≡ count_value (role_number r))

abbrev pub watcher_columns : Watcher → Row
watcher_columns w = count_value w.id ∷ count_value (role_number w.role) ∷ Words w.person ∷ []

pub record ReadsWatcher (row : Row) (x : Watcher) : Type 0 where
  pub id : column row 0 ≡ count_value x.id
  pub role : column row 1 ≡ count_value (role_number x.role)
  pub person : column row 2 ≡ Words x.person

pub record IsWatcherRow (row : Row) : Type 0 where
  pub wide : 2 < length row
  pub id : IsCount (column row 0)
  pub role : IsRole (column row 1)
  pub person : IsText (column row 2)

-- a watcher of that request
abbrev pub watches : ℕ → Watcher → Bool
watches id w = w.id == id

-- a watcher who is that person
abbrev pub is_of_person : List ℕ → Watcher → Bool
is_of_person person w = bytes_eq w.person person

abbrev pub is_watcher : Watcher → Watcher → Bool
is_watcher v w =
    (w.id == v.id) && ((role_number w.role == role_number v.role) && same_text w.person v.person)

-- within one request: by role and person
abbrev pub by_role : Watcher → Watcher → Ordering
by_role = then_cmp (on (λ w. role_number w.role) nat_cmp) (on (λ w. w.person) (slice_cmp nat_cmp))

-- of one person: by request and role
abbrev pub by_standing : Watcher → Watcher → Ordering
by_standing = then_cmp (on (λ w. w.id) nat_cmp) (on (λ w. role_number w.role) nat_cmp)

-- by request, role and person
abbrev pub by_watcher : Watcher → Watcher → Ordering
by_watcher =
    then_cmp (on (λ w. w.id) nat_cmp)
    (then_cmp (on (λ w. role_number w.role) nat_cmp) (on (λ w. w.person) (slice_cmp nat_cmp)))

abbrev pub role_order : List Term
role_order = col 1 2 ∷ col 1 3 ∷ []

abbrev pub standing_order : List Term
standing_order = col 1 1 ∷ col 1 2 ∷ []

abbrev pub add_watcher_text : List ℕ
add_watcher_text = codes "INSERT INTO watcher (request, role, person) VALUES (?1, ?2, ?3)"

abbrev pub drop_watcher_text : List ℕ
drop_watcher_text = codes "DELETE FROM watcher WHERE request = ?1 AND role = ?2 AND person = ?3"
