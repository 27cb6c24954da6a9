-- The table `link`: its columns, how a link is spelt and read there, its statements.
use Rattle.std.specs.Prelude.{[], ◌∷◌, ◌++◌, codes, List, ℕ, ◌≡◌, ◌<◌, length, Bool, ◌&&◌, ◌==◌}
use Rattle.sqlite.specs.Table.{Table}
use Rattle.sqlite_schema.specs.declared.schema.Index.{Index}
use Rattle.sqlite.specs.Kind.TheVariants.{Integer}
use Rattle.sqlite.specs.Term.{col, Term}
use Rattle.sqlite.specs.Order.{Row, column}
use Rattle.sqlite.specs.declared.types.Value.{Value}
use Rattle.desk_model.specs.Links.{kind_number}
use Rattle.desk_model.specs.declared.rows.LinkRow.{LinkRow}
use Rattle.desk_model.specs.declared.rows.LinkKind.{LinkKind}
use Rattle.std.specs.Ordering.{nat_cmp, on, then_cmp}
use Rattle.std.specs.declared.cmp.Ordering.{Ordering}
use Rattle.store_tables.specs.Strict.{needed, refers, strict_table, key_of}
use Rattle.store_tables.specs.Values.{count_value, IsCount}
use Rattle.store_tables.specs.Query.{eq}

abbrev pub link_text : List ℕ
link_text =
    codes "CREATE TABLE IF NOT EXISTS link (source INTEGER NOT NULL REFERENCES request(id), "
    ++ codes "kind INTEGER NOT NULL, target INTEGER NOT NULL REFERENCES request(id), PRIMARY KEY "
    ++ codes "(source, kind, target)) STRICT"

abbrev pub link : Table
link = strict_table (codes "link") 6
    (needed (codes "source") Integer ∷ needed (codes "kind") Integer
    ∷ needed (codes "target") Integer ∷ []) (1 ∷ 2 ∷ 3 ∷ [])
    (refers 1 (codes "request") (codes "id") ∷ refers 3 (codes "request") (codes "id") ∷ [])

abbrev pub link_key : Index
link_key = key_of link

abbrev pub IsLinkKind : Value → Type 0
IsLinkKind v = (k : LinkKind) × (v ≡ count_value (kind_number k))

abbrev pub link_columns : LinkRow → Row
link_columns l = count_value l.source ∷ count_value (kind_number l.kind) ∷ count_value l.target ∷ []

pub record ReadsLink (row : Row) (x : LinkRow) : Type 0 where
  pub source : column row 0 ≡ count_value x.source
  pub kind : column row 1 ≡ count_value (kind_number x.kind)
  pub target : column row 2 ≡ count_value x.target

pub record IsLinkRow (row : Row) : Type 0 where
  pub wide : 2 < length row
  pub source : IsCount (column row 0)
  pub kind : IsLinkKind (column row 1)
  pub target : IsCount (column row 2)

-- a link of that kind from that request
abbrev pub links_from : ℕ → LinkKind → LinkRow → Bool
links_from source k l = (l.source == source) && (kind_number l.kind == kind_number k)

abbrev pub is_link : LinkRow → LinkRow → Bool
is_link k l =
    (l.source == k.source) && ((kind_number l.kind == kind_number k.kind) && (l.target == k.target))

-- the link leads from the request with that number
abbrev pub starts_at : ℕ → LinkRow → Bool
starts_at id link = link.source == id

-- the link leads to the request with that number
abbrev pub ends_at : ℕ → LinkRow → Bool
ends_at id link = link.target == id

-- of links with one source and kind: by the target
abbrev pub by_target : LinkRow → LinkRow → Ordering
by_target a b = nat_cmp a.target b.target

-- by source, kind and target
abbrev pub by_link : LinkRow → LinkRow → Ordering
by_link =
    then_cmp (on (λ l. l.source) nat_cmp)
    (then_cmp (on (λ l. kind_number l.kind) nat_cmp) (on (λ l. l.target) nat_cmp))

abbrev pub target_order : List Term
target_order = col 1 3 ∷ []

abbrev pub add_link_text : List ℕ
add_link_text = codes "INSERT INTO link (source, kind, target) VALUES (?1, ?2, ?3)"

abbrev pub drop_link_text : List ℕ
drop_link_text = codes "DELETE FROM link WHERE source = ?1 AND kind = ?2 AND target = ?3"
