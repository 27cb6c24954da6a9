-- Strict tables as sqlite describes them.
use Rattle.std.specs.Prelude.{true, false, [], ◌∷◌, ◌++◌, Some, None, codes, List, ℕ, Bool, ◌+◌}
use Rattle.sqlite.specs.Collation.TheVariants.{Binary}
use Rattle.sqlite_value.specs.Keys.{plain}
use Rattle.sqlite.specs.declared.types.Value.TheVariants.{Null}
use Rattle.sqlite.specs.Table.{Table}
use Rattle.sqlite.specs.Schema.{Schema}
use Rattle.sqlite_schema.specs.declared.schema.Column.{Column}
use Rattle.sqlite_schema.specs.declared.schema.Index.{Index}
use Rattle.sqlite_schema.specs.declared.schema.Reference.{Reference}
use Rattle.sqlite_schema.specs.declared.schema.Action.TheVariants.{NoAction}
use Rattle.sqlite_schema.specs.declared.schema.Stamps.{Stamps}
use Rattle.sqlite.specs.Kind.{Kind}
use Rattle.sqlite.specs.Term.{Term}

abbrev pub no_stamps : Stamps
no_stamps = record { places = []; terms = []; formats = [] }

abbrev pub no_schema : Schema
no_schema = record { tables = []; indexes = []; views = [] }

-- ---- columns

abbrev column : Bool → List ℕ → Kind → Column
column not_null name kind = record {
  name = name;
  kind = kind;
  is_strict = true;
  not_null = not_null;
  default = Null;
  collation = Binary;
}

abbrev pub needed : List ℕ → Kind → Column
needed name kind = column true name kind

abbrev pub optional : List ℕ → Kind → Column
optional name kind = column false name kind

-- the column at that place refers to that one of another table
abbrev pub refers : ℕ → List ℕ → List ℕ → Reference
refers place parent name = record {
  columns = place ∷ [];
  parent = parent;
  parent_columns = name ∷ [];
  on_delete = NoAction;
  on_update = NoAction;
  is_deferred = false;
}

-- ---- tables

-- a table whose key is of these places, with an index that leads to it
abbrev pub strict_table : List ℕ → ℕ → List Column → List ℕ → List Reference → Table
strict_table name tree columns key references = record {
  name = name;
  tree = tree;
  columns = columns;
  key = None;
  primary = key;
  uniques = key ∷ [];
  orders = plain ∷ [];
  checks = [];
  references = references;
  computed = [];
  stamps = no_stamps;
  is_counted = false;
}

-- one whose first column is the number of the row
abbrev pub numbered_table : List ℕ → ℕ → List Column → List Term → List Reference → Table
numbered_table name tree columns checks references = record {
  name = name;
  tree = tree;
  columns = columns;
  key = Some 0;
  primary = 0 ∷ [];
  uniques = [];
  orders = [];
  checks = checks;
  references = references;
  computed = [];
  stamps = no_stamps;
  is_counted = false;
}

-- the index that leads to the key of a table
abbrev pub key_of : Table → Index
key_of table = record {
  name = codes "sqlite_autoindex_" ++ table.name ++ codes "_1";
  tree = table.tree + 1;
  table = table.tree;
  columns = table.primary;
  order = plain;
  is_unique = true;
}
