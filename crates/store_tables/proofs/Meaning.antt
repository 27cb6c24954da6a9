-- What the text of a statement means over the tables of a desk.
use Rattle.std.specs.Prelude.{◌≡◌, [], false, List, ℕ}
use Rattle.sqlite.specs.Command.{Command}
use Rattle.sqlite.specs.Command.TheVariants.{Select}
use Rattle.sqlite.specs.Given.{IsPlain}
use Rattle.sqlite.specs.Listing.{understood, reads_listing}
use Rattle.sqlite.specs.Query.{Query}
use Rattle.sqlite.specs.Schema.{Schema}
use Rattle.sqlite.proofs.Callers.{command_of}
use Rattle.sqlite_resolve.specs.Compile.{first}
use Rattle.store_tables.specs.Contents.{desk_schema}
use Rattle.store_tables.specs.Calls.{ReadsAlone}
use Rattle.store_tables.proofs.TextLemmas.{GivesNone, reads_alone}

-- over tables of this schema it is this query, which reads alone, whatever tables there are
pub record SelectsIn (schema : Schema) (sql : List ℕ) (query : Query) (names : List (List ℕ)) :
    Type 0 where
  pub is : command_of (understood schema sql) ≡ Select (record { lets = []; body = query }) names
  pub plain : IsPlain (understood schema sql)
  pub unlisted : reads_listing schema sql ≡ false
  pub none : GivesNone (first sql)

pub alone : {schema : Schema} {sql : List ℕ} {query : Query} {names : List (List ℕ)}
    → SelectsIn schema sql query names → ReadsAlone sql
alone {sql = sql} it = reads_alone sql it.none

-- over the seven tables it is
abbrev pub Selects : List ℕ → Query → List (List ℕ) → Type 0
Selects sql query names = SelectsIn desk_schema sql query names

-- it is this change
pub record Changes (sql : List ℕ) (command : Command) : Type 0 where
  pub is : command_of (understood desk_schema sql) ≡ command
  pub plain : IsPlain (understood desk_schema sql)
