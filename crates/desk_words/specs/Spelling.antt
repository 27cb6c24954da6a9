-- The command that words spell.
use Rattle.std.specs.Prelude.{ℕ, false, List, [], ◌∷◌, Option, Some, None, codes, unwrap_or}
use Rattle.std.specs.Option.{option_and_then, option_map_or}
use Rattle.std.specs.Str.{bytes_eq}
use Rattle.clap.specs.Words.{Kinds, Row, Text, all_of, fault_of, first_of, found_of, rows_of}
use Rattle.clap.specs.Words.{subcommand_of}
use Rattle.clap.specs.declared.parser.matches.ArgMatches.{ArgMatches}
use Rattle.desk_model.specs.declared.command.Command.{Command}
use Rattle.desk_forms.specs.Number.{number_of}
use Rattle.desk_words.specs.Line.{line}
use Rattle.desk_forms.specs.ArgumentSource.{ArgumentSource}
use Rattle.desk_forms.specs.CommandFrom.{command_from}
use Rattle.desk_forms.specs.Table as table
use Rattle.desk_forms.specs.Words.{row_in}

-- what a subcommand was given
abbrev pub given_to : ArgMatches → List Row
given_to matches = rows_of (found_of matches)

abbrev pub number_at : List Row → Text → Option ℕ
number_at rows k = option_and_then number_of (first_of k rows)

-- the same by the keys of arguments
abbrev pub sheet_of : List Row → ArgumentSource
sheet_of rows = record {
  id = number_at rows;
  queue = λ k. first_of k rows;
  number = number_at rows;
  text = λ k. first_of k rows;
  maybe = λ k. Some (first_of k rows);
  texts = λ k. Some (unwrap_or (all_of k rows) []);
  is_set = λ k. option_map_or (λ word. bytes_eq word (codes "true")) (first_of k rows) false;
}

-- the command of a subcommand and of what it was given
abbrev pub command_in : Text × List Row → Option Command
command_in met =
    option_and_then (λ row. command_from row.leads (sheet_of met.1)) (row_in table.words met.0)

abbrev pub unless_fault : Kinds → Option (Text × List Row) → Option Command
unless_fault [] met = option_and_then command_in met
unless_fault (k ∷ ks) met = None

-- the words spell a command where they fit the command line
abbrev pub command_of : List Text → Option Command
command_of words =
    unless_fault (fault_of (line table.words) words) (subcommand_of (line table.words) words)
