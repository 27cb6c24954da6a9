-- The command line that the rows of words stand for, and as much of it as words need.
use Rattle.std.specs.Prelude.{◌≡◌, ℕ, true, false, List, [], ◌∷◌, Option, Some, None, codes}
use Rattle.std.specs.Prelude.{fold, map}
use Rattle.clap.specs.Words.{App, Rule, app_of, with_subcommand}
use Rattle.clap.specs.declared.builder.command.Command.{Command}
use Rattle.clap.specs.declared.builder.command.Command.TheViews.{out-Command}
use Rattle.desk_words.specs.Arguments.{allowed, bare, flag, option, several, wanted}
use Rattle.desk_forms.specs.Kinds.{Argument}
use Rattle.desk_forms.specs.Table.{arguments}
use Rattle.desk_forms.specs.Words.{Row, row_in}
use Rattle.desk_forms.specs.declared.kinds.Kind.{Kind}
use Rattle.desk_forms.specs.declared.kinds.Kind.TheVariants as kind

-- what clap is told of an argument
abbrev pub rule_by : Kind → List ℕ → Rule
rule_by kind.Maybe k = allowed k
rule_by kind.Named k = option k
rule_by kind.Many k = several k
rule_by (kind.Flag letter) k = flag k letter
rule_by _ k = wanted k

abbrev pub rule : Argument → Rule
rule a = rule_by a.kind a.key

-- a subcommand with these rules
abbrev pub ruled : List ℕ → List Rule → App
ruled word rules = let a = bare word in record a { top = record a.top { rules = rules } }

-- the subcommand of a row
abbrev pub subcommand : Row → App
subcommand row = ruled row.word (map rule (arguments row.leads))

-- the command above all others: one of them has to be there, as the first word
abbrev pub root : App
root = let a = bare (codes "desk") in
    record a {
      top = record a.top {
        no_binary_name = true;
        disable_help_subcommand = true;
        subcommand_required = true;
      };
    }

abbrev pub with_row : App → Row → App
with_row a row = with_subcommand a (subcommand row).top

-- the command line with the subcommands of these rows
abbrev pub line : List Row → App
line rows = fold with_row root rows

-- as many of the rows as words need: the one that the first of them names, or all
abbrev pub only_or_all : List Row → Option Row → List Row
only_or_all rows None = rows
only_or_all rows (Some row) = row ∷ []

abbrev pub needed : List Row → List (List ℕ) → List Row
needed rows [] = rows
needed rows (word ∷ rest) = only_or_all rows (row_in rows word)

-- the command is that one, and has no argument for all levels
pub record Is (a : App) (c : Command) : Type 0 where
  pub app : app_of c ≡ a
  pub local : (out-Command c).has_globals ≡ false
