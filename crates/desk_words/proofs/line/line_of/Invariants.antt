-- the command has the subcommands so far, and with those of the rows that are left it has all
use Rattle.std.proofs.Common.{◌≡◌, fold, map, drop}
use Rattle.clap.specs.Words.{App}
use Rattle.desk_words.specs.Line.{Is, line, with_row}
use Rattle.desk_forms.specs.Words.{word_of}
use Rattle.desk_words.proofs.line.line_of.Given as goal

abbrev pub invariant-loop-row : goal.invariant-loop-row
invariant-loop-row l = (a : App) × Is a l.command
    × (fold with_row a (map word_of (drop l.row-index l.rows)) ≡ line (map word_of l.rows))
