-- the command has the rules of the arguments so far
use Rattle.std.proofs.Common.{map, take}
use Rattle.desk_forms.specs.Kinds.{argument_of}
use Rattle.desk_words.specs.Line.{Is, rule, ruled}
use Rattle.desk_words.proofs.line.subcommand.Given as goal

abbrev pub invariant-loop-arg : goal.invariant-loop-arg
invariant-loop-arg l =
    Is (ruled l.row.0.now (map rule (map argument_of (take l.arg-index l.args)))) l.command
