use Rattle.std.proofs.Common.{◌≡◌, map, drop}
use Rattle.desk_forms.specs.Words.{row_in, word_of}
use Rattle.desk_forms.proofs.words.row_in.Given as goal

abbrev pub invariant-loop-row : goal.invariant-loop-row
invariant-loop-row l =
    row_in (map word_of (drop l.row-index l.rows)) l.word ≡ row_in (map word_of l.rows) l.word
