-- the words had, and those that are read from there, are the line's words
use Rattle.std.proofs.Common.{◌≡◌, length, drop, map, string_bytes}
use Rattle.std.specs.Str.{chars}
use Rattle.desk_words.specs.Words.{words_of}
use Rattle.desk_words.specs.Reader.{read_at, after}
use Rattle.desk_words.proofs.words.words_of.Given as goal

abbrev pub invariant-loop-character : goal.invariant-loop-character
invariant-loop-character l =
    after (map string_bytes l.words.items)
    (read_at l.place (drop (length l.yielded) (chars l.line))) ≡ words_of l.line
