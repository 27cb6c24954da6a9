-- the words so far
use Rattle.std.proofs.Common.{◌≡◌, map}
use Rattle.std.specs.List.{filter}
use Rattle.find_form.specs.SearchFields.{is_word}
use Rattle.find_form.proofs.words.words_in.Given as goal

abbrev pub invariant-loop-word : goal.invariant-loop-word
invariant-loop-word l = l.words.items ≡ filter is_word (map (λ x. x.now) l.yielded)
