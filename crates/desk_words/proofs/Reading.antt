-- How a word grows and ends, and the words after those had before.
use Rattle.std.proofs.Common.{◌≡◌, ℕ, List, [], ◌∷◌, ◌++◌, Option, Some, None, refl, ap, sym}
use Rattle.std.proofs.lemmas.List.{append_assoc, append-nil}
use Rattle.desk_words.specs.Words.{Rest, word_of, onto, ended}
use Rattle.desk_words.specs.Reader.{after}

pub word_grows : (word bytes : List ℕ) (rest : Option Rest) → word_of word (onto bytes rest)
    ≡ word_of (word ++ bytes) rest
word_grows word bytes None = refl
word_grows word bytes (Some r) = ap (λ w. Some (w ∷ r.1)) (sym (append_assoc word bytes r.0))

pub word_ends : (had : List (List ℕ)) (word : List ℕ) (rest : Option (List (List ℕ)))
    → after had (word_of word (ended rest)) ≡ after (had ++ word ∷ []) rest
word_ends had word None = refl
word_ends had word (Some ws) = rw (append-nil word, append_assoc had (word ∷ []) ws) refl

pub after_nothing : (rest : Option (List (List ℕ))) → after [] rest ≡ rest
after_nothing None = refl
after_nothing (Some ws) = refl
