-- Examples of the definitions: who is barred, at the tenth wrong token and at the minute's end.
use Rattle.std.specs.Prelude.{◌≡◌, refl, ℕ, true, false, List, [], ◌∷◌, codes, replicate}
use Rattle.guess_core.specs.Guesses.{begun, count_of, is_barred, noted, table}

abbrev ann : List ℕ
ann = codes "203.0.113.7"

abbrev bob : List ℕ
bob = codes "203.0.113.70"

nine_wrong_tokens : is_barred (table 7 (replicate 9 ann)) ann 7 ≡ false
nine_wrong_tokens = refl

ten_wrong_tokens : is_barred (table 7 (replicate 10 ann)) ann 7 ≡ true
ten_wrong_tokens = refl

the_tenth_of_another : is_barred (table 7 (bob ∷ replicate 9 ann)) ann 7 ≡ false
the_tenth_of_another = refl

another_address : is_barred (table 7 (replicate 10 ann)) bob 7 ≡ false
another_address = refl

the_next_minute : is_barred (table 7 (replicate 10 ann)) ann 8 ≡ false
the_next_minute = refl

one_more_in_its_minute : noted (table 7 (ann ∷ [])) bob 7 ≡ table 7 (ann ∷ bob ∷ [])
one_more_in_its_minute = refl

the_first_of_a_minute : noted (table 7 (ann ∷ [])) bob 8 ≡ table 8 (bob ∷ [])
the_first_of_a_minute = refl

forgotten : begun (table 7 (ann ∷ [])) 8 ≡ table 8 []
forgotten = refl

wrong_of_an_address : count_of (ann ∷ bob ∷ ann ∷ []) ann ≡ 2
wrong_of_an_address = refl
