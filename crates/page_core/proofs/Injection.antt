-- Through a text the reader stays where it is, so what it reads doesn't depend on the text.
use Rattle.std.proofs.Common.{◌≡◌, ◌≢◌, ◌∙◌, ℕ, ◌==◌, Bool, true, false, List, [], ◌∷◌, ◌++◌}
use Rattle.std.proofs.Common.{not, ◌||◌, if◌then◌else◌, map, refl, ap, sym}
use Rattle.std.specs.List.{list_all}
use Rattle.std.proofs.lemmas.Bool.{and_parts}
use Rattle.page_core.specs.Escape.{escaped, is_harmless}
use Rattle.page_core.specs.Page.{Part, Markup, Text, page_bytes, without_texts}
use Rattle.page_core.specs.Reading.{State, InText}
use Rattle.page_core.specs.Reading.{InValue, Lost, IsPage, after, at_text}
use Rattle.page_core.specs.Reading.{Mark, Content, is_content, outline, reading}
use Rattle.page_core.specs.Reading.{reading_of, step, walk}
use Rattle.page_core.proofs.Harmless.{all_harmless}

-- a reader that stands there stays there through any harmless byte
record Stays (state : State) : Type 0 where
  content : (b : ℕ) → is_harmless b ≡ true → is_content state b ≡ true
  same : (b : ℕ) → is_harmless b ≡ true → step state b ≡ state

none_of_four : (a b c d : Bool) → not (a || b || c || d) ≡ true → (a ≡ false) × (c ≡ false)
none_of_four true b c d fine = let e : false ≡ true = fine in cc
none_of_four false true c d fine = let e : false ≡ true = fine in cc
none_of_four false false true d fine = let e : false ≡ true = fine in cc
none_of_four false false false d fine = (refl, refl)

-- what a harmless byte isn't
not_less : (b : ℕ) → is_harmless b ≡ true → (b == 60) ≡ false
not_less b fine = (none_of_four (b == 60) (b == 62) (b == 34) (b == 39) fine).0

not_quote : (b : ℕ) → is_harmless b ≡ true → (b == 34) ≡ false
not_quote b fine = (none_of_four (b == 60) (b == 62) (b == 34) (b == 39) fine).1

text_stays : Stays InText
text_stays = record {
  content = λ b fine. rw (not_less b fine) refl;
  same = λ b fine. rw (not_less b fine) refl;
}

value_stays : Stays InValue
value_stays = record {
  content = λ b fine. rw (not_quote b fine) refl;
  same = λ b fine. rw (not_quote b fine) refl;
}

after_lost : (bytes : List ℕ) → after Lost bytes ≡ Lost
after_lost [] = refl
after_lost (b ∷ bytes) = after_lost bytes

walk_lost : (parts : List Part) → walk Lost parts ≡ Lost
walk_lost [] = refl
walk_lost (Markup bytes ∷ parts) = rw (after_lost bytes) (walk_lost parts)
walk_lost (Text text ∷ parts) = walk_lost parts

-- ---- through a text

outline_through : (state : State) → Stays state → (bytes rest : List ℕ)
    → list_all is_harmless bytes ≡ true → outline state (bytes ++ rest) ≡ outline state rest
outline_through state stays [] rest fine = refl
outline_through state stays (b ∷ bytes) rest fine =
    let both = and_parts (is_harmless b) (list_all is_harmless bytes) fine in
    rw (stays.content b both.0, stays.same b both.0)
    (outline_through state stays bytes rest both.1)

after_through : (state : State) → Stays state → (bytes rest : List ℕ)
    → list_all is_harmless bytes ≡ true → after state (bytes ++ rest) ≡ after state rest
after_through state stays [] rest fine = refl
after_through state stays (b ∷ bytes) rest fine =
    let both = and_parts (is_harmless b) (list_all is_harmless bytes) fine in
    ap (λ s. after s (bytes ++ rest)) (stays.same b both.0)
    ∙ after_through state stays bytes rest both.1

reading_through : (state : State) → Stays state → (bytes rest : List ℕ)
    → list_all is_harmless bytes ≡ true
    → reading state (bytes ++ rest) ≡ map Content bytes ++ reading state rest
reading_through state stays [] rest fine = refl
reading_through state stays (b ∷ bytes) rest fine =
    let both = and_parts (is_harmless b) (list_all is_harmless bytes) fine in
    rw (stays.content b both.0)
    (ap (λ s. Content b ∷ reading s (bytes ++ rest)) (stays.same b both.0)
    ∙ ap (λ l. Content b ∷ l) (reading_through state stays bytes rest both.1))

-- where a text may stand the reader stays, and elsewhere it is lost
text_place : (state : State) (parts : List Part) → walk (at_text state) parts ≢ Lost
    → Stays state × (at_text state ≡ state)
text_place InText parts found = (text_stays, refl)
text_place InValue parts found = (value_stays, refl)
text_place other parts found = absurd (found (walk_lost parts))

-- ---- through a page

outline_after : (state : State) (bytes rest other : List ℕ)
    → outline (after state bytes) rest ≡ outline (after state bytes) other
    → outline state (bytes ++ rest) ≡ outline state (bytes ++ other)
outline_after state [] rest other same = same
outline_after state (b ∷ bytes) rest other same =
    rw (outline_after (step state b) bytes rest other same) refl

after_append : (state : State) (bytes rest : List ℕ)
    → after state (bytes ++ rest) ≡ after (after state bytes) rest
after_append state [] rest = refl
after_append state (b ∷ bytes) rest = after_append (step state b) bytes rest

outline_stays : (state : State) (parts : List Part) → walk state parts ≢ Lost
    → outline state (page_bytes parts) ≡ outline state (page_bytes (without_texts parts))
outline_stays state [] found = refl
outline_stays state (Markup bytes ∷ parts) found =
    outline_after state bytes (page_bytes parts) (page_bytes (without_texts parts))
    (outline_stays (after state bytes) parts found)
outline_stays state (Text text ∷ parts) found =
    let place = text_place state parts found in
    let on : walk state parts ≢ Lost = λ lost. found (ap (λ s. walk s parts) place.1 ∙ lost) in
    outline_through state place.0 (escaped text) (page_bytes parts) (all_harmless text)
    ∙ outline_stays state parts on

reading_append : (state : State) (bytes rest : List ℕ)
    → reading state (bytes ++ rest) ≡ reading state bytes ++ reading (after state bytes) rest
reading_append state [] rest = refl
reading_append state (b ∷ bytes) rest =
    ap (λ l. (if is_content state b then Content b else Mark b) ∷ l)
    (reading_append (step state b) bytes rest)

reads_as_told : (state : State) (parts : List Part) → walk state parts ≢ Lost
    → reading state (page_bytes parts) ≡ reading_of state parts
reads_as_told state [] found = refl
reads_as_told state (Markup bytes ∷ parts) found =
    reading_append state bytes (page_bytes parts)
    ∙ ap (λ l. reading state bytes ++ l) (reads_as_told (after state bytes) parts found)
reads_as_told state (Text text ∷ parts) found =
    let place = text_place state parts found in
    let on : walk state parts ≢ Lost = λ lost. found (ap (λ s. walk s parts) place.1 ∙ lost) in
    reading_through state place.0 (escaped text) (page_bytes parts) (all_harmless text)
    ∙ ap (λ l. map Content (escaped text) ++ l)
    (reads_as_told state parts on ∙ ap (λ s. reading_of s parts) (sym place.1))

ends_as_walked : (state : State) (parts : List Part) → walk state parts ≢ Lost
    → after state (page_bytes parts) ≡ walk state parts
ends_as_walked state [] found = refl
ends_as_walked state (Markup bytes ∷ parts) found =
    after_append state bytes (page_bytes parts) ∙ ends_as_walked (after state bytes) parts found
ends_as_walked state (Text text ∷ parts) found =
    let place = text_place state parts found in
    let on : walk state parts ≢ Lost = λ lost. found (ap (λ s. walk s parts) place.1 ∙ lost) in
    after_through state place.0 (escaped text) (page_bytes parts) (all_harmless text)
    ∙ ends_as_walked state parts on ∙ ap (λ s. walk s parts) (sym place.1)

found_in_text : (parts : List Part) → IsPage parts → walk InText parts ≢ Lost
found_in_text parts page = λ lost. let e : InText ≡ Lost = sym page ∙ lost in cc

-- ---- the law

pub same_outline : (parts : List Part) → IsPage parts
    → outline InText (page_bytes parts) ≡ outline InText (page_bytes (without_texts parts))
same_outline parts page = outline_stays InText parts (found_in_text parts page)

pub ends_in_text : (parts : List Part) → IsPage parts → after InText (page_bytes parts) ≡ InText
ends_in_text parts page = ends_as_walked InText parts (found_in_text parts page) ∙ page

pub read_as_told : (parts : List Part) → IsPage parts
    → reading InText (page_bytes parts) ≡ reading_of InText parts
read_as_told parts page = reads_as_told InText parts (found_in_text parts page)
