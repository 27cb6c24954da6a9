-- What bytes of a form stand for, one after the other.
use Rattle.std.proofs.Common.{◌≡◌, ◌≢◌, ◌∙◌, ℕ, ◌<◌, ◌+◌, ◌==◌, ◌&&◌, true, false}
use Rattle.std.proofs.Common.{List, [], ◌∷◌, ◌++◌, length, drop, get_or, refl, ap, sym}
use Rattle.std.proofs.Common.{Option, Some, None, append_assoc, append-nil, option_map}
use Rattle.std.proofs.lemmas.List.{drop_more}
use Rattle.browser_core.specs.Cuts.{before, parts_in, rest_after}
use Rattle.browser_core.specs.Form.{begins_with_feed, decoded, field_in, fields_in, in_front, is_escape}
use Rattle.browser_core.specs.Form.{onto, plain, with_feeds}
use Rattle.browser_core.specs.declared.form.Field.{Field}
use Rattle.browser_core.proofs.Stops.{parts_first}

-- ---- bytes

pub alone : (bytes : List ℕ) → bytes ≢ [] → is_escape bytes ≡ false
    → decoded bytes ≡ onto (plain (get_or bytes 0 0)) (decoded (drop 1 bytes))
alone [] some is = absurd (some refl)
alone (b ∷ []) some is = refl
alone (b ∷ c ∷ []) some is = refl
alone (b ∷ c ∷ d ∷ bytes) some is = rw is refl

onto_more : (out : List ℕ) (b : ℕ) (rest : Option (List ℕ))
    → option_map (λ l. out ++ l) (onto (Some b) rest) ≡ option_map (λ l. (out ++ b ∷ []) ++ l) rest
onto_more out b None = refl
onto_more out b (Some rest) = ap (λ (l : List ℕ). Some l) (sym (append_assoc out (b ∷ []) rest))

-- a byte more, and the bytes of what is left
pub goes_on : (out now bytes rest : List ℕ) (b : ℕ) (all : Option (List ℕ))
    → decoded bytes ≡ onto (Some b) (decoded rest) → now ≡ out ++ b ∷ []
    → option_map (λ l. out ++ l) (decoded bytes) ≡ all
    → option_map (λ l. now ++ l) (decoded rest) ≡ all
goes_on out now bytes rest b all first pushed so_far =
    ap (λ (n : List ℕ). option_map (λ l. n ++ l) (decoded rest)) pushed
    ∙ sym (onto_more out b (decoded rest)) ∙ sym (ap (option_map (λ l. out ++ l)) first) ∙ so_far

-- no byte, and so none of the bytes
pub stops : (out bytes rest : List ℕ) (all : Option (List ℕ))
    → decoded bytes ≡ onto None (decoded rest)
    → option_map (λ l. out ++ l) (decoded bytes) ≡ all → None ≡ all
stops out bytes rest all first so_far = sym (ap (option_map (λ l. out ++ l)) first) ∙ so_far

pub ended : (out bytes : List ℕ) (all : Option (List ℕ)) → bytes ≡ []
    → option_map (λ l. out ++ l) (decoded bytes) ≡ all → Some out ≡ all
ended out bytes all none so_far =
    ap (λ (l : List ℕ). Some l) (sym (append-nil out))
    ∙ sym (ap (λ b. option_map (λ l. out ++ l) (decoded b)) none) ∙ so_far

-- ---- line feeds

-- a byte that stays
pub feed_stays : (bytes : List ℕ) (i : ℕ) → i < length bytes
    → ((get_or bytes i 0 == 13) && begins_with_feed (drop (i + 1) bytes)) ≡ false
    → with_feeds (drop i bytes) ≡ get_or bytes i 0 ∷ with_feeds (drop (i + 1) bytes)
feed_stays bytes i within is = ap with_feeds (drop_more bytes i 0 within) ∙ rw is refl

-- one that goes
pub feed_goes : (bytes : List ℕ) (i : ℕ) → i < length bytes
    → ((get_or bytes i 0 == 13) && begins_with_feed (drop (i + 1) bytes)) ≡ true
    → with_feeds (drop i bytes) ≡ with_feeds (drop (i + 1) bytes)
feed_goes bytes i within is = ap with_feeds (drop_more bytes i 0 within) ∙ rw is refl

-- ---- fields

front_more : (out : List Field) (field : Field) (rest : Option (List Field))
    → option_map (λ l. out ++ l) (in_front (Some field) rest)
    ≡ option_map (λ l. (out ++ field ∷ []) ++ l) rest
front_more out field None = refl
front_more out field (Some rest) =
    ap (λ (l : List Field). Some l) (sym (append_assoc out (field ∷ []) rest))

first_piece : (bytes piece : List ℕ) (left : Option (List ℕ)) → left ≡ Some bytes
    → piece ≡ before 38 bytes → fields_in (parts_in 38 left)
    ≡ in_front (field_in piece) (fields_in (parts_in 38 (rest_after 38 bytes)))
first_piece bytes piece left here first =
    ap (λ l. fields_in (parts_in 38 l)) here ∙ ap fields_in (parts_first 38 bytes)
    ∙ ap (λ p. in_front (field_in p) (fields_in (parts_in 38 (rest_after 38 bytes)))) (sym first)

-- a field more, and those of what is left
pub field_more : (out now : List Field) (field : Field) (bytes piece : List ℕ)
    (left more : Option (List ℕ)) (all : Option (List Field)) → left ≡ Some bytes
    → piece ≡ before 38 bytes → more ≡ rest_after 38 bytes → field_in piece ≡ Some field
    → now ≡ out ++ field ∷ []
    → option_map (λ l. out ++ l) (fields_in (parts_in 38 left)) ≡ all
    → option_map (λ l. now ++ l) (fields_in (parts_in 38 more)) ≡ all
field_more out now field bytes piece left more all here first rest is pushed so_far =
    let others = fields_in (parts_in 38 (rest_after 38 bytes)) in
    ap (λ m. option_map (λ l. now ++ l) (fields_in (parts_in 38 m))) rest
    ∙ ap (λ (n : List Field). option_map (λ l. n ++ l) others) pushed
    ∙ sym (front_more out field others)
    ∙ sym (ap (option_map (λ l. out ++ l))
    (first_piece bytes piece left here first ∙ ap (λ f. in_front f others) is))
    ∙ so_far

-- none, and so none of the fields
pub no_field : (out : List Field) (bytes piece : List ℕ) (left : Option (List ℕ))
    (all : Option (List Field)) → left ≡ Some bytes → piece ≡ before 38 bytes
    → field_in piece ≡ None → option_map (λ l. out ++ l) (fields_in (parts_in 38 left)) ≡ all
    → None ≡ all
no_field out bytes piece left all here first is so_far =
    let others = fields_in (parts_in 38 (rest_after 38 bytes)) in
    sym (ap (option_map (λ l. out ++ l))
    (first_piece bytes piece left here first ∙ ap (λ f. in_front f others) is))
    ∙ so_far

pub all_fields : (out : List Field) (left : Option (List ℕ)) (all : Option (List Field))
    → left ≡ None → option_map (λ l. out ++ l) (fields_in (parts_in 38 left)) ≡ all
    → Some out ≡ all
all_fields out left all none so_far =
    ap (λ (l : List Field). Some l) (sym (append-nil out))
    ∙ sym (ap (λ m. option_map (λ l. out ++ l) (fields_in (parts_in 38 m))) none) ∙ so_far
