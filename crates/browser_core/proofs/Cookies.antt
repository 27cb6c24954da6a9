-- Values told one after the other, and the pieces of lines.
use Rattle.std.proofs.Common.{◌≡◌, ◌∙◌, ℕ, Bool, true, false, List, [], ◌∷◌, ◌++◌, map, ap, refl, sym}
use Rattle.std.proofs.Common.{Option, Some, Bor, ◌<◌, ◌+◌, length, drop, get_or}
use Rattle.std.proofs.lemmas.List.{drop_more}
use Rattle.std.specs.List.{flat_map}
use Rattle.browser_core.specs.Cookie.{is_named, only, pieces, values_of}
use Rattle.browser_core.specs.Cuts.{before, parts_in, rest_after}
use Rattle.browser_core.specs.Known.{Known, Nothing, Several, the_one, with_all, with_one}
use Rattle.browser_core.specs.Trim.{trimmed}
use Rattle.browser_core.proofs.Stops.{parts_first}

several : (values : List (List ℕ)) → with_all Several values ≡ Several
several [] = refl
several (value ∷ values) = several values

-- the value that is known alone is the only one
pub the_only : (values : List (List ℕ)) → the_one (with_all Nothing values) ≡ only values
the_only [] = refl
the_only (value ∷ []) = refl
the_only (value ∷ other ∷ more) = ap the_one (several more)

pub in_turn : (known : Known) (first second : List (List ℕ))
    → with_all known (first ++ second) ≡ with_all (with_all known first) second
in_turn known [] second = refl
in_turn known (value ∷ first) second = in_turn (with_one known value) first second

one_more : (name piece : List ℕ) (is : Bool) (others : List (List ℕ)) → is_named name piece ≡ is
    → values_of name (piece ∷ others) ≡ values_of name (piece ∷ []) ++ values_of name others
one_more name piece true others is = rw is refl
one_more name piece false others is = rw is refl

-- a piece, and then those of what is left
pub piece_first : (name : List ℕ) (known next : Known) (bytes piece : List ℕ) (left more : Option (List ℕ))
    (all : Known) → left ≡ Some bytes → piece ≡ trimmed (before 59 bytes)
    → next ≡ with_all known (values_of name (piece ∷ [])) → more ≡ rest_after 59 bytes
    → with_all known (values_of name (map trimmed (parts_in 59 left))) ≡ all
    → with_all next (values_of name (map trimmed (parts_in 59 more))) ≡ all
piece_first name known next bytes piece left more all here first then rest so_far =
    let behind = map trimmed (parts_in 59 (rest_after 59 bytes)) in
    let others = values_of name behind in
    let cut : map trimmed (parts_in 59 left) ≡ trimmed (before 59 bytes) ∷ behind =
    ap (λ l. map trimmed (parts_in 59 l)) here ∙ ap (map trimmed) (parts_first 59 bytes) in
    let told : values_of name (map trimmed (parts_in 59 left)) ≡ values_of name (piece ∷ []) ++ others =
    ap (values_of name) cut ∙ ap (λ p. values_of name (p ∷ behind)) (sym first)
    ∙ one_more name piece (is_named name piece) behind refl in
    ap (λ m. with_all next (values_of name (map trimmed (parts_in 59 m)))) rest
    ∙ ap (λ k. with_all k others) then
    ∙ sym (in_turn known (values_of name (piece ∷ [])) others)
    ∙ sym (ap (with_all known) told) ∙ so_far

-- the values of lines
told : List ℕ → List (Bor (List ℕ)) → List (List ℕ)
told name lines = flat_map (λ line. values_of name (pieces line)) (map (λ v. v.now) lines)

-- a line, and then those that are left
pub line_first : (name : List ℕ) (known next : Known) (lines : List (Bor (List ℕ))) (i : ℕ) (d : Bor (List ℕ))
    (all : Known) → i < length lines
    → next ≡ with_all known (values_of name (pieces (get_or lines i d).now))
    → with_all known (flat_map (λ line. values_of name (pieces line))
    (map (λ v. v.now) (drop i lines))) ≡ all
    → with_all next (flat_map (λ line. values_of name (pieces line))
    (map (λ v. v.now) (drop (i + 1) lines))) ≡ all
unfolding told
line_first name known next lines i d all within then so_far =
    let here = values_of name (pieces (get_or lines i d).now) in
    let rest = told name (drop (i + 1) lines) in
    let first : told name (drop i lines) ≡ here ++ rest = ap (told name) (drop_more lines i d within) in
    ap (λ k. with_all k rest) then ∙ sym (in_turn known here rest)
    ∙ sym (ap (with_all known) first) ∙ so_far
