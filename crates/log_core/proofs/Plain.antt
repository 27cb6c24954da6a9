-- A note is of visible characters and spaces.
use Rattle.std.proofs.Common.{◌≡◌, ◌∙◌, ◌≤◌, ◌&&◌, ℕ, Bool, true, false, List, [], ◌∷◌, ◌++◌, refl, ap, sym}
use Rattle.std.proofs.Common.{subst, cond, codes, map, take, nat_le, arith}
use Rattle.std.specs.List.{list_all}
use Rattle.std.proofs.lemmas.List.Folds.{list_all-append}
use Rattle.browser_core.specs.Cuts.{before}
use Rattle.log_core.specs.Log.{address_of, code_of, is_plain, note_text, number_of, shown, word}

both_true : (a b : Bool) → a ≡ true → b ≡ true → (a && b) ≡ true
both_true a b one other = cc

shown_by : (b : ℕ) (low high : Bool) → nat_le 33 b ≡ low → nat_le b 126 ≡ high
    → is_plain (cond (low && high) b 63) ≡ true
shown_by b true true low high =
    both_true (nat_le 32 b) (nat_le b 126) (grind arith) high
shown_by b true false low high = refl
shown_by b false true low high = refl
shown_by b false false low high = refl

plain_shown : (b : ℕ) → is_plain (shown b) ≡ true
plain_shown b = shown_by b (nat_le 33 b) (nat_le b 126) refl refl

plain_all : (bytes : List ℕ) → list_all is_plain (map shown bytes) ≡ true
plain_all [] = refl
plain_all (b ∷ bs) = both_true _ _ (plain_shown b) (plain_all bs)

plain_word : (most : ℕ) (bytes : List ℕ) → list_all is_plain (word most bytes) ≡ true
plain_word most [] = refl
plain_word most (b ∷ bs) = plain_all (take most (b ∷ bs))

plain_both : (xs ys : List ℕ) → list_all is_plain xs ≡ true → list_all is_plain ys ≡ true
    → list_all is_plain (xs ++ ys) ≡ true
plain_both xs ys one other = list_all-append is_plain xs ys ∙ both_true _ _ one other

-- a word, a space, and more words
plain_then : (most : ℕ) (bytes rest : List ℕ) → list_all is_plain rest ≡ true
    → list_all is_plain (word most bytes ++ (codes " " ++ rest)) ≡ true
plain_then most bytes rest plain =
    plain_both (word most bytes) (codes " " ++ rest) (plain_word most bytes)
    (plain_both (codes " ") rest refl plain)

pub plain_note : (forwarded person method target reply : List ℕ)
    → list_all is_plain (note_text forwarded person method target reply) ≡ true
plain_note forwarded person method target reply =
    unfold note_text in
    plain_then 45 (address_of forwarded) _
    (plain_then 64 person _
    (plain_then 16 method _
    (plain_then 200 (before 63 target) _
    (plain_then 3 (code_of reply) _ (plain_word 2 (number_of reply))))))
