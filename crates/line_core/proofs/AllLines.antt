-- The lines that are taken of a stream, beside those of a text.
use Rattle.std.proofs.Common.{◌≡◌, ◌≢◌, ◌∙◌, ◌<◌, ◌+◌, ◌==◌, ◌||◌, ℕ, Bool, true, false, List, []}
use Rattle.std.proofs.Common.{◌∷◌, ◌++◌, Some, None, length, ap, sym, refl, subst, append_assoc}
use Rattle.std.proofs.Common.{append-nil, arith, if◌then◌else◌}
use Rattle.std.specs.List.{All, slice_split}
use Rattle.std.specs.Str.Lines.{lines, lines_of_parts, strip_carriage_return}
use Rattle.std.proofs.lemmas.List.Elements.{All-cons, All-nil}
use Rattle.std.proofs.lemmas.List.Splits.{length-slice_split, slice_split_at, slice_split_none}
use borrow.Author.Tests.{ne_eqb}
use Rattle.line_core.specs.Lines.{TakesAll, has_feed}

abbrev is_feed : ℕ → Bool
is_feed b = b == 10

-- neither of two tests holds
neither : (one other : Bool) → (one || other) ≡ false → (one ≡ false) × (other ≡ false)
neither true other e = cc
neither false other e = (refl, e)

no_feeds : (bs : List ℕ) → has_feed bs ≡ false → All (λ b. is_feed b ≡ false) bs
no_feeds [] e = All-nil (λ b. is_feed b ≡ false)
no_feeds (b ∷ bs) e =
    let both = neither (b == 10) (has_feed bs) e in
    All-cons (λ x. is_feed x ≡ false) b bs both.0 (no_feeds bs both.1)

of_parts : (x : List ℕ) (parts : List (List ℕ)) → 0 < length parts
    → lines_of_parts (x ∷ parts) ≡ strip_carriage_return x ∷ lines_of_parts parts
of_parts x [] l = absurd (omega arith)
of_parts x (y ∷ more) l = refl

-- of a line with its line feed, and what follows
ended_line : (line rest : List ℕ) → has_feed line ≡ false
    → lines (line ++ 10 ∷ rest) ≡ strip_carriage_return line ∷ lines rest
ended_line line rest none =
    ap lines_of_parts (slice_split_at is_feed line 10 rest (no_feeds line none) refl)
    ∙ of_parts line (slice_split is_feed rest) (omega (arith, length-slice_split is_feed rest))

-- of one without it
last_line : (line : List ℕ) → has_feed line ≡ false → line ≢ [] → lines line ≡ line ∷ []
last_line [] none some = absurd (some refl)
last_line (b ∷ bs) none some =
    ap lines_of_parts (slice_split_none is_feed (b ∷ bs) (no_feeds (b ∷ bs) none))
    ∙ ap (λ empty. if empty then [] else (b ∷ bs) ∷ [])
    (ne_eqb (length (b ∷ bs)) 0 (λ z. omega (arith, z)))

none_left : (rest : List ℕ) → rest ≡ [] → lines rest ≡ []
none_left rest e = ap lines e

pub all_lines : (bs : List ℕ) (texts : List (List ℕ)) → TakesAll (Some bs) texts → texts ≡ lines bs
all_lines bs [] taken = sym (none_left bs taken)
all_lines bs (text ∷ texts) (None, line, true, first, is, more) = absurd first.0.1
all_lines bs (text ∷ texts) (None, line, false, first, is, more) = absurd first.0.1
all_lines bs (text ∷ texts) (Some rest, line, true, first, is, more) =
    let whole : bs ≡ line ++ 10 ∷ rest =
    first.0.1 ∙ append_assoc line (10 ∷ []) rest in
    let others : texts ≡ lines rest = all_lines rest texts more in
    ap (λ t. t ∷ texts) is ∙ ap (λ l. strip_carriage_return line ∷ l) others
    ∙ sym (ap lines whole ∙ ended_line line rest first.0.0)
all_lines bs (text ∷ texts) (Some rest, line, false, first, is, more) =
    let none : rest ≡ [] = first.0.2 in
    let whole : bs ≡ line = first.0.1 ∙ ap (λ l. line ++ l) none ∙ append-nil line in
    let others : texts ≡ [] = all_lines rest texts more ∙ none_left rest none in
    ap (λ t. t ∷ texts) is ∙ ap (λ l. line ∷ l) others
    ∙ sym (ap lines whole ∙ last_line line first.0.0 (first.1 refl))
