-- Parts after parts.
use Rattle.std.proofs.Common.{◌≡◌, ◌∙◌, ℕ, Bool, true, false, if◌then◌else◌, List, [], ◌∷◌, ◌++◌}
use Rattle.std.proofs.Common.{refl, ap}
use Rattle.std.proofs.lemmas.Grind.{flat_map-append}
use Rattle.page_core.specs.Page.{Part, Markup, Text, page_bytes, part_bytes}
use Rattle.page_core.specs.Reading.{State, InText, IsPage, after, at_text, is_content, outline}
use Rattle.page_core.specs.Reading.{step, walk}
use Rattle.page_core.proofs.Injection.{ends_in_text}

pub walk_append : (state : State) (parts others : List Part)
    → walk state (parts ++ others) ≡ walk (walk state parts) others
walk_append state [] others = refl
walk_append state (Markup bytes ∷ parts) others = walk_append (after state bytes) parts others
walk_append state (Text text ∷ parts) others = walk_append (at_text state) parts others

-- one page after another is a page
pub page_append : (parts others : List Part) → IsPage parts → IsPage others
    → IsPage (parts ++ others)
page_append parts others first second =
    walk_append InText parts others ∙ ap (λ state. walk state others) first ∙ second

-- ---- outlines

one_more : (content : Bool) (b : ℕ) (whole front back : List ℕ) → whole ≡ front ++ back
    → (if content then whole else b ∷ whole) ≡ (if content then front else b ∷ front) ++ back
one_more true b whole front back same = same
one_more false b whole front back same = ap (λ l. b ∷ l) same

outline_append : (state : State) (bytes rest : List ℕ)
    → outline state (bytes ++ rest) ≡ outline state bytes ++ outline (after state bytes) rest
outline_append state [] rest = refl
outline_append state (b ∷ bytes) rest =
    one_more (is_content state b) b (outline (step state b) (bytes ++ rest))
    (outline (step state b) bytes) (outline (after (step state b) bytes) rest)
    (outline_append (step state b) bytes rest)

pub outline_of_two : (parts others : List Part) → IsPage parts
    → outline InText (page_bytes (parts ++ others))
    ≡ outline InText (page_bytes parts) ++ outline InText (page_bytes others)
outline_of_two parts others page =
    ap (outline InText) (flat_map-append part_bytes parts others)
    ∙ outline_append InText (page_bytes parts) (page_bytes others)
    ∙ ap (λ state. outline InText (page_bytes parts) ++ outline state (page_bytes others))
    (ends_in_text parts page)
