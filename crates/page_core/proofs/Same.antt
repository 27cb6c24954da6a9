-- Two pages of the same markup, piece by piece.
use Rattle.std.proofs.Common.{◌≡◌, ◌∙◌, ℕ, Bool, List, [], ◌∷◌, ◌++◌, length, map, arith, refl, ap, sym}
use Rattle.std.specs.List.{flat_map}
use Rattle.page_core.specs.Markup.{SameMarkup, markup_of}
use Rattle.page_core.specs.Page.{Part}
use Rattle.page_core.specs.Template.{IsTemplate, filled, markup_in}
use Rattle.page_core.proofs.Shows.{Shows}
use Rattle.page_core.proofs.Templates.{template_shows}
use Rattle.page_core.proofs.Walks.{outline_of_two, page_append}

-- two pieces of which the same markup is known
pub same_shown : {parts others : List Part} {markup : List ℕ} → Shows parts markup
    → Shows others markup → SameMarkup parts others
same_shown one other =
    record { placed = one.page; other = other.page; same = one.outlined ∙ sym other.outlined }

-- a template, whatever stands in its holes
pub same_filled : (template : List ℕ) → IsTemplate template → (texts others : List (List ℕ))
    (flags : List Bool)
    → SameMarkup (filled template texts flags) (filled template others flags)
same_filled template fine texts others flags =
    same_shown (template_shows template texts flags fine) (template_shows template others flags fine)

-- a template of which other pieces are shown, if that doesn't change its markup
pub same_shape : (template : List ℕ) → IsTemplate template → (texts others : List (List ℕ))
    (flags now : List Bool) → markup_in template flags ≡ markup_in template now
    → SameMarkup (filled template texts flags) (filled template others now)
same_shape template fine texts others flags now shape =
    let other = template_shows template others now fine in
    same_shown (template_shows template texts flags fine)
    (record { page = other.page; outlined = other.outlined ∙ sym shape })

-- a template of which the same pieces are shown
pub same_flags : (template : List ℕ) → IsTemplate template → (texts others : List (List ℕ))
    (flags now : List Bool) → flags ≡ now
    → SameMarkup (filled template texts flags) (filled template others now)
same_flags template fine texts others flags now same =
    same_shape template fine texts others flags now (ap (markup_in template) same)

-- one piece after another
pub same_both : {parts others more rest : List Part} → SameMarkup parts others
    → SameMarkup more rest → SameMarkup (parts ++ more) (others ++ rest)
same_both {parts = parts} {others = others} {more = more} {rest = rest} first second = record {
  placed = page_append parts more first.placed second.placed;
  other = page_append others rest first.other second.other;
  same = outline_of_two parts more first.placed
      ∙ ap (λ l. l ++ markup_of more) first.same
      ∙ ap (λ l. markup_of others ++ l) second.same
      ∙ sym (outline_of_two others rest first.other);
}

-- nothing at all
pub same_none : SameMarkup [] []
same_none = record { placed = refl; other = refl; same = refl }

-- a piece for each of some rows, of which some things are the same
pub same_rows : {X : Type 0} {Y : Type 0} {F : Type 0} (row : X → List Part) (other : Y → List Part)
    (told : X → F) (tells : Y → F)
    → ((x : X) (y : Y) → told x ≡ tells y → SameMarkup (row x) (other y))
    → (xs : List X) (ys : List Y) → map told xs ≡ map tells ys
    → SameMarkup (flat_map row xs) (flat_map other ys)
same_rows row other told tells each [] [] same = same_none
same_rows row other told tells each [] (y ∷ ys) same = absurd (cc)
same_rows row other told tells each (x ∷ xs) [] same = absurd (cc)
same_rows row other told tells each (x ∷ xs) (y ∷ ys) same =
    let head : told x ≡ tells y = cc in
    let tail : map told xs ≡ map tells ys = cc in
    same_both (each x y head) (same_rows row other told tells each xs ys tail)

-- a piece for each of as many rows
pub same_count : {X : Type 0} {Y : Type 0} (row : X → List Part) (other : Y → List Part)
    → ((x : X) (y : Y) → SameMarkup (row x) (other y)) → (xs : List X) (ys : List Y)
    → length xs ≡ length ys → SameMarkup (flat_map row xs) (flat_map other ys)
same_count row other each [] [] same = same_none
same_count row other each [] (y ∷ ys) same = absurd (omega (arith, same))
same_count row other each (x ∷ xs) [] same = absurd (omega (arith, same))
same_count row other each (x ∷ xs) (y ∷ ys) same =
    let fewer : length xs ≡ length ys = omega (arith, same) in
    same_both (each x y) (same_count row other each xs ys fewer)
