-- The markup of what stands above and below each page.
use Rattle.std.proofs.Common.{◌≡◌, ℕ, List, [], ◌∷◌, refl, ap}
use Rattle.page_core.specs.Markup.{SameMarkup}
use Rattle.page_core.specs.Template.{through}
use Rattle.page_core.proofs.Same.{same_filled, same_flags}
use Rattle.desk_pages.specs.Frame.{bare_bottom, bare_top, bottom, is_find, is_home, is_late}
use Rattle.desk_pages.specs.Frame.{is_workload, top}
use Rattle.desk_pages.specs.declared.frame.Place.{Place}
use Rattle.desk_pages.specs.declared.markup.frame.TheConstants.{BARE_BOTTOM, BARE_TOP, BOTTOM, TOP}

pub same_top : (title other : List ℕ) (at : Place) (caller another : List ℕ)
    → SameMarkup (top title at caller) (top other at another)
unfolding top through
same_top title other at caller another = same_filled TOP.now refl _ _ _

-- at the same place
pub same_top_at : (title other : List ℕ) (at now : Place) (caller another : List ℕ) → at ≡ now
    → SameMarkup (top title at caller) (top other now another)
unfolding top through
same_top_at title other at now caller another same =
    same_flags TOP.now refl _ _ _ _
    (ap (λ place. is_home place ∷ is_find place ∷ is_late place ∷ is_workload place ∷ []) same)

pub same_bottom : (moment later : ℕ) → SameMarkup (bottom moment) (bottom later)
unfolding bottom through
same_bottom moment later = same_filled BOTTOM.now refl _ _ _

pub same_bare_top : (title other : List ℕ) → SameMarkup (bare_top title) (bare_top other)
unfolding bare_top through
same_bare_top title other = same_filled BARE_TOP.now refl _ _ _

pub same_bare_bottom : SameMarkup bare_bottom bare_bottom
unfolding bare_bottom through
same_bare_bottom = same_filled BARE_BOTTOM.now refl _ _ _
