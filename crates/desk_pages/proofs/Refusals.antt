-- The markup of the pages of refusals.
use Rattle.std.proofs.Common.{◌≡◌, ℕ, List, Some, refl, ap, codes}
use Rattle.desk_model.specs.declared.refusal.Refusal.{Refusal}
use Rattle.page_core.specs.Markup.{SameMarkup}
use Rattle.page_core.specs.Template.{through}
use Rattle.page_core.proofs.Same.{same_both, same_filled}
use Rattle.desk_pages.specs.Filed.{filed, filed_page}
use Rattle.desk_pages.specs.Frame.{top}
use Rattle.desk_pages.specs.RefusalPage.{refusal_page, replied_page}
use Rattle.desk_pages.specs.Refused.{front_after, heading_of, is_denied}
use Rattle.desk_pages.specs.declared.frame.Place.TheVariants.{Elsewhere}
use Rattle.desk_pages.specs.declared.markup.filed.TheConstants.{FILED}
use Rattle.desk_pages.specs.declared.markup.refused.TheConstants.{REPLIED_NOTE}
use Rattle.desk_pages.specs.declared.unsent.Unsent.TheVariants.{Refused}
use Rattle.desk_pages.proofs.Frames.{same_bottom, same_top}
use Rattle.desk_pages.proofs.NotSent.{same_crumb, same_notice, same_to_request}
use Rattle.desk_pages.proofs.NotSent.{unsent_same}

-- what stands above each of them
same_refused : (why other : Refusal) (caller another : List ℕ) → SameMarkup
    (top (heading_of why) Elsewhere caller) (top (heading_of other) Elsewhere another)
same_refused why other caller another =
    same_top (heading_of why) (heading_of other) Elsewhere caller another

pub refusal_same : (why other : Refusal) (caller another : List ℕ) (moment later : ℕ)
    → is_denied why ≡ is_denied other
    → SameMarkup (refusal_page why caller moment) (refusal_page other another later)
refusal_same why other caller another moment later denied =
    unsent_same (Refused why) (Refused other) caller another moment later (ap Some denied)

pub filed_same : (caller other : List ℕ) (moment later id n : ℕ)
    → SameMarkup (filed_page caller moment id) (filed_page other later n)
unfolding through filed
filed_same caller other moment later id n =
    same_both (same_top (codes "Filed") (codes "Filed") Elsewhere caller other)
    (same_both (same_filled FILED.now refl _ _ _) (same_bottom moment later))

pub replied_same : (why other : Refusal) (caller another : List ℕ) (moment later id n : ℕ)
    (status chosen : List ℕ) → is_denied why ≡ is_denied other
    → SameMarkup (replied_page why caller moment id status) (replied_page other another later n
    chosen)
unfolding through
replied_same why other caller another moment later id n status chosen denied =
    same_both (same_refused why other caller another)
    (same_both (same_crumb id n)
    (same_both (same_notice (front_after why) (front_after other) why other denied)
    (same_both (same_filled REPLIED_NOTE.now refl _ _ _)
    (same_both (same_to_request id n) (same_bottom moment later)))))
