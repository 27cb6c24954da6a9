-- The markup of the pages of forms that weren't sent.
use Rattle.std.proofs.Common.{◌≡◌, ℕ, Bool, true, not, List, [], ◌∷◌, Option, is_some, refl, ap}
use Rattle.page_core.specs.Markup.{SameMarkup}
use Rattle.page_core.specs.Page.{Part}
use Rattle.page_core.specs.Template.{through}
use Rattle.page_core.proofs.Same.{same_both, same_filled, same_flags}
use Rattle.desk_pages.specs.Frame.{top}
use Rattle.desk_pages.specs.RefusalPage.{is_found, typed, typed_page, unsent_ask_page}
use Rattle.desk_pages.specs.RefusalPage.{unsent_change_page, unsent_comment_page, unsent_page}
use Rattle.desk_pages.specs.RefusalPage.{unsent_reply_page}
use Rattle.desk_pages.specs.Refused.{crumb, front_of, is_denied, notice, to_queue, to_request}
use Rattle.desk_pages.specs.Unsent.{ahead_note, bad_note, other_note, own_note, said_of, title_of}
use Rattle.desk_pages.specs.Unsent.{why_told}
use Rattle.desk_pages.specs.declared.frame.Place.TheVariants.{Elsewhere}
use Rattle.desk_pages.specs.declared.markup.refused.TheConstants.{CRUMB, NOTE, NOTICE, TO_QUEUE}
use Rattle.desk_pages.specs.declared.markup.refused.TheConstants.{TO_QUEUES, TO_REQUEST}
use Rattle.desk_pages.specs.declared.markup.refused.TheConstants.{TYPED_END, TYPED_TOP}
use Rattle.desk_pages.specs.declared.unsent.Unsent.{Unsent}
use Rattle.desk_pages.specs.declared.unsent.Unsent.TheVariants.{Refused}
use Rattle.desk_model.specs.declared.refusal.Refusal.{Refusal}
use Rattle.desk_pages.proofs.Asks.{same_ask_again}
use Rattle.desk_pages.proofs.Frames.{same_bottom, same_top}
use Rattle.desk_pages.proofs.Writes.{same_comment, same_reply}

pub same_notice : (front words : List ℕ) (why other : Refusal) → is_denied why ≡ is_denied other
    → SameMarkup (notice front why) (notice words other)
unfolding notice through
same_notice front words why other same =
    same_flags NOTICE.now refl _ _ _ _ (ap (λ flag. flag ∷ []) same)

same_said : (why other : Unsent) (caller another : List ℕ) → why_told why ≡ why_told other
    → SameMarkup (said_of why caller) (said_of other another)
unfolding ahead_note bad_note other_note own_note through
same_said (Refused why) (Refused other) caller another same =
    let denied : is_denied why ≡ is_denied other = cc in
    same_notice (front_of why) (front_of other) why other denied
same_said (Refused why) other caller another same = absurd (cc)
same_said why (Refused other) caller another same = absurd (cc)
same_said why other caller another same = same_filled NOTE.now refl _ _ _

pub same_crumb : (id another : ℕ) → SameMarkup (crumb id) (crumb another)
unfolding crumb through
same_crumb id another = same_filled CRUMB.now refl _ _ _

pub same_to_request : (id another : ℕ) → SameMarkup (to_request id) (to_request another)
unfolding to_request through
same_to_request id another = same_filled TO_REQUEST.now refl _ _ _

same_to_queue : (found known : Bool) (queue other : List ℕ) → found ≡ known
    → SameMarkup (to_queue found queue) (to_queue known other)
unfolding to_queue through
same_to_queue found known queue other same =
    same_flags TO_QUEUE.now refl _ _ _ _ (ap (λ flag. flag ∷ not flag ∷ []) same)

pub same_typed : {form other : List Part} → SameMarkup form other
    → SameMarkup (typed form) (typed other)
unfolding through
same_typed same =
    same_both (same_filled TYPED_TOP.now refl _ _ _)
    (same_both same (same_filled TYPED_END.now refl _ _ _))

-- what stands above each of them
same_above : (why other : Unsent) (caller another : List ℕ) → SameMarkup
    (top (title_of why) Elsewhere caller) (top (title_of other) Elsewhere another)
same_above why other caller another =
    same_top (title_of why) (title_of other) Elsewhere caller another

pub unsent_same : (why other : Unsent) (caller another : List ℕ) (moment later : ℕ)
    → why_told why ≡ why_told other
    → SameMarkup (unsent_page why caller moment) (unsent_page other another later)
unfolding through
unsent_same why other caller another moment later told =
    same_both (same_above why other caller another)
    (same_both (same_said why other caller another told)
    (same_both (same_filled TO_QUEUES.now refl _ _ _) (same_bottom moment later)))

pub unsent_change_same : (why other : Unsent) (caller another : List ℕ) (moment later id n : ℕ)
    → why_told why ≡ why_told other
    → SameMarkup (unsent_change_page why caller moment id) (unsent_change_page other another later n)
unsent_change_same why other caller another moment later id n told =
    same_both (same_above why other caller another)
    (same_both (same_crumb id n)
    (same_both (same_said why other caller another told)
    (same_both (same_to_request id n) (same_bottom moment later))))

same_typed_page : (why other : Unsent) (caller another : List ℕ) (moment later id n : ℕ)
    (form others : List Part) → why_told why ≡ why_told other → SameMarkup form others
    → SameMarkup (typed_page why caller moment id form) (typed_page other another later n others)
same_typed_page why other caller another moment later id n form others told same =
    same_both (same_above why other caller another)
    (same_both (same_crumb id n)
    (same_both (same_said why other caller another told)
    (same_both (same_typed same) (same_both (same_to_request id n) (same_bottom moment later)))))

pub unsent_reply_same : (why other : Unsent) (caller another : List ℕ)
    (moment later id n seen last : ℕ) (text words : List ℕ) (status chosen : Option (List ℕ))
    → why_told why ≡ why_told other → is_some status ≡ is_some chosen
    → SameMarkup (unsent_reply_page why caller moment id seen text status)
    (unsent_reply_page other another later n last words chosen)
unsent_reply_same why other caller another moment later id n seen last text words status chosen told
    same =
    same_typed_page why other caller another moment later id n _ _ told
    (same_reply id n caller another seen last text words status chosen true same)

pub unsent_comment_same : (why other : Unsent) (caller another : List ℕ) (moment later id n : ℕ)
    (text words : List ℕ) → why_told why ≡ why_told other
    → SameMarkup (unsent_comment_page why caller moment id text)
    (unsent_comment_page other another later n words)
unsent_comment_same why other caller another moment later id n text words told =
    same_typed_page why other caller another moment later id n _ _ told
    (same_comment id n caller another text words)

pub unsent_ask_same : (why other : Unsent) (caller another : List ℕ) (moment later : ℕ)
    (queue place subject line text words requestors persons : List ℕ)
    (status chosen : Option (List ℕ))
    → why_told why ≡ why_told other → is_found why ≡ is_found other
    → is_some status ≡ is_some chosen
    → SameMarkup (unsent_ask_page why caller moment queue subject text requestors status)
    (unsent_ask_page other another later place line words persons chosen)
unsent_ask_same why other caller another moment later queue place subject line text words
    requestors persons status chosen told found same =
    same_both (same_above why other caller another)
    (same_both (same_said why other caller another told)
    (same_both (same_ask_again queue place caller another subject line text words requestors persons
    status chosen same)
    (same_both (same_to_queue (is_found why) (is_found other) queue place found)
    (same_bottom moment later))))
