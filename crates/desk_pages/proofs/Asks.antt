-- The markup of the form for a new request, and of its page.
use Rattle.std.proofs.Common.{◌≡◌, ℕ, arith, Bool, List, [], ◌∷◌, length, map, refl, ap}
use Rattle.std.proofs.Common.{Option, Some, None, is_some}
use Rattle.std.specs.Str.{bytes_eq}
use Rattle.page_core.specs.Markup.{SameMarkup}
use Rattle.page_core.specs.Template.{through}
use Rattle.page_core.proofs.Same.{same_both, same_filled, same_flags, same_none, same_rows}
use Rattle.desk_pages.specs.Ask.{ask, ask_again, chosen, fields, status_row, usual_told}
use Rattle.desk_pages.specs.New.{new_page, new_top}
use Rattle.desk_pages.specs.declared.frame.Place.TheVariants.{Elsewhere}
use Rattle.desk_pages.specs.declared.markup.ask.TheConstants.{ASK, ASK_END, CHOSEN}
use Rattle.desk_pages.specs.declared.markup.new.TheConstants.{NEW_TOP}
use Rattle.desk_pages.specs.declared.new.TheConstants.{TITLE}
use Rattle.desk_pages.proofs.Frames.{same_bottom, same_top}
use Rattle.desk_pages.proofs.Tables.{filled_alike, never, nowhere, same_choice}

-- what is told of each tells how many there are
pub as_many : {X : Type 0} {Y : Type 0} {F : Type 0} (told : X → F) (tells : Y → F) (xs : List X)
    (ys : List Y) → map told xs ≡ map tells ys → length xs ≡ length ys
as_many told tells [] [] same = refl
as_many told tells [] (y ∷ ys) same = absurd (cc)
as_many told tells (x ∷ xs) [] same = absurd (cc)
as_many told tells (x ∷ xs) (y ∷ ys) same =
    let tail : map told xs ≡ map tells ys = cc in
    let fewer : length xs ≡ length ys = as_many told tells xs ys tail in
    omega (arith, fewer)

same_fields : (queue another caller other subject line text words requestors persons : List ℕ)
    (any known : Bool) → any ≡ known
    → SameMarkup (fields queue caller subject text requestors any)
    (fields another other line words persons known)
unfolding through
same_fields queue another caller other subject line text words requestors persons any known same =
    same_flags ASK.now refl _ _ _ _ (ap (λ flag. flag ∷ []) same)

same_chosen : (status other : Option (List ℕ)) → is_some status ≡ is_some other
    → SameMarkup (chosen status) (chosen other)
unfolding chosen through
same_chosen None None same = same_none
same_chosen None (Some other) same = never same
same_chosen (Some status) None same = nowhere same
same_chosen (Some status) (Some other) same = same_filled CHOSEN.now refl _ _ _

pub same_ask_again : (queue another caller other subject line text words requestors persons
    : List ℕ)
    (status now : Option (List ℕ)) → is_some status ≡ is_some now
    → SameMarkup (ask_again queue caller subject text requestors status)
    (ask_again another other line words persons now)
unfolding through
same_ask_again queue another caller other subject line text words requestors persons status now
    same =
    same_both (same_fields queue another caller other subject line text words requestors persons
    (is_some status) (is_some now) same)
    (same_both (same_chosen status now same)
    (same_flags ASK_END.now refl _ _ _ _ (ap (λ flag. flag ∷ []) same)))

pub same_ask : (queue another caller other subject line text words requestors persons usual first
    : List ℕ)
    (statuses names : List (List ℕ)) → usual_told usual statuses ≡ usual_told first names
    → SameMarkup (ask queue caller subject text requestors usual statuses)
    (ask another other line words persons first names)
unfolding through
same_ask queue another caller other subject line text words requestors persons usual first
    statuses names same =
    let any = filled_alike statuses names
    (as_many (λ status. bytes_eq status usual) (λ status. bytes_eq status first) statuses names
    same) in
    same_both (same_fields queue another caller other subject line text words requestors persons _ _
    any)
    (same_both (same_rows (status_row usual) (status_row first)
    (λ status. bytes_eq status usual) (λ status. bytes_eq status first)
    (λ status name. same_choice _ _ status name) statuses names same)
    (same_flags ASK_END.now refl _ _ _ _ (ap (λ flag. flag ∷ []) any)))

pub new_same : (queue another caller other : List ℕ) (moment later : ℕ) (usual first : List ℕ)
    (statuses names : List (List ℕ)) → usual_told usual statuses ≡ usual_told first names
    → SameMarkup (new_page queue caller moment usual statuses) (new_page another other later first
    names)
unfolding new_top through
new_same queue another caller other moment later usual first statuses names same =
    same_both (same_top TITLE.now TITLE.now Elsewhere caller other)
    (same_both (same_filled NEW_TOP.now refl _ _ _)
    (same_both (same_ask queue another caller other [] [] [] [] [] [] usual first statuses names
    same)
    (same_bottom moment later)))
