-- The markup of the moves that are offered.
use Rattle.std.proofs.Common.{◌≡◌, ◌∙◌, ℕ, Bool, false, ◌||◌, List, [], ◌∷◌, Option, Some, None}
use Rattle.std.proofs.Common.{map, refl, ap}
use Rattle.std.specs.List.{list_any}
use Rattle.lifecycle_core.specs.declared.parts.Parts.{Parts}
use Rattle.settings_core.specs.declared.settings.Settings.{Settings}
use Rattle.desk_model.specs.declared.answer.Shown.{Shown}
use Rattle.page_core.specs.Markup.{SameMarkup}
use Rattle.page_core.specs.Template.{through}
use Rattle.page_core.proofs.Same.{same_both, same_filled, same_flags, same_none, same_rows}
use Rattle.desk_pages.specs.Moves.{closings, folded, leads_on, may_go, move_form, moves}
use Rattle.desk_pages.specs.Moves.{moves_told, offer, offers, offers_told}
use Rattle.desk_pages.specs.declared.markup.moves.TheConstants.{FOLD_END, FOLD_TOP, MOVES_END}
use Rattle.desk_pages.specs.declared.markup.moves.TheConstants.{MOVES_TOP, OFFER}
use Rattle.desk_pages.proofs.Tables.{same_if}

same_offer : (lifecycle other : Parts) (may can : List ℕ → Bool) (to on : List ℕ)
    → may to ≡ can on
    → SameMarkup (offer lifecycle may to) (offer other can on)
unfolding offer through
same_offer lifecycle other may can to on same =
    same_flags OFFER.now refl _ _ _ _ (ap (λ flag. flag ∷ []) same)

same_offers : (lifecycle other : Parts) (may can : List ℕ → Bool) (statuses names : List (List ℕ))
    → map may statuses ≡ map can names
    → SameMarkup (offers lifecycle may statuses) (offers other can names)
same_offers lifecycle other may can statuses names same =
    same_rows (offer lifecycle may) (offer other can) may can
    (same_offer lifecycle other may can) statuses names same

any_same : (test other : List ℕ → Bool) (xs ys : List (List ℕ)) → map test xs ≡ map other ys
    → list_any test xs ≡ list_any other ys
any_same test other [] [] same = refl
any_same test other [] (y ∷ ys) same = absurd (cc)
any_same test other (x ∷ xs) [] same = absurd (cc)
any_same test other (x ∷ xs) (y ∷ ys) same =
    let head : test x ≡ other y = cc in
    let tail : map test xs ≡ map other ys = cc in
    ap (λ first. first || list_any test xs) head
    ∙ ap (λ rest. other y || rest) (any_same test other xs ys tail)

same_folded : (lifecycle other : Parts) (may can : List ℕ → Bool) (statuses names : List (List ℕ))
    → map may statuses ≡ map can names
    → SameMarkup (folded lifecycle may statuses) (folded other can names)
unfolding folded through
same_folded lifecycle other may can statuses names same =
    let any = any_same may can statuses names same in
    same_both (same_flags FOLD_TOP.now refl _ _ _ _ (ap (λ flag. flag ∷ []) any))
    (same_both (same_offers lifecycle other may can statuses names same)
    (same_flags FOLD_END.now refl _ _ _ _ (ap (λ flag. flag ∷ []) any)))

same_closings : (lifecycle other : Parts) (may can : List ℕ → Bool) (statuses names : List (List ℕ))
    → map may statuses ≡ map can names
    → SameMarkup (closings lifecycle may statuses) (closings other can names)
same_closings lifecycle other may can [] [] same = same_none
same_closings lifecycle other may can [] (y ∷ ys) same = absurd (cc)
same_closings lifecycle other may can (x ∷ xs) [] same = absurd (cc)
same_closings lifecycle other may can (x ∷ xs) (y ∷ ys) same =
    let head : may x ≡ can y = cc in
    let tail : map may xs ≡ map can ys = cc in
    same_both (same_offer lifecycle other may can x y head)
    (same_folded lifecycle other may can xs ys tail)

same_form : (id another : ℕ) (caller person : List ℕ) (lifecycle other : Parts) (may can : List ℕ → Bool)
    → offers_told lifecycle may ≡ offers_told other can
    → SameMarkup (move_form id caller lifecycle may)
    (move_form another person other can)
unfolding move_form through
same_form id another caller person lifecycle other may can same =
    let first : map may lifecycle.initial ≡ map can other.initial = cc in
    let second : map may lifecycle.active ≡ map can other.active = cc in
    let third : map may lifecycle.inactive ≡ map can other.inactive = cc in
    same_both (same_filled MOVES_TOP.now refl _ _ _)
    (same_both (same_offers lifecycle other may can lifecycle.initial other.initial first)
    (same_both (same_offers lifecycle other may can lifecycle.active other.active second)
    (same_both (same_closings lifecycle other may can lifecycle.inactive other.inactive third)
    (same_filled MOVES_END.now refl _ _ _))))

pub same_moves : (id another : ℕ) (settings rules : Settings) (shown file : Shown)
    (caller person : List ℕ) (lifecycle other : Option Parts)
    → moves_told settings shown caller lifecycle ≡ moves_told rules file person other
    → SameMarkup (moves id settings shown caller lifecycle) (moves another rules file person other)
same_moves id another settings rules shown file caller person None None same = same_none
same_moves id another settings rules shown file caller person None (Some other) same =
    let can = may_go rules file person other in
    same_if false (leads_on other can) [] (offers_told other can) [] (move_form another person other can)
    same (λ told. absurd (cc))
same_moves id another settings rules shown file caller person (Some lifecycle) None same =
    let may = may_go settings shown caller lifecycle in
    same_if (leads_on lifecycle may) false (offers_told lifecycle may) []
    (move_form id caller lifecycle may) [] same (λ told. absurd (cc))
same_moves id another settings rules shown file caller person (Some lifecycle) (Some other) same =
    let may = may_go settings shown caller lifecycle in
    let can = may_go rules file person other in
    same_if (leads_on lifecycle may) (leads_on other can) (offers_told lifecycle may)
    (offers_told other can) (move_form id caller lifecycle may) (move_form another person other can) same
    (same_form id another caller person lifecycle other may can)
