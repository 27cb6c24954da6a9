-- The markup of the pages of a search.
use Rattle.std.proofs.Common.{◌≡◌, ℕ, Bool, true, List, [], ◌∷◌, map, not, refl, ap}
use Rattle.find_form.specs.SearchFields.{is_word}
use Rattle.find_form.specs.declared.form.FindForm.{FindForm}
use Rattle.find_form.specs.declared.shown.FoundPage.{FoundPage}
use Rattle.find_form.specs.declared.shown.Start.{Start}
use Rattle.page_core.specs.Markup.{SameMarkup}
use Rattle.page_core.specs.Template.{through}
use Rattle.page_core.proofs.Same.{same_both, same_filled, same_flags, same_rows}
use Rattle.desk_pages.specs.Chips.{chip, chip_beside, chip_list, chips, chips_in, chips_told}
use Rattle.desk_pages.specs.Find.{find_fault_page, find_page, find_top, found, found_told, heading}
use Rattle.desk_pages.specs.Find.{is_unfolded, title}
use Rattle.desk_pages.specs.Paging.{again_told, is_whole, paging, paging_again, paging_told, ways}
use Rattle.desk_pages.specs.Pills.{choices, chosen_of, pills}
use Rattle.desk_pages.specs.Rows.{rows_told}
use Rattle.desk_pages.specs.Search.{chosen_in, search_form}
use Rattle.desk_pages.specs.Sought.{Told, is_told, place_of, title_of, told_in}
use Rattle.desk_pages.specs.declared.find.TheConstants.{CAPTION}
use Rattle.desk_pages.specs.declared.frame.Place.TheVariants.{Find}
use Rattle.desk_pages.specs.declared.markup.chips.TheConstants.{CHIP, CHIPS_END, CHIPS_TOP}
use Rattle.desk_pages.specs.declared.markup.find.TheConstants.{FIND_FAULT, FIND_TOP}
use Rattle.desk_pages.specs.declared.markup.paging.TheConstants.{PAGING}
use Rattle.desk_pages.specs.declared.markup.pills.TheConstants.{PILLS}
use Rattle.desk_pages.specs.declared.markup.search.TheConstants.{SEARCH}
use Rattle.desk_pages.proofs.Frames.{same_bottom, same_top, same_top_at}
use Rattle.desk_pages.proofs.Listed.{same_table}
use Rattle.desk_pages.proofs.Tables.{same_if}

same_form : (unfolded now : Bool) (form typed : FindForm) → unfolded ≡ now
    → chosen_in form ≡ chosen_in typed
    → SameMarkup (search_form unfolded form) (search_form now typed)
unfolding search_form through
same_form unfolded now form typed fold same =
    let flags : unfolded ∷ chosen_in form ≡ now ∷ chosen_in typed = cc in
    same_flags SEARCH.now refl _ _ _ _ flags

same_heading : (form typed : FindForm) → is_word form.queue ≡ is_word typed.queue
    → SameMarkup (heading form) (heading typed)
unfolding heading through
same_heading form typed same =
    same_flags FIND_TOP.now refl _ _ _ _ (ap (λ queue. queue ∷ queue ∷ []) same)

same_find_top : (caller other : List ℕ) (form typed : FindForm) → place_of form ≡ place_of typed
    → is_word form.queue ≡ is_word typed.queue
    → SameMarkup (find_top caller form) (find_top other typed)
unfolding find_top
same_find_top caller other form typed place queue =
    same_both (same_top_at (title_of form) (title_of typed) (place_of form) (place_of typed) caller
    other place) (same_heading form typed queue)

same_chip : (query asked : List ℕ) (part other : Told) → part.asked ≡ other.asked
    → SameMarkup (chip query part) (chip asked other)
unfolding chip_beside through
same_chip query asked part other same =
    same_flags CHIP.now refl _ _ _ _ (ap (λ flag. flag ∷ []) same)

same_chips : (query asked : List ℕ) (form typed : FindForm) → chips_told form ≡ chips_told typed
    → SameMarkup (chips query form) (chips asked typed)
unfolding chip_list chips_in through
same_chips query asked form typed same =
    same_if (is_told form) (is_told typed) (map (λ part. part.asked) (told_in form))
    (map (λ part. part.asked) (told_in typed)) _ _ same
    (λ parts. same_both (same_filled CHIPS_TOP.now refl _ _ _)
    (same_both (same_rows (chip query) (chip asked) (λ part. part.asked) (λ part. part.asked)
    (same_chip query asked) (told_in form) (told_in typed) parts)
    (same_filled CHIPS_END.now refl _ _ _)))

same_pills : (query asked : List ℕ) (form typed : FindForm) → chosen_of form ≡ chosen_of typed
    → SameMarkup (pills query form) (pills asked typed)
unfolding choices through
same_pills query asked form typed same = same_flags PILLS.now refl _ _ _ _ same

same_paging : (query asked : List ℕ) (start begin : Start) (page another : FoundPage)
    → paging_told start page ≡ paging_told begin another
    → SameMarkup (paging query start page) (paging asked begin another)
unfolding ways through
same_paging query asked start begin page another same = same_flags PAGING.now refl _ _ _ _ same

same_again : (query asked : List ℕ) (start begin : Start) (page another : FoundPage)
    → again_told start page ≡ again_told begin another
    → SameMarkup (paging_again query start page) (paging_again asked begin another)
same_again query asked start begin page another same =
    same_if (not (is_whole start page)) (not (is_whole begin another)) (paging_told start page)
    (paging_told begin another) _ _ same (same_paging query asked start begin page another)

same_found : (caller other : List ℕ) (moment later : ℕ) (query asked : List ℕ)
    (start begin : Start) (page another : FoundPage)
    → paging_told start page ≡ paging_told begin another
    → again_told start page ≡ again_told begin another
    → rows_told moment page.rows ≡ rows_told later another.rows
    → SameMarkup (found caller moment query start page) (found other later asked begin another)
unfolding found
same_found caller other moment later query asked start begin page another ways again rows =
    same_both (same_paging query asked start begin page another ways)
    (same_both (same_table CAPTION.now CAPTION.now caller other moment later page.rows another.rows
    rows) (same_again query asked start begin page another again))

pub find_same : (caller other : List ℕ) (moment later : ℕ) (query asked : List ℕ)
    (start begin : Start) (form typed : FindForm) (page another : FoundPage)
    → found_told moment start form page ≡ found_told later begin typed another
    → SameMarkup (find_page caller moment query start form page)
    (find_page other later asked begin typed another)
find_same caller other moment later query asked start begin form typed page another same =
    same_both (same_find_top caller other form typed (ap (λ told. told.place) same)
    (ap (λ told. told.of_queue) same))
    (same_both (same_chips query asked form typed (ap (λ told. told.parts) same))
    (same_both (same_pills query asked form typed (ap (λ told. told.chosen) same))
    (same_both (same_form (is_unfolded start form page) (is_unfolded begin typed another) form typed
    (ap (λ told. told.unfolded) same) (ap (λ told. told.typed) same))
    (same_both (same_found caller other moment later query asked start begin page another
    (ap (λ told. told.paging) same) (ap (λ told. told.again) same) (ap (λ told. told.rows) same))
    (same_bottom moment later)))))

pub find_fault_same : (caller other : List ℕ) (moment later : ℕ) (sentence words : List ℕ)
    (form typed : FindForm) → chosen_in form ≡ chosen_in typed
    → SameMarkup (find_fault_page caller moment sentence form) (find_fault_page other later words
    typed)
unfolding through
find_fault_same caller other moment later sentence words form typed same =
    same_both (same_top title title Find caller other)
    (same_both (same_filled FIND_FAULT.now refl _ _ _)
    (same_both (same_form true true form typed refl same) (same_bottom moment later)))
