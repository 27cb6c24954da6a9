-- The page of a search: what is sought, and what was found.
use Rattle.std.specs.Prelude.{ℕ, ◌==◌, Bool, true, not, ◌&&◌, ◌||◌, List, [], ◌∷◌, ◌++◌, Option}
use Rattle.std.specs.Prelude.{codes}
use Rattle.find_form.specs.SearchFields.{is_word}
use Rattle.find_form.specs.declared.form.FindForm.{FindForm}
use Rattle.find_form.specs.declared.shown.FoundPage.{FoundPage}
use Rattle.find_form.specs.declared.shown.Start.{Start}
use Rattle.page_core.specs.Page.{Part}
use Rattle.page_core.specs.Template.{filled}
use Rattle.desk_pages.specs.Chips.{chips, chips_told}
use Rattle.desk_pages.specs.Frame.{bottom, top}
use Rattle.desk_pages.specs.Paging.{again_told, is_first, paging, paging_again, paging_told}
use Rattle.desk_pages.specs.Pills.{chosen_of, pills}
use Rattle.desk_pages.specs.Rows.{rows_told, table}
use Rattle.desk_pages.specs.Search.{chosen_in, search_form}
use Rattle.desk_pages.specs.Sought.{heading_of, is_set, place_of, title_of}
use Rattle.desk_pages.specs.declared.find.TheConstants.{CAPTION}
use Rattle.desk_pages.specs.declared.frame.Place.{Place}
use Rattle.desk_pages.specs.declared.frame.Place.TheVariants as place
use Rattle.desk_pages.specs.declared.markup.find.TheConstants.{FIND_FAULT, FIND_TOP}

abbrev pub title : List ℕ
title = codes "Find"

-- the heading, and in a queue the ways to the queues and to a new request
unfoldable pub heading : FindForm → List Part
heading form =
    filled FIND_TOP.now (heading_of form ∷ form.queue ∷ [])
    (is_word form.queue ∷ is_word form.queue ∷ [])

-- what stands above the content, with what is sought in the title, and the heading
unfoldable pub find_top : List ℕ → FindForm → List Part
find_top caller form = top (title_of form) (place_of form) caller ++ heading form

-- the form is unfolded where nothing is sought yet, and where nothing was found
abbrev pub is_unfolded : Start → FindForm → FoundPage → Bool
is_unfolded start form page =
    (page.count == 0) || (is_first start && not (is_set form))

-- what was found, and which of it the page shows above it, and below it too where there are other
-- pages
unfoldable pub found : List ℕ → ℕ → List ℕ → Start → FoundPage → List Part
found caller moment query start page =
    paging query start page
    ++ (table CAPTION.now caller moment page.rows ++ paging_again query start page)

-- what is sought by these fields, and what was found, from there on
abbrev pub find_page : List ℕ → ℕ → List ℕ → Start → FindForm → FoundPage → List Part
find_page caller moment query start form page =
    find_top caller form
    ++ (chips query form
    ++ (pills query form
    ++ (search_form (is_unfolded start form page) form
    ++ (found caller moment query start page ++ bottom moment))))

-- nothing is sought, for this reason; the form has what was typed
abbrev pub find_fault_page : List ℕ → ℕ → List ℕ → FindForm → List Part
find_fault_page caller moment sentence form =
    top title place.Find caller
    ++ (filled FIND_FAULT.now (sentence ∷ []) [] ++ (search_form true form ++ bottom moment))

-- what the markup of what was found tells: which list it is, and whether it is of a queue; whether it
-- is told what is sought, and which parts of it there are; which choices are the present ones;
-- whether the form is unfolded, and what is ticked and chosen in it; which other pages there are, and
-- what is told of the page; and what is told of the rows
pub record FoundTold : Type 0 where
  pub place : Place
  pub of_queue : Bool
  pub parts : Option (List Bool)
  pub chosen : List Bool
  pub unfolded : Bool
  pub typed : List Bool
  pub paging : List Bool
  pub again : Option (List Bool)
  pub rows : List (ℕ × Bool × Bool)

abbrev pub found_told : ℕ → Start → FindForm → FoundPage → FoundTold
found_told moment start form page =
    record {
      place = place_of form;
      of_queue = is_word form.queue;
      parts = chips_told form;
      chosen = chosen_of form;
      unfolded = is_unfolded start form page;
      typed = chosen_in form;
      paging = paging_told start page;
      again = again_told start page;
      rows = rows_told moment page.rows;
    }
