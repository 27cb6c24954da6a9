-- How many were found, which of them the page shows, and the ways to other pages of them.
use Rattle.std.specs.Prelude.{ℕ, ◌-◌, ◌==◌, Bool, true, false, not, ◌&&◌, ◌||◌, if◌then◌else◌}
use Rattle.std.specs.Prelude.{List, [], ◌∷◌, length, Option, Some, None, unwrap_or, decimal}
use Rattle.std.specs.Prelude.{is_none, is_some}
use Rattle.std.specs.Option.{option_map}
use Rattle.find_core.specs.declared.search.Place.{Place}
use Rattle.find_form.specs.Address.{place_text}
use Rattle.find_form.specs.declared.shown.FoundPage.{FoundPage}
use Rattle.find_form.specs.declared.shown.Start.{Start}
use Rattle.find_form.specs.declared.shown.Start.TheVariants.{First}
use Rattle.page_core.specs.Page.{Part}
use Rattle.page_core.specs.Template.{filled}
use Rattle.desk_pages.specs.Pieces.{is_filled, parts_if}
use Rattle.desk_pages.specs.declared.markup.paging.TheConstants.{PAGING}

abbrev pub is_first : Start → Bool
is_first First = true
is_first other = false

-- there are no other pages
abbrev pub is_whole : Start → FoundPage → Bool
is_whole start page = is_first start && is_none page.later

-- the page begins with the first of all, or ends with the last: it has rows, and there is no page
-- before it, or after it
abbrev pub begins : FoundPage → Bool
begins page = is_none page.earlier && is_filled page.rows

abbrev pub ends : FoundPage → Bool
ends page = is_none page.later && is_filled page.rows

-- which of all are the first and the last of such a page
abbrev pub first_of : FoundPage → ℕ
first_of page = if begins page then 1 else page.count - (length page.rows - 1)

abbrev pub last_of : FoundPage → ℕ
last_of page = if begins page then length page.rows else page.count

-- what is told: that it is one, all of them, which ones or how many; and which ways there are: to the
-- first page, to the page before this one, to that after it
abbrev pub paging_told : Start → FoundPage → List Bool
paging_told start page =
    (is_whole start page && (page.count == 1))
    ∷ (is_whole start page && not (page.count == 1))
    ∷ (not (is_whole start page) && (begins page || ends page))
    ∷ (not (is_whole start page) && not (begins page || ends page))
    ∷ not (is_first start) ∷ is_some page.earlier ∷ is_some page.later ∷ []

-- from where on, in an address; nothing where there is no such page
abbrev pub place_or_none : Option Place → List ℕ
place_or_none place = unwrap_or (option_map place_text place) []

unfoldable pub ways : List ℕ → List ℕ → List ℕ → Start → FoundPage → List Part
ways query earlier later start page =
    filled PAGING.now
    (decimal page.count
    ∷ decimal (first_of page) ∷ decimal (last_of page) ∷ decimal page.count
    ∷ decimal (length page.rows) ∷ decimal page.count
    ∷ query ∷ earlier ∷ query ∷ later ∷ query ∷ [])
    (paging_told start page)

abbrev pub paging : List ℕ → Start → FoundPage → List Part
paging query start page =
    ways query (place_or_none page.earlier) (place_or_none page.later) start page

-- the same where there are other pages
abbrev pub paging_again : List ℕ → Start → FoundPage → List Part
paging_again query start page = parts_if (not (is_whole start page)) (paging query start page)

-- what its markup tells: whether there are other pages, and then what is told of them
abbrev pub again_told : Start → FoundPage → Option (List Bool)
again_told start page =
    if not (is_whole start page) then Some (paging_told start page) else None
