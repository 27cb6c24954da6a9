-- Which of what was found a page shows.
use Rattle.std.specs.Prelude.{ℕ, nat_lt, Bool, true, false, List, length, reverse, take}
use Rattle.std.specs.Prelude.{Option, Some, None, if◌then◌else◌, [], ◌∷◌}
use Rattle.std.specs.Option.{option_map}
use Rattle.find_core.specs.Places as places
use Rattle.find_core.specs.declared.search.Findings.{Findings}
use Rattle.find_core.specs.declared.search.Found.{Found}
use Rattle.find_core.specs.declared.search.Order.{Order}
use Rattle.find_core.specs.declared.search.Place.{Place}
use Rattle.find_form.specs.declared.shown.FoundPage.{FoundPage}
use Rattle.find_form.specs.declared.shown.Start.{Start}
use Rattle.find_form.specs.declared.shown.Start.TheVariants.{First, After, Before}

-- a page before a place is sought the other way round
abbrev pub is_back : Start → Bool
is_back (Before place) = true
is_back other = false

abbrev pub place_of : Start → Option Place
place_of First = None
place_of (After place) = Some place
place_of (Before place) = Some place

-- at most 100 rows; what was sought the other way round is turned
abbrev pub shown : Start → List Found → List Found
shown start rows = if is_back start then reverse (take 100 rows) else take 100 rows

-- there is something before the page, or after it, where there are more rows than it shows
abbrev pub has_earlier : Start → Bool → Bool
has_earlier First more = false
has_earlier (After place) more = true
has_earlier (Before place) more = more

abbrev pub has_later : Start → Bool → Bool
has_later (Before place) more = true
has_later other more = more

abbrev pub place_if : Bool → Order → Option Found → Option Place
place_if asked order row = if asked then option_map (places.place_of order) row else None

abbrev pub first_of : List Found → Option Found
first_of [] = None
first_of (row ∷ rows) = Some row

abbrev pub last_of : List Found → Option Found
last_of rows = first_of (reverse rows)

-- the page that begins there, of what was found for it
abbrev pub found_page : Order → Start → Findings → FoundPage
found_page order start findings =
    let rows = shown start findings.rows in
    let more = nat_lt 100 (length findings.rows) in
    record {
      rows = rows;
      count = findings.count;
      earlier = place_if (has_earlier start more) order (first_of rows);
      later = place_if (has_later start more) order (last_of rows);
    }
