-- The first page: what the caller owns and asked for, the queues, and what nobody owns.
use Rattle.std.specs.Prelude.{ℕ, Bool, false, List, [], ◌∷◌, ◌++◌, Option, Some, None, length, map}
use Rattle.std.specs.Prelude.{unwrap_or, codes, decimal, if◌then◌else◌}
use Rattle.std.specs.List.{flat_map}
use Rattle.find_core.specs.declared.loads.QueueLoad.{QueueLoad}
use Rattle.find_core.specs.declared.search.Findings.{Findings}
use Rattle.page_core.specs.Page.{Part}
use Rattle.page_core.specs.Template.{filled}
use Rattle.desk_pages.specs.Frame.{bottom, top}
use Rattle.desk_pages.specs.Pieces.{choice, dash, parts_if}
use Rattle.desk_pages.specs.Rows.{rows_told, table}
use Rattle.desk_pages.specs.Workload.{is_any}
use Rattle.desk_pages.specs.declared.frame.Place.TheVariants as place
use Rattle.desk_pages.specs.declared.home.TheConstants.{ASKED, ASKED_QUERY, FREE, FREE_QUERY, OWN}
use Rattle.desk_pages.specs.declared.home.TheConstants.{OWN_QUERY}
use Rattle.desk_pages.specs.declared.markup.home.TheConstants.{HOME_TOP, OPENING_END}
use Rattle.desk_pages.specs.declared.markup.home.TheConstants.{OPENING_LEVELS, OPENING_TOP}
use Rattle.desk_pages.specs.declared.markup.home.TheConstants.{QUEUE_ROW, QUEUES_END, QUEUES_TOP}
use Rattle.desk_pages.specs.declared.markup.home.TheConstants.{REST, SECTION}

-- a list: how many there are, and the first of them if there are any
unfoldable pub section : List ℕ → List ℕ → List ℕ → ℕ → Findings → List Part
section title query caller moment found =
    filled SECTION.now (title ∷ decimal found.count ∷ []) []
    ++ parts_if (is_any found.count)
    (table title caller moment found.rows ++ filled REST.now (query ∷ []) [])

-- the heading, what the caller owns, and what the caller asked for
unfoldable pub lists : List ℕ → ℕ → Findings → Findings → List Part
lists caller moment own asked =
    filled HOME_TOP.now [] []
    ++ (section OWN.now OWN_QUERY.now caller moment own
    ++ section ASKED.now ASKED_QUERY.now caller moment asked)

-- the queues, with links to what is counted
unfoldable pub queue_row : QueueLoad → List Part
queue_row load =
    filled QUEUE_ROW.now
    (load.queue.name ∷ load.queue.name ∷ load.queue.name ∷ decimal load.«open»
    ∷ load.queue.name ∷ decimal load.late ∷ unwrap_or load.queue.level dash ∷ load.queue.name ∷ load.queue.name ∷ [])
    (is_any load.late ∷ [])

unfoldable pub queues : List QueueLoad → List Part
queues loads =
    filled QUEUES_TOP.now [] [] ++ (flat_map queue_row loads ++ filled QUEUES_END.now [] [])

-- the form for another queue
abbrev pub choices : List (List ℕ) → List Part
choices names = flat_map (choice false) names

unfoldable pub opening : List ℕ → List (List ℕ) → List (List ℕ) → List Part
opening caller lifecycles levels =
    filled OPENING_TOP.now (caller ∷ []) []
    ++ (choices lifecycles
    ++ (filled OPENING_LEVELS.now [] [] ++ (choices levels ++ filled OPENING_END.now [] [])))

-- the first page, for a caller at a moment: what the caller owns and asked for, what each queue has,
-- what nobody owns, and the names of lifecycles and levels
abbrev pub home_page : List ℕ → ℕ → Findings → Findings → List QueueLoad → Findings
    → List (List ℕ) → List (List ℕ) → List Part
home_page caller moment own asked loads free lifecycles levels =
    top (codes "Home") place.Home caller
    ++ (lists caller moment own asked
    ++ (queues loads
    ++ (section FREE.now FREE_QUERY.now caller moment free
    ++ (opening caller lifecycles levels ++ bottom moment))))

-- what the markup of a list tells: whether there is any, and what is told of its rows
abbrev pub section_told : ℕ → Findings → Option (List (ℕ × Bool × Bool))
section_told moment found =
    if is_any found.count then Some (rows_told moment found.rows) else None

-- what the markup of the page tells: of its lists, in which queues anything is late, and how many
-- lifecycles and levels there are
pub record HomeTold : Type 0 where
  pub own : Option (List (ℕ × Bool × Bool))
  pub asked : Option (List (ℕ × Bool × Bool))
  pub late : List Bool
  pub free : Option (List (ℕ × Bool × Bool))
  pub lifecycles : ℕ
  pub levels : ℕ

abbrev pub home_told : ℕ → Findings → Findings → List QueueLoad → Findings → List (List ℕ)
    → List (List ℕ) → HomeTold
home_told moment own asked loads free lifecycles levels =
    record {
      own = section_told moment own;
      asked = section_told moment asked;
      late = map (λ load. is_any load.late) loads;
      free = section_told moment free;
      lifecycles = length lifecycles;
      levels = length levels;
    }
