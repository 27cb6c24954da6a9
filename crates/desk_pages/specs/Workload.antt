-- The page of who has how much to do.
use Rattle.std.specs.Prelude.{ℕ, ◌==◌, not, Bool, List, [], ◌∷◌, ◌++◌, is_none, max, map, codes}
use Rattle.std.specs.Prelude.{decimal}
use Rattle.std.specs.List.{flat_map}
use Rattle.desk_model.specs.declared.answer.Load.{Load}
use Rattle.desk_texts.specs.Texts.Workload.{all_live, all_overdue}
use Rattle.desk_texts.specs.Words.{or_nobody}
use Rattle.page_core.specs.Page.{Part}
use Rattle.page_core.specs.Template.{filled}
use Rattle.desk_pages.specs.Frame.{bottom, top}
use Rattle.desk_pages.specs.Rows.{is_of}
use Rattle.desk_pages.specs.declared.frame.Place.TheVariants as place
use Rattle.desk_pages.specs.declared.markup.workload.TheConstants.{LOAD_BARS, LOAD_ROW}
use Rattle.desk_pages.specs.declared.markup.workload.TheConstants.{LOAD_TOP, LOAD_TOTAL}

-- whether there are any
abbrev pub is_any : ℕ → Bool
is_any count = not (count == 0)

-- the most that an owner has to do, which is the whole of a bar
abbrev pub most : List Load → ℕ
most [] = 0
most (load ∷ loads) = max load.live (most loads)

-- how much is open and late, as bars that are drawn to this scale
unfoldable pub bars : ℕ → Load → List Part
bars whole load =
    filled LOAD_BARS.now
    (decimal whole ∷ decimal load.live ∷ decimal load.live
    ∷ decimal whole ∷ decimal load.overdue ∷ decimal load.overdue ∷ []) []

-- a row of an owner, with links to what is counted
unfoldable pub load_row_of : List ℕ → Bool → ℕ → Load → List Part
load_row_of owner mine whole load =
    filled LOAD_ROW.now
    (owner ∷ owner
    ∷ owner ∷ decimal load.live
    ∷ owner ∷ decimal load.overdue ∷ [])
    (mine ∷ is_none load.owner ∷ is_any load.overdue ∷ [])
    ++ bars whole load

-- a row, for a caller
abbrev pub load_row : List ℕ → ℕ → Load → List Part
load_row caller whole load =
    load_row_of (or_nobody load.owner) (is_of caller load.owner) whole load

-- the last row: the sums of both columns, with links to what is counted
unfoldable pub total : List Load → List Part
total loads =
    filled LOAD_TOTAL.now (decimal (all_live loads) ∷ decimal (all_overdue loads) ∷ [])
    (is_any (all_overdue loads) ∷ [])

-- the page of who has how much to do, for a caller at a moment
abbrev pub workload_page : List ℕ → ℕ → List Load → List Part
workload_page caller moment loads =
    top (codes "Workload") place.Workload caller
    ++ (filled LOAD_TOP.now [] []
    ++ (flat_map (load_row caller (most loads)) loads ++ (total loads ++ bottom moment)))

-- of which owners anything is late, which is all that the markup tells of them
abbrev pub late_told : List Load → List Bool
late_told loads = map (λ load. is_any load.overdue) loads
