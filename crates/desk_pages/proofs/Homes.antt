-- The markup of the first page.
use Rattle.std.proofs.Common.{◌≡◌, ℕ, false, List, [], ◌∷◌, codes, length, map, refl, ap}
use Rattle.find_core.specs.declared.loads.QueueLoad.{QueueLoad}
use Rattle.find_core.specs.declared.search.Findings.{Findings}
use Rattle.page_core.specs.Markup.{SameMarkup}
use Rattle.page_core.specs.Template.{through}
use Rattle.page_core.proofs.Same.{same_both, same_count, same_filled, same_flags, same_rows}
use Rattle.desk_pages.specs.Home.{choices, home_page, home_told, lists, opening, queue_row, queues}
use Rattle.desk_pages.specs.Home.{section, section_told}
use Rattle.desk_pages.specs.Pieces.{choice}
use Rattle.desk_pages.specs.Rows.{rows_told}
use Rattle.desk_pages.specs.Workload.{is_any}
use Rattle.desk_pages.specs.declared.frame.Place.TheVariants.{Home}
use Rattle.desk_pages.specs.declared.markup.home.TheConstants.{HOME_TOP, OPENING_END}
use Rattle.desk_pages.specs.declared.markup.home.TheConstants.{OPENING_LEVELS, OPENING_TOP}
use Rattle.desk_pages.specs.declared.markup.home.TheConstants.{QUEUE_ROW, QUEUES_END, QUEUES_TOP}
use Rattle.desk_pages.specs.declared.markup.home.TheConstants.{REST, SECTION}
use Rattle.desk_pages.proofs.Frames.{same_bottom, same_top}
use Rattle.desk_pages.proofs.Listed.{same_table}
use Rattle.desk_pages.proofs.Tables.{same_choice, same_if}

same_section : (title other query asked caller another : List ℕ) (moment later : ℕ)
    (found more : Findings) → section_told moment found ≡ section_told later more
    → SameMarkup (section title query caller moment found) (section other asked another later more)
unfolding section through
same_section title other query asked caller another moment later found more same =
    same_both (same_filled SECTION.now refl _ _ _)
    (same_if (is_any found.count) (is_any more.count) (rows_told moment found.rows)
    (rows_told later more.rows) _ _ same
    (λ rows. same_both (same_table title other caller another moment later found.rows more.rows
    rows)
    (same_filled REST.now refl _ _ _)))

same_lists : (caller other : List ℕ) (moment later : ℕ) (own owned asked sought : Findings)
    → section_told moment own ≡ section_told later owned
    → section_told moment asked ≡ section_told later sought
    → SameMarkup (lists caller moment own asked) (lists other later owned sought)
unfolding lists through
same_lists caller other moment later own owned asked sought first second =
    same_both (same_filled HOME_TOP.now refl _ _ _)
    (same_both (same_section _ _ _ _ caller other moment later own owned first)
    (same_section _ _ _ _ caller other moment later asked sought second))

same_queue_row : (load other : QueueLoad) → is_any load.late ≡ is_any other.late
    → SameMarkup (queue_row load) (queue_row other)
unfolding queue_row through
same_queue_row load other same =
    same_flags QUEUE_ROW.now refl _ _ _ _ (ap (λ flag. flag ∷ []) same)

same_queues : (loads others : List QueueLoad)
    → map (λ load. is_any load.late) loads ≡ map (λ load. is_any load.late) others
    → SameMarkup (queues loads) (queues others)
unfolding queues through
same_queues loads others same =
    same_both (same_filled QUEUES_TOP.now refl _ _ _)
    (same_both (same_rows queue_row queue_row (λ load. is_any load.late) (λ load. is_any load.late)
    same_queue_row loads others same) (same_filled QUEUES_END.now refl _ _ _))

same_choices : (names others : List (List ℕ)) → length names ≡ length others
    → SameMarkup (choices names) (choices others)
same_choices names others many =
    same_count (choice false) (choice false) (λ name other. same_choice false false name other refl)
    names others many

same_opening : (caller person : List ℕ) (lifecycles others levels more : List (List ℕ))
    → length lifecycles ≡ length others → length levels ≡ length more
    → SameMarkup (opening caller lifecycles levels) (opening person others more)
unfolding opening through
same_opening caller person lifecycles others levels more first second =
    same_both (same_filled OPENING_TOP.now refl _ _ _)
    (same_both (same_choices lifecycles others first)
    (same_both (same_filled OPENING_LEVELS.now refl _ _ _)
    (same_both (same_choices levels more second) (same_filled OPENING_END.now refl _ _ _))))

pub home_same : (caller other : List ℕ) (moment later : ℕ) (own owned asked sought : Findings)
    (loads others : List QueueLoad) (free unowned : Findings)
    (lifecycles cycles levels more : List (List ℕ))
    → home_told moment own asked loads free lifecycles levels
    ≡ home_told later owned sought others unowned cycles more
    → SameMarkup (home_page caller moment own asked loads free lifecycles levels)
    (home_page other later owned sought others unowned cycles more)
home_same caller other moment later own owned asked sought loads others free unowned lifecycles
    cycles levels more same =
    same_both (same_top (codes "Home") (codes "Home") Home caller other)
    (same_both (same_lists caller other moment later own owned asked sought
    (ap (λ told. told.own) same) (ap (λ told. told.asked) same))
    (same_both (same_queues loads others (ap (λ told. told.late) same))
    (same_both (same_section _ _ _ _ caller other moment later free unowned (ap (λ told.
    told.free) same))
    (same_both (same_opening caller other lifecycles cycles levels more (ap (λ told. told.lifecycles) same)
    (ap (λ told. told.levels) same)) (same_bottom moment later)))))
