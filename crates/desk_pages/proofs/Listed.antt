-- The markup of a table of requests.
use Rattle.std.proofs.Common.{◌≡◌, ◌∙◌, ℕ, Bool, true, false, List, [], ◌∷◌, refl, ap, sym}
use Rattle.find_core.specs.declared.search.Found.{Found}
use Rattle.page_core.specs.Markup.{SameMarkup}
use Rattle.page_core.specs.Template.{filled_from, markup_in, through}
use Rattle.page_core.proofs.Same.{same_both, same_count, same_filled, same_flags, same_rows}
use Rattle.page_core.proofs.Same.{same_shape}
use Rattle.desk_pages.specs.Rows.{asking, cells, row, row_end, row_told, row_top, rows_told, table}
use Rattle.desk_pages.specs.declared.markup.rows.TheConstants.{ASKING, ROW_CELLS, ROW_END}
use Rattle.desk_pages.specs.declared.markup.rows.TheConstants.{ROW_TOP, TABLE_TOP}
use Rattle.desk_pages.proofs.Tables.{same_due, same_table_end}

-- whose it is, and whether it is late, is told in a value alone
of_whom : (mine nobody late : Bool)
    → markup_in ROW_TOP.now (mine ∷ nobody ∷ late ∷ []) ≡ markup_in ROW_TOP.now []
unfolding filled_from markup_in
of_whom true true true = refl
of_whom true true false = refl
of_whom true false true = refl
of_whom true false false = refl
of_whom false true true = refl
of_whom false true false = refl
of_whom false false true = refl
of_whom false false false = refl

same_row_top : (caller other : List ℕ) (late now : Bool) (found another : Found)
    → SameMarkup (row_top caller late found) (row_top other now another)
unfolding row_top through
same_row_top caller other late now found another =
    same_shape ROW_TOP.now refl _ _ _ _ (of_whom _ _ _ ∙ sym (of_whom _ _ _))

same_asking : (person other : List ℕ) → SameMarkup (asking person) (asking other)
unfolding asking through
same_asking person other = same_filled ASKING.now refl _ _ _

same_cells : (found another : Found) → SameMarkup (cells found) (cells another)
unfolding cells through
same_cells found another = same_filled ROW_CELLS.now refl _ _ _

same_row_end : (late now : Bool) (by more last another : ℕ) → late ≡ now
    → SameMarkup (row_end late by last) (row_end now more another)
unfolding row_end through
same_row_end late now by more last another same =
    same_flags ROW_END.now refl _ _ _ _ (ap (λ flag. flag ∷ []) same)

same_row : (caller other : List ℕ) (moment later : ℕ) (found another : Found)
    → row_told moment found ≡ row_told later another
    → SameMarkup (row caller moment found) (row other later another)
unfolding row
same_row caller other moment later found another same =
    same_both (same_row_top caller other _ _ found another)
    (same_both
    (same_count asking asking same_asking found.requestors another.requestors (ap (λ told. told.0)
    same))
    (same_both (same_cells found another)
    (same_both (same_due found.due another.due (ap (λ told. told.1) same))
    (same_row_end _ _ _ _ found.last another.last (ap (λ told. told.2) same)))))

pub same_table : (caption title caller other : List ℕ) (moment later : ℕ) (rows others : List Found)
    → rows_told moment rows ≡ rows_told later others
    → SameMarkup (table caption caller moment rows) (table title other later others)
unfolding table through
same_table caption title caller other moment later rows others same =
    same_both (same_filled TABLE_TOP.now refl _ _ _)
    (same_both (same_rows (row caller moment) (row other later) (row_told moment) (row_told later)
    (same_row caller other moment later) rows others same) same_table_end)
