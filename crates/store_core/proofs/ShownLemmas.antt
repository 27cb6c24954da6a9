-- The row of a request that a person may show, by the desk and by the person's view of it.
use Rattle.std.proofs.Common.{◌≡◌, ◌∙◌, ℕ, true, false, cond, List, [], Option, Some, None, filter}
use Rattle.std.proofs.Common.{is_some, option_map, option_to_list, refl, ap, sym}
use Rattle.settings_core.specs.declared.settings.Settings.{Settings}
use Rattle.desk_model.specs.Desk.{Desk, Request, request_at}
use Rattle.desk_model.specs.Facts.{seen_request}
use Rattle.desk_model.specs.IsDesk.{IsDesk}
use Rattle.desk_model.specs.Rights.{is_shown, may_show}
use Rattle.desk_model.specs.View.{as_seen, view}
use Rattle.desk_model.specs.declared.rows.RequestRow.{RequestRow}
use Rattle.desk_core.proofs.InView.{if_shown, in_view, is_shown_in}
use Rattle.store_tables.specs.Contents.{request_rows}
use Rattle.store_tables.specs.Contents.Request.{is_numbered}
use Rattle.store_core.proofs.FactsLemmas.{found_row}
use Rattle.store_core.proofs.FactsLemmasOfDesk.{no_request}
use Rattle.store_core.specs.Found.{request_row_at}

abbrev row_of : Option Request → Option RequestRow
row_of found = option_map (λ r. r.row) found

module _ (s : Settings) (person : List ℕ) where
  kept_row : (o : Option Request) (row : Option RequestRow) → row ≡ row_of o
      → cond (is_shown_in s person o) row None ≡ row_of (if_shown s person o)
  kept_row None row is = refl
  kept_row (Some r) row is =
      elim (may_show s person (seen_request r)) as (λ b. cond b row None
      ≡ row_of (cond b (Some (as_seen s person r)) None)) [
        | true ↦ is
        | false ↦ refl
      ]

  seen_row : (o : Option Request)
      → is_some (row_of (if_shown s person o)) ≡ is_shown_in s person o
  seen_row None = refl
  seen_row (Some r) =
      elim (may_show s person (seen_request r)) as (λ b.
      is_some (row_of (cond b (Some (as_seen s person r)) None)) ≡ b) [
        | true ↦ refl
        | false ↦ refl
      ]

  module _ (desk : Desk) (id : ℕ) (is : IsDesk desk) where
    of_view : row_of (if_shown s person (request_at desk id))
        ≡ request_row_at (view s person desk) id
    of_view = ap row_of (sym (in_view s person desk id is))

    -- a row that was read is told, if it may be shown
    pub row_kept : (row : RequestRow) → Some row ≡ row_of (request_at desk id)
        → cond (is_shown s person desk id) (Some row) None
        ≡ request_row_at (view s person desk) id
    row_kept row found = kept_row (request_at desk id) (Some row) found ∙ of_view

    pub row_absent : [] ≡ filter (is_numbered id) (request_rows desk)
        → None ≡ request_row_at (view s person desk) id
    row_absent none =
        ap (λ (o : Option Request). row_of (if_shown s person o)) (sym (no_request desk id none))
        ∙ of_view

    -- there is a row to be told where the request may be shown
    pub row_shows : is_some (request_row_at (view s person desk) id) ≡ is_shown s person desk id
    row_shows = ap is_some (sym of_view) ∙ seen_row (request_at desk id)
