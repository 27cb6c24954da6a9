-- The table `request`: its rows as values, with due moments and without, and their numbers.
use Rattle.std.proofs.Common.{◌≡◌, ◌<◌, ◌∷◌, [], length, ℕ, arith, inl, inr, refl}
use Rattle.sqlite.specs.Order.{Row}
use Rattle.desk_model.specs.declared.rows.RequestRow.{RequestRow}
use Rattle.store_tables.specs.Contents.Request.{request}
use Rattle.store_tables.specs.Contents.Request.{Dated, IsDatedRow, IsRequestRow, ReadsDated}
use Rattle.store_tables.specs.Contents.Request.{ReadsRequest, dated_row, dated_shown}
use Rattle.store_tables.specs.Contents.Request.{dated_shown_terms, last_id_terms, number_of}
use Rattle.store_tables.specs.Contents.Request.{request_shown, request_shown_terms, row_of}
use Rattle.store_tables.specs.Values.{IsNumberRow, ReadsCount, count_value}
use Rattle.store_tables.specs.Kept.{itself}
use Rattle.store_tables.specs.Picked.{shows}
use Rattle.store_tables.proofs.BackLemmas.{count_back}
use Rattle.store_tables.proofs.RowLemmas.{TableOf, table_of, part_of}
use Rattle.store_tables.proofs.ValueLemmas.{values_of}

pub dated_back : (a b : Dated) → ReadsDated (dated_shown a) b → b ≡ a
dated_back a b h = grind (arith, h)

-- requests with their due moments
abbrev pub dated_table : TableOf Dated Dated
dated_table = table_of request.tree dated_shown_terms dated_row itself dated_shown (λ c. c.dated) ReadsDated
    IsDatedRow dated_back (λ params k. refl) (λ params r. refl) (λ c db t. t.requests)
    (λ c db t. (values_of c t.values).dated) (λ db it. inr (inl it))

pub request_back : (a b : RequestRow) → ReadsRequest (request_shown a) b → b ≡ a
request_back a b h = grind (arith, h)

-- and without: what is a row with one is a row without
pub shown_request : (x : Dated) → IsDatedRow (dated_shown x) → IsRequestRow (request_shown x.0)
shown_request x is = let wide : 9 < length (request_shown x.0) = omega arith in assumption

pub row_request : (r : Row) → IsDatedRow (shows dated_shown_terms [] r)
    → IsRequestRow (shows request_shown_terms [] r)
row_request r is =
    let wide : 9 < length (shows request_shown_terms [] r) = omega arith in assumption

abbrev pub request_table : TableOf Dated RequestRow
request_table = part_of dated_table request_shown_terms row_of request_shown ReadsRequest
    IsRequestRow request_back (λ params k. refl) (λ params r. refl) shown_request row_request

-- the numbers of requests
abbrev pub id_table : TableOf Dated ℕ
id_table = part_of request_table last_id_terms number_of (λ n. count_value n ∷ []) ReadsCount
    IsNumberRow count_back (λ params k. refl) (λ params r. refl)
    (λ x is. record { wide = omega arith; number = is.id })
    (λ r is. record { wide = omega arith; number = is.id })
