-- What is read of one request, in order, is its part of the whole: its history, and its stays.
use Rattle.std.proofs.Common.{◌≡◌, ◌∙◌, ◌+◌, ℕ, List, [], ◌∷◌, map, filter, None, Option, Some, ap}
use Rattle.std.proofs.Common.{refl, Less}
use Rattle.std.proofs.lemmas.Cmp.{nat_cmp_total, on_total}
use Rattle.std.specs.Option.{option_map_or}
use Rattle.sqlite_rules.proofs.ListLemmas.{has_found, test_has}
use Rattle.sqlite_trees.proofs.ListLemmas.{all_of}
use Rattle.sqlite_trees.specs.Tree.{IsAscending}
use Rattle.hours_core.specs.declared.stay.Stay.{Stay}
use Rattle.desk_model.specs.declared.rows.Entry.{Entry}
use Rattle.desk_model.specs.Desk.{Desk, Request, request_at}
use Rattle.desk_model.specs.Facts.{stays_at}
use Rattle.desk_model.specs.IsDesk.{IsDesk, has_its_entries}
use Rattle.desk_model.specs.Stays.{stays_of}
use Rattle.store_tables.specs.Contents.{entries, history_at}
use Rattle.store_tables.specs.Contents.Entry.{by_number, tells_of}
use Rattle.store_tables.specs.Contents.Stay.{by_stay, by_stay_number, is_of, request_stay, stay_of}
use Rattle.store_tables.specs.Contents.Stay.{stay_rows_from, stays}
use Rattle.store_tables.specs.Picked.{AreOrdered, AreParts}
use Rattle.store_core.proofs.StaysWritten.{rows_of}
use Rattle.store_core.specs.Found.{has_number}
use Rattle.store_core.proofs.FactsLemmas.{part_is}
use Rattle.store_core.proofs.RiseLemmas.{entries_numbered, stays_numbered, numbers_rise, stay_total}
use Rattle.store_core.proofs.RiseLemmas.{own_entries, all_tested, stays_rise, own_stays, the_list}

-- ---- histories

-- what each request's part is, is so of the request that is found, if one is
found_part : {X : Type 0} (P : List X → Type 0) (part : Request → List X) (o : Option Request)
    → P [] → ((r : Request) → o ≡ Some r → P (part r)) → P (option_map_or part o [])
found_part P part None none some = none
found_part P part (Some r) none some = some r refl

pub the_history : (desk : Desk) → IsDesk desk → (id : ℕ) (ys : List Entry)
    → AreOrdered by_number (filter (tells_of id) (entries desk)) ys → ys ≡ history_at desk id
the_history desk is id ys h =
    let same = part_is (λ r. r.entries) (λ e. e.id) desk is
    (all_tested has_its_entries _ own_entries _ is.entries) id in
    the_list (on_total (λ e. e.number) nat_cmp_total) (history_at desk id) ys
    (found_part (IsAscending (λ a b. by_number a b ≡ Less)) (λ r. r.entries) (request_at desk id) tt
    (λ r found. numbers_rise (λ e. e.number) 1 r.entries (entries_numbered r
    (test_has has_its_entries _ r is.entries (has_found (has_number id) desk.requests r found).0))))
    (rw same at h)

-- ---- stays

stays_alone : (id n : ℕ) (ss : List Stay) → map stay_of (stay_rows_from id n ss) ≡ ss
stays_alone id n [] = refl
stays_alone id n (s ∷ ss) = ap (λ (rest : List Stay). s ∷ rest) (stays_alone id (n + 1) ss)

rows_alone : (o : Option Request)
    → map stay_of (option_map_or rows_of o []) ≡ option_map_or (λ r. stays_of r.entries) o []
rows_alone None = refl
rows_alone (Some r) = stays_alone r.row.id 1 (stays_of r.entries)

pub the_stays_of : (desk : Desk) → IsDesk desk → (id : ℕ) (ys : List Stay)
    → AreParts stay_of by_stay_number (filter (is_of id) (stays desk)) ys → ys ≡ stays_at desk id
the_stays_of desk is id ys h =
    let same = part_is rows_of (λ s. s.request) desk is
    (all_of _ (λ r. own_stays r.row.id 1 (stays_of r.entries)) _) id in
    h.are ∙ ap (map stay_of) (the_list (on_total (λ s. s.number) nat_cmp_total) _ h.values
    (found_part (IsAscending (λ a b. by_stay_number a b ≡ Less)) rows_of (request_at desk id) tt
    (λ r found. stays_numbered r.row.id 1 (stays_of r.entries))) (rw same at h.ordered))
    ∙ rows_alone (request_at desk id)

pub the_stays : (desk : Desk) → IsDesk desk → (ys : List (ℕ × Stay))
    → AreParts request_stay by_stay (stays desk) ys → ys ≡ map request_stay (stays desk)
the_stays desk is ys h =
    h.are ∙ ap (map request_stay) (the_list stay_total _ h.values (stays_rise desk is) h.ordered)
