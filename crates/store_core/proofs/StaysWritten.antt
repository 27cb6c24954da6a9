-- The stays that a change writes are those of the desk after it.
use Rattle.std.proofs.Common.{◌≡◌, ◌∙◌, ℕ, ◌+◌, ◌<◌, ◌==◌, false, List, [], ◌∷◌, ◌++◌, map, is_some}
use Rattle.std.proofs.Common.{eq-eqb, length-append, flat_map, length, refl, arith, ap}
use Rattle.std.proofs.Common.{IsPermutation, true, fold, Option, Some, None, sym, slice_get}
use Rattle.std.proofs.lemmas.Bool.Decides.{nat_tests}
use Rattle.std.proofs.lemmas.List.Sorted.{IsPermutation-sym, IsPermutation-to_front}
use Rattle.std.proofs.lemmas.List.Sorted.{IsPermutation-refl}
use Rattle.std.proofs.lemmas.List.Elements.{recursion_from_All}
use Rattle.sqlite_trees.proofs.ListLemmas.{map-flat_map, flat_map-map, flat_map_same_on}
use Rattle.sqlite_rules.specs.Lists.{Has}
use Rattle.sqlite_rules.proofs.ListLemmas.{all_has}
use Rattle.hours_core.specs.declared.stay.Stay.{Stay}
use Rattle.desk_model.specs.Desk.{Request, Desk, request_at}
use Rattle.desk_model.specs.Stays.{stays_of}
use Rattle.desk_core.proofs.Begun.{closed, beginning_for, none_more, one_more, open_stay}
use Rattle.desk_model.specs.Change.{applied, request_filed}
use Rattle.desk_model.specs.Dated.{either_row}
use Rattle.desk_model.specs.Facts.{stays_at}
use Rattle.desk_model.specs.IsDesk.{are_numbered, ids}
use Rattle.desk_model.specs.declared.change.Change.{Change}
use Rattle.desk_model.specs.declared.rows.Entry.{Entry}
use Rattle.desk_core.specs.Carried.{IsOneOf, KeepsStays, beginning}
use Rattle.desk_core.proofs.Changed.{entries_changed, entries_for, id_changed, requests_after}
use Rattle.desk_core.proofs.EachRequest.{found_each}
use Rattle.desk_core.proofs.Goes.{number_found}
use Rattle.store_tables.specs.Contents.Stay.{StayRow, stay_row, stay_rows, stay_rows_from, stays}
use Rattle.store_tables.specs.Contents.Stay.{with_end}
use Rattle.store_tables.specs.Contents.{Contents, add_entry, add_stay, add_watcher, drop_watcher}
use Rattle.store_core.proofs.FactsLemmas.{find-map}
use Rattle.store_core.proofs.Revised.{none_filed, one_more as one_differs, there_by_number}
use Rattle.store_core.specs.Written.{begun_on, last_of, rows_written, stay_begun, stay_ended}
use Rattle.store_core.specs.Written.{stay_put}

-- the stays of a request, as rows
abbrev pub rows_of : Request → List StayRow
rows_of r = stay_rows r.row.id (stays_of r.entries)

-- ---- one stay gets its end

-- no stay of another request, and none that comes later
others_kept : (id number until other n : ℕ) (ss : List Stay) → ((other == id) ≡ true → number < n)
    → map (with_end id number until) (stay_rows_from other n ss) ≡ stay_rows_from other n ss
others_kept id number until other n [] low = refl
others_kept id number until other n (s ∷ ss) low =
    let later = others_kept id number until other (n + 1) ss (λ is. omega (arith, low is)) in
    grind (arith, nat_tests, low, later)

-- of the request itself the last one
last_ended : (id number until n : ℕ) (ss : List Stay) → number + 1 ≡ n + length ss
    → map (with_end id number until) (stay_rows_from id n ss)
    ≡ stay_rows_from id n (closed ss until)
last_ended id number until n [] last = refl
last_ended id number until n (s ∷ []) last = grind (arith, nat_tests)
last_ended id number until n (s ∷ t ∷ ss) last =
    grind (arith, nat_tests, last_ended id number until (n + 1) (t ∷ ss))

-- ---- one more stay

one_more_row : (id n : ℕ) (ss : List Stay) (s : Stay) → stay_rows_from id n (ss ++ s ∷ [])
    ≡ stay_rows_from id n ss ++ stay_row id (n + length ss) s ∷ []
one_more_row id n [] s = grind arith
one_more_row id n (t ∷ ss) s = grind (arith, one_more_row id (n + 1) ss s)

pub closed_length : (ss : List Stay) (until : ℕ) → length (closed ss until) ≡ length ss
closed_length [] until = refl
closed_length (s ∷ []) until = refl
closed_length (s ∷ t ∷ ss) until = omega (arith, closed_length (t ∷ ss) until)

-- ---- the rows of a change leave the stays

-- what each step leaves of a part of them, all of them leave
pub by_each : {X Y : Type 0} (part : Contents → Y) (step : Contents → X → Contents)
    → ((c : Contents) (x : X) → part (step c x) ≡ part c) → (xs : List X) (c : Contents)
    → part (fold step c xs) ≡ part c
by_each part step leaves [] c = refl
by_each part step leaves (x ∷ xs) c =
    by_each part step leaves xs (step c x) ∙ leaves c x

pub stays_left : (change : Change) (c : Contents) → (rows_written change c).stays ≡ c.stays
stays_left change c =
    let of_stays = λ (d : Contents). d.stays in
    let noted = by_each of_stays add_entry (λ c e. refl) in
    let taken = by_each of_stays drop_watcher (λ c w. refl) in
    grind (arith, noted, taken, by_each of_stays add_watcher (λ c w. refl))

-- ---- on which request a stay begins

abbrev first_on : List Entry → Option ℕ
first_on [] = None
first_on (e ∷ es) = Some e.id

begun_first : (es : List Entry) → begun_on es ≡ first_on (beginning es)
begun_first [] = refl
begun_first (e ∷ es) = grind (arith, begun_first es)

-- ---- the stays of each request after a change

abbrev wider : Change → Desk → Desk
wider change desk = request_filed change.filed desk

abbrev stays_later : Change → Request → List Stay
stays_later change r = stays_of (r.entries ++ entries_for r.row.id change.entries)

abbrev rows_later : Change → Request → List StayRow
rows_later change r = stay_rows r.row.id (stays_later change r)

all_later : (change : Change) (desk : Desk)
    → stays (applied change desk) ≡ flat_map (rows_later change) (wider change desk).requests
all_later change desk =
    rw (requests_after change desk, flat_map-map)
    (simp (id_changed change, entries_changed change))

-- its stays are those of the desk there
there_later : (change : Change) (desk : Desk) (id : ℕ) (r : Request)
    → request_at (wider change desk) id ≡ Some r
    → stays_at (applied change desk) id ≡ stays_later change r
there_later change desk id r there =
    rw (requests_after change desk) (simp (find-map, id_changed change, there)
    (ap stays_of (entries_changed change r)))

-- where no entry begins a stay, all are as before
same_later : (change : Change) (r : Request) → entries_for r.row.id (beginning change.entries) ≡ []
    → rows_later change r ≡ rows_of r
same_later change r none =
    ap (stay_rows r.row.id) (none_more r.entries (entries_for r.row.id change.entries)
    (beginning_for r.row.id change.entries ∙ none))

-- ---- the statements

last_added : (ss : List Stay) (s : Stay) → slice_get (ss ++ s ∷ []) (length ss) ≡ Some s
last_added [] s = refl
last_added (t ∷ ss) s = last_added ss s

-- the last of the stays is put, and the one before it ends
put_grown : (id : ℕ) (ss : List Stay) (s : Stay) (c : Contents)
    → stay_put id (length (ss ++ s ∷ [])) (last_of (ss ++ s ∷ [])) c
    ≡ add_stay (stay_ended id (length ss) s.from c) (stay_row id (1 + length ss) s)
put_grown id ss s c = grind (arith, length-append ss (s ∷ []), last_added ss s)

ended_rows : (id n until : ℕ) (c : Contents) (rs : List Request) → c.stays ≡ flat_map rows_of rs
    → (stay_ended id n until c).stays ≡ map (with_end id n until) (flat_map rows_of rs)
ended_rows id n until c rs same =
    let none = map-flat_map (with_end id 0 until) rows_of rs ∙ flat_map_same_on _ rows_of
    (λ r. others_kept id 0 until r.row.id 1 (stays_of r.entries) (λ is. omega arith)) rs in
    grind (arith, nat_tests, none)

-- ---- one entry begins a stay

module _ (change : Change) (desk : Desk) (e : Entry) (is : beginning change.entries ≡ e ∷ [])
  where
    -- of its request there is one more
    own_later : (r : Request) → r.row.id ≡ e.id
        → stays_later change r ≡ closed (stays_of r.entries) e.moment ++ open_stay e ∷ []
    own_later r own =
        one_more r.entries (entries_for r.row.id change.entries) e
        (beginning_for r.row.id change.entries ∙ rw (is, eq-eqb r.row.id e.id own))

    -- it is one more row, and the one before it ends
    own_grown : (r : Request) → r.row.id ≡ e.id
        → IsPermutation (stay_row e.id (1 + length (stays_of r.entries)) (open_stay e)
        ∷ map (with_end e.id (length (stays_of r.entries)) e.moment) (rows_of r))
        (rows_later change r)
    own_grown r own =
        let old = stays_of r.entries in
        let ended = last_ended r.row.id (length old) e.moment 1 old (omega arith) in
        let last = one_more_row r.row.id 1 (closed old e.moment) (open_stay e) in
        rw (← own) (rw (own_later r own, ended, last, closed_length old e.moment)
        (IsPermutation-sym _ _ (IsPermutation-to_front _ _)))

    others_later : (n : ℕ) (r : Request) → (r.row.id == e.id) ≡ false
        → map (with_end e.id n e.moment) (rows_of r) ≡ rows_later change r
    others_later n r other =
        others_kept e.id n e.moment r.row.id 1 (stays_of r.entries) (λ own. grind arith)
        ∙ sym (same_later change r (rw (is, other)))

    begun_rows : (r : Request) (c : Contents) → request_at (wider change desk) e.id ≡ Some r
        → are_numbered 1 (ids (wider change desk)) ≡ true → c.stays ≡ stays desk
        → change.stays ≡ stays_at (applied change desk) e.id
        → IsPermutation (stay_begun (Some e.id) change.stays c).stays (stays (applied change desk))
    begun_rows r c there numbered same carried =
        let rs = (wider change desk).requests in
        let own : r.row.id ≡ e.id = number_found (wider change desk) e.id r there in
        let old = stays_of r.entries in
        let all = carried ∙ there_later change desk e.id r there ∙ own_later r own in
        let so_far = same ∙ sym (none_filed rows_of (λ row. refl) change.filed desk) in
        let end = with_end e.id (length old) e.moment in
        rw (all, put_grown e.id (closed old e.moment) (open_stay e) c, closed_length old e.moment)
        (rw (ended_rows e.id (length old) e.moment c rs so_far, all_later change desk)
        (rw (map-flat_map end rows_of rs)
        (one_differs (λ x. map end (rows_of x)) (rows_later change) e.id (others_later (length old))
        (stay_row e.id (1 + length old) (open_stay e)) 1 rs
        (λ x has here. rw (← one x has here) (own_grown r own)) numbered
        (sym (there_by_number e.id rs) ∙ ap is_some there))))
      where
        one : (x : Request) → Has (wider change desk).requests x → x.row.id ≡ e.id → r ≡ x
        one x has here =
            let found = all_has (λ r. request_at (wider change desk) r.row.id ≡ Some r) _ x
            (recursion_from_All _ _ (found_each 1 (wider change desk).requests numbered)) has in
            let both = sym there ∙ ap (request_at (wider change desk)) (sym here) ∙ found in cc

-- ---- the whole change

some_of : {X : Type 0} (o : Option X) → is_some o ≡ true → (x : X) × (o ≡ Some x)
some_of None there = absurd (cc)
some_of (Some x) there = (x, refl)

module _ (change : Change) (desk : Desk) (c : Contents) (keeps : KeepsStays desk change)
    (numbered : are_numbered 1 (ids (wider change desk)) ≡ true)
    (there : (e : Entry) → beginning change.entries ≡ e ∷ []
    → is_some (request_at (wider change desk) e.id) ≡ true) (same : c.stays ≡ stays desk)
  where
    by_beginning : (es : List Entry) → beginning change.entries ≡ es
        → IsOneOf (either_row change.filed change.row) es
        → IsPermutation (stay_begun (first_on es) change.stays c).stays
        (stays (applied change desk))
    by_beginning [] is one =
        let none = flat_map_same_on (rows_later change) rows_of
        (λ r. same_later change r (ap (entries_for r.row.id) is)) (wider change desk).requests in
        rw (same, all_later change desk, none, none_filed rows_of (λ row. refl) change.filed desk)
        (IsPermutation-refl _)
    by_beginning (e ∷ []) is one =
        let it = some_of (request_at (wider change desk) e.id) (there e is) in
        -- it is the one whose row is put, and it has these stays afterwards
        begun_rows change desk e is it.0 c it.1 numbered same
        (grind (arith, keeps.filed, keeps.set, one))
    by_beginning (e ∷ f ∷ es) is one = absurd one

    pub stays_alike : IsPermutation (stay_begun (begun_on change.entries) change.stays c).stays
        (stays (applied change desk))
    stays_alike =
        rw (begun_first change.entries) (by_beginning (beginning change.entries) refl keeps.begun)
