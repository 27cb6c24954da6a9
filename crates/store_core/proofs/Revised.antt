-- One of a desk's requests is revised: what becomes of lists that are read off the requests.
use Rattle.std.proofs.Common.{◌≡◌, ℕ, ◌==◌, Bool, true, false, not, ◌&&◌, List, [], ◌∷◌, arith, map}
use Rattle.std.proofs.Common.{filter, flat_map, refl, IsPermutation, inl, inr, ◌∙◌, ◌+◌, eq-eqb}
use Rattle.std.proofs.Common.{is_some, ◌<◌, ◌≤◌, append-nil, find, length, Option, None, Some}
use Rattle.std.proofs.Common.{◌++◌, bytes_eq}
use Rattle.std.proofs.Math.Bool.{or-false}
use Rattle.std.proofs.lemmas.Bool.{cases_Bool}
use Rattle.std.proofs.lemmas.List.Folds.{list_any-append}
use Rattle.std.proofs.lemmas.List.Sorted.{IsPermutation-refl, IsPermutation-map, IsPermutation-sym}
use Rattle.std.proofs.lemmas.List.Sorted.{IsPermutation-middle, IsPermutation-trans}
use Rattle.std.proofs.lemmas.List.Sorted.{IsPermutation-append_left, IsPermutation-append_right}
use Rattle.std.specs.Cmp.Lexicographic.{same_text, texts_ties}
use Rattle.std.specs.List.{list_any}
use Rattle.std.proofs.lemmas.List.Elements.{filter-append}
use Rattle.std.proofs.lemmas.Bool.Decides.{nat_tests}
use Rattle.std.proofs.lemmas.Grind.{flat_map-append}
use Rattle.sqlite_trees.proofs.ListLemmas.{filter-map, flat_map-map, map-map}
use Rattle.sqlite_rules.specs.Lists.{Has}
use Rattle.desk_core.proofs.Roles.{same_number}
use Rattle.desk_model.specs.declared.rows.Watcher.{Watcher}
use Rattle.desk_model.specs.declared.rows.WatchRole.{WatchRole}
use Rattle.desk_model.specs.declared.rows.WatchRole.TheVariants.{Requestor, Cc, AdminCc}
use Rattle.desk_model.specs.Change.{in_role, without_name, filed, request_filed}
use Rattle.desk_model.specs.Desk.{Request, revised_at, Desk, placed}
use Rattle.desk_model.specs.Names.{with_name}
use Rattle.desk_model.specs.Watchers.{is_role, is_watching, watcher, watchers_of}
use Rattle.desk_model.specs.IsDesk.{are_numbered}
use Rattle.desk_model.specs.declared.rows.RequestRow.{RequestRow}
use Rattle.store_tables.specs.Contents.Watcher.{is_watcher}
use Rattle.store_core.proofs.FactsLemmas.{each_alike}

-- one more, at the front or behind others
pub more_after : {X : Type 0} (xs ys zs : List X) (x : X) → IsPermutation (x ∷ ys) zs
    → IsPermutation (x ∷ (xs ++ ys)) (xs ++ zs)
more_after xs ys zs x h =
    IsPermutation-trans _ _ _ (IsPermutation-sym _ _ (IsPermutation-middle xs x ys))
    (IsPermutation-append_right xs _ _ h)

-- one more, in front of others
pub more_before : {X : Type 0} (xs ys zs : List X) (x : X) → IsPermutation (x ∷ xs) zs
    → IsPermutation (x ∷ (xs ++ ys)) (zs ++ ys)
more_before xs ys zs x = IsPermutation-append_left ys _ _

-- one that is put at its place
pub placed_alike : {X : Type 0} (lower : X → X → Bool) (xs : List X) (x : X)
    → IsPermutation (x ∷ xs) (placed lower xs x)
placed_alike lower [] x = IsPermutation-refl _
placed_alike lower (y ∷ ys) x =
    let front = IsPermutation-refl (x ∷ y ∷ ys) in
    grind (arith, front, more_after (y ∷ []) ys (placed lower ys x) x, placed_alike lower ys x)

abbrev pub id_of : Request → ℕ
id_of r = r.row.id

-- numbers that begin later don't have one that comes before
pub none_before : (next n : ℕ) (ns : List ℕ) → n < next → are_numbered next ns ≡ true
    → list_any (λ m. m == n) ns ≡ false
none_before next n [] below numbered = refl
none_before next n (m ∷ ms) below numbered = grind (arith, nat_tests, none_before (next + 1) n ms)

-- numbers up to here don't have one that comes later
pub none_past : (rs : List Request) (next id : ℕ) → are_numbered next (map id_of rs) ≡ true
    → next + length rs ≤ id → list_any (λ n. n == id) (map id_of rs) ≡ false
none_past [] next id numbered past = refl
none_past (r ∷ rs) next id numbered past = grind (arith, nat_tests, none_past rs (next + 1) id)

-- where no request has the number, none is revised
pub none_revised : (id : ℕ) (f : Request → Request) (rs : List Request)
    → list_any (λ n. n == id) (map id_of rs) ≡ false → map (revised_at id f) rs ≡ rs
none_revised id f [] none = refl
none_revised id f (r ∷ rs) none = grind (arith, none_revised id f rs)

-- what is read off the requests in two ways, which differ only on the request of one number
module _ {B : Type 0} (g h : Request → List B) (id : ℕ)
    (others : (r : Request) → (r.row.id == id) ≡ false → g r ≡ h r)
  where
    none_differ : (rs : List Request) → list_any (λ n. n == id) (map id_of rs) ≡ false
        → flat_map g rs ≡ flat_map h rs
    none_differ [] none = refl
    none_differ (r ∷ rs) none = grind (arith, others, none_differ rs)

    -- where it has one more the second way, so has the whole
    pub one_more : (b : B) (next : ℕ) (rs : List Request)
        → ((r : Request) → Has rs r → r.row.id ≡ id → IsPermutation (b ∷ g r) (h r))
        → are_numbered next (map id_of rs) ≡ true → list_any (λ n. n == id) (map id_of rs) ≡ true
        → IsPermutation (b ∷ flat_map g rs) (flat_map h rs)
    one_more b next [] one numbered there = cc
    one_more b next (r ∷ rs) one numbered there =
        let none = none_before (next + 1) id (map id_of rs) in
        let here = one r (inl refl) in
        let later = one_more b (next + 1) rs (λ x has. one x (inr has)) in
        let front = more_before (g r) (flat_map h rs) (h r) b in
        let back = more_after (h r) (flat_map g rs) (flat_map h rs) b in
        grind (arith, nat_tests, others r, none_differ rs, none, here, later, front, back)

module _ {B : Type 0} (f : Request → Request) (id : ℕ) where
  -- what is read off the one request gets one more, and so does the whole
  pub one_revised : (g : Request → List B) (b : B) (rs : List Request)
      → ((r : Request) → Has rs r → r.row.id ≡ id → IsPermutation (b ∷ g r) (g (f r)))
      → are_numbered 1 (map id_of rs) ≡ true → list_any (λ n. n == id) (map id_of rs) ≡ true
      → IsPermutation (b ∷ flat_map g rs) (flat_map g (map (revised_at id f) rs))
  one_revised g b rs grows numbered there =
      rw (flat_map-map g (revised_at id f) rs)
      (one_more g (λ r. g (revised_at id f r)) id (λ r other. rw other) b 1 rs
      (λ r has here. rw (eq-eqb r.row.id id here) (grows r has here)) numbered there)

  -- what a revision leaves alone is left alone in the whole
  kept : (g : Request → B) → ((r : Request) → r.row.id ≡ id → g (f r) ≡ g r) → (r : Request)
      → g (revised_at id f r) ≡ g r
  kept g keeps r = grind (arith, nat_tests, keeps)

  pub kept_each : (g : Request → B) → ((r : Request) → r.row.id ≡ id → g (f r) ≡ g r)
      → (rs : List Request) → map g (map (revised_at id f) rs) ≡ map g rs
  kept_each g keeps rs = map-map g (revised_at id f) rs ∙ λ t. map (λ r. kept g keeps r t) rs

pub kept_all : {B : Type 0} (f : Request → Request) (id : ℕ) (g : Request → List B)
    → ((r : Request) → r.row.id ≡ id → g (f r) ≡ g r) → (rs : List Request)
    → flat_map g (map (revised_at id f) rs) ≡ flat_map g rs
kept_all f id g keeps rs =
    flat_map-map g (revised_at id f) rs ∙ λ t. flat_map (λ r. kept f id g keeps r t) rs

-- a request is there where its number is among the numbers
pub there_by_number : (id : ℕ) (rs : List Request)
    → is_some (find (λ r. r.row.id == id) rs) ≡ list_any (λ n. n == id) (map id_of rs)
there_by_number id [] = refl
there_by_number id (r ∷ rs) = grind (arith, there_by_number id rs)

-- what is filed adds nothing where it has nothing
pub none_filed : {B : Type 0} (g : Request → List B) → ((row : RequestRow) → g (filed row) ≡ [])
    → (o : Option RequestRow) (desk : Desk)
    → flat_map g (request_filed o desk).requests ≡ flat_map g desk.requests
none_filed g none None desk = refl
none_filed g none (Some row) desk = simp (flat_map-append, none, append-nil)

-- where the whole has none that passes, no part of it has one
pub none_in : {B : Type 0} (p : B → Bool) (g : Request → List B) (rs : List Request) (r : Request)
    → Has rs r → list_any p (flat_map g rs) ≡ false → list_any p (g r) ≡ false
none_in p g [] r has none = elim has [ ]
none_in p g (x ∷ xs) r has none =
    grind (arith, list_any-append p (g x) (flat_map g xs), none_in p g xs r)

-- ---- a person put into a role or taken out of it, as a row of the persons of a request

-- a name that isn't among others is one more in its place
named_alike : (names : List (List ℕ)) (name : List ℕ)
    → list_any (λ n. bytes_eq n name) names ≡ false
    → IsPermutation (name ∷ names) (with_name names name)
named_alike [] name none = IsPermutation-refl _
named_alike (y ∷ ys) name none =
    let same = same_text name y in
    let front = IsPermutation-refl (name ∷ y ∷ ys) in
    let more = more_after (y ∷ []) ys (with_name ys name) name in
    grind (arith, texts_ties name y, same, front, more, named_alike ys name)

abbrev pub is_row_of : ℕ → WatchRole → List ℕ → Watcher → Bool
is_row_of id role person w = w.id == id && (is_role role w.role && bytes_eq w.person person)

-- ---- what is asked of the persons of a request, role by role

pub any_in_role : (id own : ℕ) (role other : WatchRole) (person : List ℕ) (names : List (List ℕ))
    → list_any (is_row_of id role person) (map (watcher own other) names)
    ≡ (own == id && (is_role role other && list_any (λ n. bytes_eq n person) names))
any_in_role id own role other person [] = grind arith
any_in_role id own role other person (n ∷ ns) =
    grind (arith, any_in_role id own role other person ns)

ruleset asked = (list_any-append, any_in_role, or-false, same_number)

put_row : (role : WatchRole) (person : List ℕ) (r : Request)
    → is_watching person r.row.id role (watchers_of r) ≡ false
    → IsPermutation (watcher r.row.id role person ∷ watchers_of r)
    (watchers_of (in_role role (λ names. with_name names person) r))
put_row Requestor person r none =
    more_before _ _ _ _ (IsPermutation-map (watcher r.row.id Requestor) _ _
    (named_alike r.requestors person (simp asked at none)))
put_row Cc person r none =
    more_after _ _ _ _ (more_before _ _ _ _ (IsPermutation-map (watcher r.row.id Cc) _ _
    (named_alike r.cc person (simp asked at none))))
put_row AdminCc person r none =
    more_after _ _ _ _ (more_after _ _ _ _ (IsPermutation-map (watcher r.row.id AdminCc) _ _
    (named_alike r.admin_cc person (simp asked at none))))

-- a person put into a role is one more row, on the request of that number
pub put_row_alike : (id : ℕ) (role : WatchRole) (person : List ℕ) (r : Request) → r.row.id ≡ id
    → is_watching person id role (watchers_of r) ≡ false
    → IsPermutation (watcher id role person ∷ watchers_of r)
    (watchers_of (in_role role (λ names. with_name names person) r))
put_row_alike id role person r here none = rw (← here) (put_row role person r (rw (← here) at none))

-- the row stays where that person is taken out of that role on that request
abbrev pub stays : ℕ → WatchRole → List ℕ → Watcher → Bool
stays id role person w = not (is_watcher (watcher id role person) w)

all_kept : (names : List (List ℕ)) → filter (λ n. true) names ≡ names
all_kept = each_alike true

ruleset rows_left = (filter-append, filter-map, all_kept, ← texts_ties)

-- a person taken out of a role is one row less of the request's persons
taken_row : (role : WatchRole) (id : ℕ) (person : List ℕ) (r : Request) → (r.row.id == id) ≡ true
    → filter (stays id role person) (watchers_of r)
    ≡ watchers_of (in_role role (λ names. without_name names person) r)
taken_row Requestor id person r own = simp (rows_left, own)
taken_row Cc id person r own = simp (rows_left, own)
taken_row AdminCc id person r own = simp (rows_left, own)

-- of all persons of all requests those rows are left
pub taken_each : (id : ℕ) (role : WatchRole) (person : List ℕ) (rs : List Request)
    → filter (stays id role person) (flat_map watchers_of rs)
    ≡ flat_map watchers_of
    (map (revised_at id (in_role role (λ names. without_name names person))) rs)
taken_each id role person [] = refl
taken_each id role person (r ∷ rs) =
    let left = taken_each id role person rs in
    elim (cases_Bool (r.row.id == id)) [
      | inl own ↦ rw (filter-append, own, taken_row role id person r own, left)
      | inr other ↦ simp (rows_left, other, left)
    ]
