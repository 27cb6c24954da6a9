-- What a person's own watches and the rows tell of the requests of a desk.
use Rattle.std.proofs.Common.{◌≡◌, ◌∙◌, ℕ, ◌+◌, ◌≤◌, ◌<◌, ◌==◌, zero, suc, Bool, true, false, ◌&&◌}
use Rattle.std.proofs.Common.{◌||◌, cond, List, [], ◌∷◌, filter, find, flat_map, map}
use Rattle.std.proofs.Common.{Some, inl, inr, refl, ap, ap₂, sym, arith}
use Rattle.std.proofs.Common.{rules, ◌⊎◌}
use Rattle.std.specs.List.{AllByRecursion, list_any}
use Rattle.std.specs.Option.{option_map_or}
use Rattle.std.specs.Prelude.{option_and_then}
use Rattle.std.specs.List.Sorted.{IsNonDecreasingBy}
use Rattle.std.specs.Ordering.{nat_cmp, ordering_then}
use Rattle.std.specs.Cmp.{nat_cmp_is}
use Rattle.std.specs.Cmp.Lexicographic.{slice_cmp}
use Rattle.std.specs.Str.{bytes_eq}
use Rattle.std.specs.declared.cmp.Ordering.TheVariants.{Less, Greater}
use Rattle.std.proofs.Math.Bool.{or-false}
use Rattle.std.proofs.lemmas.Bool.{and_parts, eqb-true}
use Rattle.std.proofs.lemmas.Bool.Decides.{eqb_tells}
use Rattle.std.proofs.lemmas.List.Elements.{All-from_recursion, recursion_from_All}
use Rattle.std.proofs.lemmas.List.Folds.{list_any-append}
use Rattle.sqlite_trees.specs.Tree.{IsAscending}
use Rattle.sqlite_trees.proofs.ListLemmas.{all_weaker}
use Rattle.sqlite_trees.proofs.ListLemmas.{ascending-filter, ascending_weaker}
use Rattle.settings_core.specs.declared.settings.Settings.{Settings}
use Rattle.text_core.specs.Texts.{is_among}
use Rattle.desk_model.specs.Desk.{Desk, Request, queue_at}
use Rattle.desk_model.specs.Due.{due_of, due_on}
use Rattle.desk_model.specs.Facts.{seen_request}
use Rattle.desk_model.specs.IsDesk.{IsDesk, are_numbered}
use Rattle.desk_model.specs.Rights.{may_show}
use Rattle.desk_model.specs.Stays.{stays_of}
use Rattle.desk_model.specs.Watchers.{is_role, is_watching, may_show_by, watchers_of}
use Rattle.desk_model.specs.declared.rows.Watcher.{Watcher}
use Rattle.desk_model.specs.declared.rows.WatchRole.{WatchRole}
use Rattle.desk_model.specs.declared.rows.WatchRole.TheVariants.{Requestor}
use Rattle.desk_core.proofs.EachRequest.{found_each}
use Rattle.desk_core.proofs.Roles.{roles_law, watchers_tell}
use Rattle.desk_core.specs.Shown.{TellsRoles}
use Rattle.store_tables.specs.Contents.{watchers}
use Rattle.store_tables.specs.Contents.Watcher.{by_watcher, is_of_person, role_number}
use Rattle.store_core.proofs.RiseLemmas.{their_own, watchers_rise}
use Rattle.store_core.specs.Due.{due_of_row}

-- a person's own watches
abbrev pub watches_on : Desk → List ℕ → List Watcher
watches_on desk person = filter (is_of_person person) (watchers desk)

-- ---- they tell the person's roles

abbrev stands_in : List ℕ → ℕ → WatchRole → Watcher → Bool
stands_in person id role w = w.id == id && (is_role role w.role && bytes_eq w.person person)

-- where all that pass a test are kept, one passes among those that are kept as among all
any_kept : {X : Type 0} (test keep : X → Bool) → ((x : X) → test x ≡ true → keep x ≡ true)
    → (xs : List X) → list_any test (filter keep xs) ≡ list_any test xs
any_kept test keep keeps [] = refl
any_kept {X} test keep keeps (x ∷ xs) =
    let rest = any_kept test keep keeps xs in
    by (keep x) refl rest
  where
    dropped : (b : Bool) → (b ≡ true → false ≡ true) → b ≡ false
    dropped true h = let no : false ≡ true = h refl in cc
    dropped false h = refl

    by : (k : Bool) → keep x ≡ k → list_any test (filter keep xs) ≡ list_any test xs
        → list_any test (cond k (x ∷ filter keep xs) (filter keep xs))
        ≡ (test x || list_any test xs)
    by true e rest = ap (λ b. test x || b) rest
    by false e rest =
        rest ∙ ap (λ b. b || list_any test xs)
        (sym (dropped (test x) (λ h. sym e ∙ keeps x h)))

-- nobody stands in a role on a request among the watchers of another one
none_of_another : (person : List ℕ) (id : ℕ) (role : WatchRole) (ws : List Watcher) (other : ℕ)
    → (other == id) ≡ false → AllByRecursion (λ w. w.id ≡ other) ws
    → list_any (stands_in person id role) ws ≡ false
none_of_another person id role [] other apart own = refl
none_of_another person id role (w ∷ ws) other apart own =
    ap (λ n. (n == id && (is_role role w.role && bytes_eq w.person person))
    || list_any (stands_in person id role) ws) own.0
    ∙ ap (λ b. (b && (is_role role w.role && bytes_eq w.person person))
    || list_any (stands_in person id role) ws) apart
    ∙ none_of_another person id role ws other apart own.1

none_of_others : (person : List ℕ) (id n : ℕ) (role : WatchRole) (rs : List Request)
    → are_numbered n (map (λ x. x.row.id) rs) ≡ true → id < n
    → list_any (stands_in person id role) (flat_map watchers_of rs) ≡ false
none_of_others person id n role [] numbered low = refl
none_of_others person id n role (x ∷ xs) numbered low =
    let parts = and_parts (x.row.id == n) (are_numbered (n + 1) (map (λ r. r.row.id) xs)) numbered in
    let is : x.row.id ≡ n = eqb-true x.row.id n parts.0 in
    let apart : (x.row.id == id) ≡ false =
    elim (eqb_tells x.row.id id) as (λ h. (x.row.id == id) ≡ false) [
      | inl same ↦ absurd (omega (arith, same.1, is, low))
      | inr other ↦ other.0
    ] in
    list_any-append (stands_in person id role) (watchers_of x) (flat_map watchers_of xs)
    ∙ ap₂ (λ a b. a || b)
    (none_of_another person id role (watchers_of x) x.row.id apart (their_own x))
    (none_of_others person id (n + 1) role xs parts.1 (omega arith))

-- of lists one after another, one passes in the list of the request of that number alone
any_of_one : (person : List ℕ) (id n : ℕ) (role : WatchRole) (rs : List Request) (r : Request)
    → are_numbered n (map (λ x. x.row.id) rs) ≡ true
    → find (λ x. x.row.id == id) rs ≡ Some r
    → list_any (stands_in person id role) (flat_map watchers_of rs)
    ≡ list_any (stands_in person id role) (watchers_of r)
any_of_one person id n role [] r numbered there = cc
any_of_one person id n role (x ∷ xs) r numbered there =
    let parts = and_parts (x.row.id == n) (are_numbered (n + 1) (map (λ y. y.row.id) xs)) numbered in
    let is : x.row.id ≡ n = eqb-true x.row.id n parts.0 in
    let T = stands_in person id role in
    list_any-append T (watchers_of x) (flat_map watchers_of xs)
    ∙ elim (eqb_tells x.row.id id) [
      | inl same ↦
          let it : Some x ≡ Some r = sym (ap (λ b. cond b (Some x)
          (find (λ y. y.row.id == id) xs)) same.0) ∙ there in
          let one : x ≡ r = cc in
          ap (λ b. list_any T (watchers_of x) || b)
          (none_of_others person id (n + 1) role xs parts.1 (omega (arith, same.1, is)))
          ∙ or-false (list_any T (watchers_of x))
          ∙ ap (λ (y : Request). list_any T (watchers_of y)) one
      | inr other ↦
          ap (λ b. b || list_any T (flat_map watchers_of xs))
          (none_of_another person id role (watchers_of x) x.row.id other.0 (their_own x))
          ∙ any_of_one person id (n + 1) role xs r parts.1
          (sym (ap (λ b. cond b (Some x) (find (λ y. y.row.id == id) xs)) other.0) ∙ there)
    ]

-- a person's own watches tell the roles on each request
own_tell : (person : List ℕ) (desk : Desk) → IsDesk desk → (r : Request)
    → find (λ x. x.row.id == r.row.id) desk.requests ≡ Some r
    → TellsRoles person r (watches_on desk person)
own_tell person desk is r there role =
    any_kept (stands_in person r.row.id role) (is_of_person person)
    (λ w stands.
    let rest = and_parts (w.id == r.row.id) (is_role role w.role && bytes_eq w.person person)
    stands in (and_parts (is_role role w.role) (bytes_eq w.person person) rest.1).1)
    (watchers desk)
    ∙ any_of_one person r.row.id 1 role desk.requests r is.requests there
    ∙ watchers_tell person r role

pub shows_alike : (s : Settings) (person : List ℕ) (desk : Desk) → IsDesk desk
    → AllByRecursion (λ r. may_show_by s person r.row (watches_on desk person)
    ≡ may_show s person (seen_request r)) desk.requests
shows_alike s person desk is =
    all_weaker (λ r. find (λ x. x.row.id == r.row.id) desk.requests ≡ Some r)
    (λ r. may_show_by s person r.row (watches_on desk person) ≡ may_show s person (seen_request r))
    (λ r there. roles_law s person r (watches_on desk person) (own_tell person desk is r there))
    desk.requests
    (recursion_from_All (λ r. find (λ x. x.row.id == r.row.id) desk.requests ≡ Some r)
    desk.requests (found_each 1 desk.requests is.requests))

-- and so do they tell whether the person is a requestor
pub requestors_alike : (person : List ℕ) (desk : Desk) → IsDesk desk
    → AllByRecursion (λ r. is_watching person r.row.id Requestor (watches_on desk person)
    ≡ is_among r.requestors person) desk.requests
requestors_alike person desk is =
    all_weaker (λ r. find (λ x. x.row.id == r.row.id) desk.requests ≡ Some r)
    (λ r. is_watching person r.row.id Requestor (watches_on desk person)
    ≡ is_among r.requestors person)
    (λ r there. own_tell person desk is r there Requestor) desk.requests
    (recursion_from_All (λ r. find (λ x. x.row.id == r.row.id) desk.requests ≡ Some r)
    desk.requests (found_each 1 desk.requests is.requests))

abbrev pub Alike : Settings → List ℕ → List Watcher → List Request → Type 0
Alike s person watches rs =
    AllByRecursion (λ r. may_show_by s person r.row watches ≡ may_show s person (seen_request r)) rs

-- ---- when each request is due

abbrev pub HaveDues : Settings → Desk → List Request → Type 0
HaveDues s desk rs = AllByRecursion (λ r. due_of_row s desk r.row ≡ due_on s desk r) rs

-- the stays that are found by the number of a row are those of its request
pub have_dues : (s : Settings) (desk : Desk) → IsDesk desk → HaveDues s desk desk.requests
have_dues s desk is =
    all_weaker (λ r. find (λ x. x.row.id == r.row.id) desk.requests ≡ Some r)
    (λ r. due_of_row s desk r.row ≡ due_on s desk r)
    (λ r there. ap (λ o. option_and_then
    (λ q. due_of s q (option_map_or (λ (x : Request). stays_of x.entries) o []) r.row)
    (queue_at desk r.row.queue)) there) desk.requests
    (recursion_from_All (λ r. find (λ x. x.row.id == r.row.id) desk.requests ≡ Some r)
    desk.requests (found_each 1 desk.requests is.requests))

-- ---- the watches are in the order of their requests

side_of : (a b : ℕ) → (b < a) ⊎ (a ≤ b)
side_of a b = search rules

lower_id : (a b : Watcher) → by_watcher a b ≡ Less → a.id ≤ b.id
lower_id a b e =
    elim (side_of a.id b.id) [
      | inl above ↦
          let over : nat_cmp a.id b.id ≡ Greater = sym (nat_cmp_is a.id b.id Greater above) in
          absurd (let no : Greater ≡ Less = sym (ap (λ o. ordering_then o
          (ordering_then (nat_cmp (role_number a.role) (role_number b.role))
          (slice_cmp nat_cmp a.person b.person))) over) ∙ e in cc)
      | inr low ↦ low
    ]

pub not_falling : {X : Type 0} (number : X → ℕ) (xs : List X)
    → IsAscending (λ a b. number a ≤ number b) xs → IsNonDecreasingBy number xs
not_falling number [] up i j d le lt = absurd (omega arith)
not_falling number (x ∷ xs) up zero zero d le lt = omega arith
not_falling number (x ∷ xs) up zero (suc j) d le lt =
    All-from_recursion (λ y. number x ≤ number y) xs up.0 j d (omega arith)
not_falling number (x ∷ xs) up (suc i) zero d le lt = absurd (omega arith)
not_falling number (x ∷ xs) up (suc i) (suc j) d le lt =
    not_falling number xs up.1 i j d (omega arith) (omega arith)

pub watches_in_order : (person : List ℕ) (desk : Desk) → IsDesk desk
    → IsNonDecreasingBy (λ w. w.id) (watches_on desk person)
watches_in_order person desk is =
    not_falling (λ w. w.id) (watches_on desk person)
    (ascending_weaker (λ a b. by_watcher a b ≡ Less) (λ a b. a.id ≤ b.id) lower_id
    (watches_on desk person)
    (ascending-filter (λ a b. by_watcher a b ≡ Less) (is_of_person person) (watchers desk)
    (watchers_rise desk is)))
