-- The change of a command that isn't refused can be written.
use Rattle.std.proofs.Common.{◌≡◌, ◌∙◌, ℕ, ◌==◌, true, false, List, [], ◌∷◌, ◌++◌, map, eq-eqb, ap}
use Rattle.std.proofs.Common.{arith, is_eq, flat_map, refl, sym, Some, append-nil, bytes_eq}
use Rattle.std.proofs.lemmas.Bool.{and_parts, or_from}
use Rattle.std.proofs.lemmas.Grind.{flat_map-append}
use Rattle.std.proofs.lemmas.List.{map-append}
use Rattle.std.proofs.lemmas.List.Folds.{list_any-append}
use Rattle.std.proofs.lemmas.Map.Views.{any-filter_same}
use Rattle.std.specs.Cmp.Lexicographic.{texts_ties}
use Rattle.std.specs.List.{AllByRecursion, list_any}
use Rattle.sqlite_trees.specs.Tree.{IsAscending}
use Rattle.sqlite_trees.proofs.ListLemmas.{all_both, all_of, ascending_weaker}
use Rattle.text_core.specs.Texts.{is_among}
use Rattle.desk_model.specs.declared.rows.WatchRole.{WatchRole}
use Rattle.desk_model.specs.declared.rows.WatchRole.TheVariants.{Requestor, Cc, AdminCc}
use Rattle.desk_core.proofs.NamesLaw.{among_named}
use Rattle.desk_core.proofs.Roles.{roles_kept}
use Rattle.desk_model.specs.Change.{in_role, person_put}
use Rattle.desk_model.specs.Commands.Watch.{persons_in}
use Rattle.desk_model.specs.Commands.Create.{requestor}
use Rattle.desk_model.specs.Desk.{Desk, Request, request_at}
use Rattle.desk_model.specs.Facts.{seen_request}
use Rattle.desk_model.specs.IsDesk.{IsDesk}
use Rattle.desk_model.specs.Names.{names_rise, with_name}
use Rattle.desk_model.specs.Watchers.{is_watching, watchers_of}
use Rattle.store_tables.specs.Contents.{watchers}
use Rattle.store_tables.specs.Contents.Watcher.{watches}
use Rattle.store_core.proofs.FactsLemmas.{part_is}
use Rattle.store_core.proofs.Revised.{id_of, none_revised, there_by_number, any_in_role, is_row_of}
use Rattle.store_core.proofs.RiseLemmas.{names_ascend, their_own}
use Rattle.store_core.specs.Written.{PutsAnew, is_there}

-- ---- who has no row among the persons of all requests

-- where no request has the number, nobody has a role on it
nobody_at_all : (id : ℕ) (role : WatchRole) (person : List ℕ) (rs : List Request)
    → list_any (λ n. n == id) (map id_of rs) ≡ false
    → is_watching person id role (flat_map watchers_of rs) ≡ false
nobody_at_all id role person [] none = refl
nobody_at_all id role person (r ∷ rs) none =
    grind (arith, list_any-append, any_in_role, nobody_at_all id role person rs)

-- who has no role on the one request of the number has none among all
pub nobody : (desk : Desk) → IsDesk desk → (id : ℕ) (role : WatchRole) (person : List ℕ)
    (r : Request) → request_at desk id ≡ Some r → is_watching person id role (watchers_of r) ≡ false
    → is_watching person id role (watchers desk) ≡ false
nobody desk is id role person r there none =
    let own = part_is watchers_of (λ w. w.id) desk is (all_of _ their_own _) id in
    -- only rows of the request count
    sym (any-filter_same (is_row_of id role person) (watches id) true
    (λ w is. (and_parts (w.id == id) _ is).0) (watchers desk)) ∙ rw (own, there) none

-- who is in a role by the rows is among those in it
pub watching_is : (role : WatchRole) (person : List ℕ) (r : Request)
    → is_watching person r.row.id role (watchers_of r)
    ≡ is_among (persons_in role (seen_request r)) person
watching_is Requestor person r = ap (λ roles. roles.requestor) (roles_kept person r)
watching_is Cc person r = ap (λ roles. roles.cc) (roles_kept person r)
watching_is AdminCc person r = ap (λ roles. roles.admin_cc) (roles_kept person r)

-- ---- the requestors of a request that is filed

-- of names that rise each differs from those after it
pub rising_apart : (names : List (List ℕ)) → names_rise names ≡ true
    → IsAscending (λ a b. bytes_eq a b ≡ false) names
rising_apart names rises =
    ascending_weaker _ _ (λ a b low. texts_ties a b ∙ ap is_eq low) _ (names_ascend names rises)

-- a request is at the end of a desk's, and no other one has its number
pub record IsLast (desk : Desk) (others : List Request) (last : Request) : Type 0 where
  pub is : desk.requests ≡ others ++ last ∷ []
  pub alone : list_any (λ n. n == last.row.id) (map id_of others) ≡ false

-- what becomes of the last request
abbrev with_requestor : Request → List ℕ → Request
with_requestor r person = in_role Requestor (λ names. with_name names person) r

module _ (desk : Desk) (others : List Request) (last : Request) (h : IsLast desk others last) where
  pub last_there : is_there desk last.row.id ≡ true
  last_there =
      there_by_number last.row.id desk.requests
      ∙ rw (h.is, map-append, list_any-append, h.alone, eq-eqb last.row.id _ refl) refl

  last_watches : (role : WatchRole) (person : List ℕ)
      → is_watching person last.row.id role (watchers_of last) ≡ false
      → is_watching person last.row.id role (watchers desk) ≡ false
  last_watches role person none =
      rw (h.is, flat_map-append, append-nil, list_any-append)
      (or_from _ _ (nobody_at_all last.row.id role person others h.alone) none)

  last_put : (person : List ℕ)
      → IsLast (person_put desk (requestor last.row.id person)) others (with_requestor last person)
  last_put person =
      let none = h.alone in
      record { is = rw (h.is, map-append, none_revised, eq-eqb last.row.id _ refl); alone = none }

pub requestors_anew : (names : List (List ℕ)) (desk : Desk) (others : List Request) (last : Request)
    → IsLast desk others last → AllByRecursion (λ n. is_among last.requestors n ≡ false) names
    → IsAscending (λ a b. bytes_eq a b ≡ false) names
    → PutsAnew desk (map (requestor last.row.id) names)
requestors_anew [] desk others last h new apart = tt
requestors_anew (n ∷ ns) desk others last h new apart =
    let here = last_watches desk others last h Requestor n (watching_is Requestor n last ∙ new.0) in
    let later = requestors_anew ns _ others _ (last_put desk others last h n) (all_both _ _ _
    (λ m differs new. among_named last.requestors n m ∙ or_from _ _ differs new) ns apart.0 new.1)
    apart.1 in
    (last_there desk others last h, here, later)
