-- A caller's own watches tell who may see comments.
use Rattle.std.proofs.Common.{◌≡◌, ◌∙◌, ℕ, ◌==◌, Bool, true, false, ◌&&◌, ◌||◌, cond, List, [], ◌∷◌}
use Rattle.std.proofs.Common.{filter, Option, Some, refl, ap, sym}
use Rattle.std.specs.List.{list_any}
use Rattle.std.specs.Option.{option_map_or}
use Rattle.std.specs.Str.{bytes_eq}
use Rattle.std.proofs.lemmas.Bool.{and_parts}
use Rattle.sqlite_trees.proofs.ListLemmas.{all_of}
use Rattle.rights_core.specs.People.{holds}
use Rattle.rights_core.specs.Right.{show_ticket_comments}
use Rattle.rights_core.specs.declared.role.Roles.{Roles}
use Rattle.settings_core.specs.Settings.{people_of}
use Rattle.settings_core.specs.declared.settings.Settings.{Settings}
use Rattle.desk_model.specs.Desk.{Desk, Request, request_at}
use Rattle.desk_model.specs.Facts.{seen_request}
use Rattle.desk_model.specs.IsDesk.{IsDesk}
use Rattle.desk_model.specs.Rights.{may_show_comments, roles_on}
use Rattle.desk_model.specs.Watchers.{is_role, roles_among, watchers_of}
use Rattle.desk_model.specs.declared.rows.Watcher.{Watcher}
use Rattle.desk_model.specs.declared.rows.WatchRole.{WatchRole}
use Rattle.desk_model.specs.declared.rows.WatchRole.TheVariants.{AdminCc, Cc, Requestor}
use Rattle.desk_core.proofs.Roles.{watchers_tell}
use Rattle.desk_core.specs.Shown.{TellsRoles}
use Rattle.find_core.specs.Rows.{may_show_comments_by}
use Rattle.store_tables.specs.Contents.{watchers}
use Rattle.store_tables.specs.Contents.Watcher.{is_of_person}
use Rattle.store_core.proofs.FactsLemmas.{part_is}
use Rattle.store_core.proofs.RiseLemmas.{their_own}
use Rattle.desk_reports.proofs.Reported.{watches_on}

-- where all that pass a test are kept, one passes among those that are kept as among all
any_kept : {X : Type 0} (test keep : X → Bool) → ((x : X) → test x ≡ true → keep x ≡ true)
    → (xs : List X) → list_any test (filter keep xs) ≡ list_any test xs
any_kept test keep keeps [] = refl
any_kept {X} test keep keeps (x ∷ xs) = by (keep x) refl (any_kept test keep keeps xs)
  where
    dropped : (b : Bool) → (b ≡ true → false ≡ true) → b ≡ false
    dropped true h = let no : false ≡ true = h refl in cc
    dropped false h = refl

    by : (k : Bool) → keep x ≡ k → list_any test (filter keep xs) ≡ list_any test xs
        → list_any test (cond k (x ∷ filter keep xs) (filter keep xs))
        ≡ (test x || list_any test xs)
    by true e rest = ap (λ b. test x || b) rest
    by false e rest =
        rest ∙ ap (λ b. b || list_any test xs)
        (sym (dropped (test x) (λ h. sym e ∙ keeps x h)))

abbrev stands_in : List ℕ → ℕ → WatchRole → Watcher → Bool
stands_in person id role w = w.id == id && (is_role role w.role && bytes_eq w.person person)

-- of all watchers those of the request, and of those the caller's own, tell the caller's roles
own_tell : (person : List ℕ) (desk : Desk) → IsDesk desk → (r : Request)
    → request_at desk r.row.id ≡ Some r → TellsRoles person r (watches_on desk person)
own_tell person desk is r there role =
    let id = r.row.id in
    let test : Watcher → Bool = stands_in person id role in
    any_kept test (is_of_person person)
    (λ w stands.
    let rest = and_parts (w.id == id) (is_role role w.role && bytes_eq w.person person) stands in
    (and_parts (is_role role w.role) (bytes_eq w.person person) rest.1).1)
    (watchers desk)
    ∙ sym (any_kept test (λ w. w.id == id)
    (λ w stands.
    (and_parts (w.id == id) (is_role role w.role && bytes_eq w.person person) stands).0)
    (watchers desk))
    ∙ ap (list_any test)
    (part_is watchers_of (λ w. w.id) desk is (all_of _ their_own desk.requests) id
    ∙ ap (λ (o : Option Request). option_map_or watchers_of o []) there)
    ∙ watchers_tell person r role

roles_alike : (person : List ℕ) (desk : Desk) → IsDesk desk → (r : Request)
    → request_at desk r.row.id ≡ Some r
    → roles_among person r.row (watches_on desk person) ≡ roles_on person (seen_request r)
roles_alike person desk is r there =
    let tells = own_tell person desk is r there in
    rw (tells Requestor, tells Cc, tells AdminCc) refl

pub comments_alike : (s : Settings) (person : List ℕ) (desk : Desk) → IsDesk desk → (r : Request)
    → request_at desk r.row.id ≡ Some r
    → may_show_comments_by s person r.row (watches_on desk person)
    ≡ may_show_comments s person (seen_request r)
comments_alike s person desk is r there =
    ap (λ (roles : Roles). holds (people_of s) person show_ticket_comments r.row.queue roles)
    (roles_alike person desk is r there)
