-- The watchers of a request tell the roles on it.
use Rattle.std.proofs.Common.{◌≡◌, ◌∙◌, ℕ, ◌==◌, Bool, true, ◌&&◌}
use Rattle.std.proofs.Common.{◌||◌, List, [], ◌∷◌, map, refl, ap, sym}
use Rattle.std.specs.Str.{bytes_eq}
use Rattle.std.proofs.Math.Bool.{and-false, and-or_distrib_left, or-false}
use Rattle.std.proofs.lemmas.Bool.{eq-eqb}
use Rattle.std.proofs.lemmas.List.Folds.{list_any-append}
use Rattle.rights_core.specs.People.{holds}
use Rattle.rights_core.specs.Right.{show_ticket}
use Rattle.rights_core.specs.declared.role.Roles.{Roles}
use Rattle.settings_core.specs.Settings.{people_of}
use Rattle.settings_core.specs.declared.settings.Settings.{Settings}
use Rattle.desk_model.specs.Desk.{Request}
use Rattle.desk_model.specs.Facts.{seen_request}
use Rattle.desk_model.specs.Watchers.{is_role, is_watching, roles_among, watcher, watchers_of}
use Rattle.text_core.specs.Texts.{is_among}
use Rattle.desk_model.specs.Rights.{roles_on}
use Rattle.desk_model.specs.declared.rows.Watcher.{Watcher}
use Rattle.desk_model.specs.declared.rows.WatchRole.{WatchRole}
use Rattle.desk_model.specs.declared.rows.WatchRole.TheVariants.{Requestor, Cc, AdminCc}
use Rattle.desk_core.specs.Shown.{ShowsByList, ShowsByWatchers, TellsRoles}

pub same_number : (n : ℕ) → (n == n) ≡ true
same_number n = eq-eqb n n refl

abbrev is_in : List ℕ → ℕ → WatchRole → Watcher → Bool
is_in person id role w = w.id == id && (is_role role w.role && bytes_eq w.person person)

-- among the persons in a role, those whose names are there are in it, and nobody is in another
in_the_role : (person : List ℕ) (id : ℕ) (asked role : WatchRole) (names : List (List ℕ))
    → is_watching person id asked (map (watcher id role) names)
    ≡ (is_role asked role && is_among names person)
in_the_role person id asked role [] = sym (and-false (is_role asked role))
in_the_role person id asked role (name ∷ names) =
    rw (same_number id, in_the_role person id asked role names)
    (sym (and-or_distrib_left (is_role asked role) (bytes_eq name person) (is_among names person)))

-- in which of the three roles somebody is
in_one : (person : List ℕ) (asked : WatchRole) (r : Request)
    → is_watching person r.row.id asked (watchers_of r)
    ≡ ((is_role asked Requestor && is_among r.requestors person)
    || ((is_role asked Cc && is_among r.cc person)
    || (is_role asked AdminCc && is_among r.admin_cc person)))
in_one person asked r =
    let id = r.row.id in
    rw (
      list_any-append (is_in person id asked) (map (watcher id Requestor) r.requestors) _,
      list_any-append (is_in person id asked) (map (watcher id Cc) r.cc)
          (map (watcher id AdminCc) r.admin_cc),
      in_the_role person id asked Requestor r.requestors,
      in_the_role person id asked Cc r.cc,
      in_the_role person id asked AdminCc r.admin_cc,
    ) refl

-- the watchers of a request tell each person's roles on it
pub watchers_tell : (person : List ℕ) (r : Request) → TellsRoles person r (watchers_of r)
watchers_tell person r Requestor =
    in_one person Requestor r ∙ or-false (is_among r.requestors person)
watchers_tell person r Cc = in_one person Cc r ∙ or-false (is_among r.cc person)
watchers_tell person r AdminCc = in_one person AdminCc r

-- a list that tells the person's roles on a request tells them all
roles_told : (person : List ℕ) (r : Request) (watchers : List Watcher)
    → TellsRoles person r watchers
    → roles_among person r.row watchers ≡ roles_on person (seen_request r)
roles_told person r watchers tells = rw (tells Requestor, tells Cc, tells AdminCc) refl

-- the roles that the watchers tell are the person's on the request
pub roles_kept : (person : List ℕ) (r : Request)
    → roles_among person r.row (watchers_of r) ≡ roles_on person (seen_request r)
roles_kept person r = roles_told person r (watchers_of r) (watchers_tell person r)

-- who may show a request by such a list may show it
pub roles_law : (s : Settings) (person : List ℕ) (r : Request) (watchers : List Watcher)
    → ShowsByList s person r watchers
roles_law s person r watchers tells =
    ap (λ (roles : Roles). holds (people_of s) person show_ticket r.row.queue roles)
    (roles_told person r watchers tells)

-- so by its own watchers
pub own_roles_law : (s : Settings) (person : List ℕ) (r : Request) → ShowsByWatchers s person r
own_roles_law s person r = roles_law s person r (watchers_of r) (watchers_tell person r)
