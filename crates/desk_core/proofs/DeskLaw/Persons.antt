-- The persons of each request rise.
use Rattle.std.proofs.Common.{◌≡◌, ℕ, Bool, true, ◌&&◌, List, Option, Some, None, refl}
use Rattle.std.proofs.lemmas.Bool.{and_from, and_parts}
use Rattle.std.specs.List.{list_all}
use Rattle.desk_model.specs.Change.{applied, entry_put, in_role, with_entry}
use Rattle.desk_model.specs.Desk.{Desk, Request}
use Rattle.desk_model.specs.IsDesk.{persons_rise}
use Rattle.desk_model.specs.Names.{names_rise}
use Rattle.desk_model.specs.declared.change.Change.{Change}
use Rattle.desk_model.specs.declared.rows.RequestRow.{RequestRow}
use Rattle.desk_model.specs.declared.rows.WatchRole.{WatchRole}
use Rattle.desk_model.specs.declared.rows.WatchRole.TheVariants.{Requestor, Cc, AdminCc}
use Rattle.desk_core.proofs.DeskLaw.Stages.{HoldsAtPersons, HoldsAtRow, HoldsOfFiled, all_filed}
use Rattle.desk_core.proofs.DeskLaw.Stages.{all_revised, all_with_links, by_all, with_links}

at_row : (o : Option RequestRow) → HoldsAtRow persons_rise o
at_row None = tt
at_row (Some row) = λ r same rise. rise

-- what holds of the persons in each role holds where it is kept in one
pub in_each_role : (test : List (List ℕ) → Bool) (role : WatchRole)
    (f : List (List ℕ) → List (List ℕ))
    → ((names : List (List ℕ)) → test names ≡ true → test (f names) ≡ true)
    → (r : Request) → (test r.requestors && (test r.cc && test r.admin_cc)) ≡ true
    → (test (in_role role f r).requestors
    && (test (in_role role f r).cc && test (in_role role f r).admin_cc)) ≡ true
in_each_role test Requestor f keeps r all =
    let parts = and_parts (test r.requestors) (test r.cc && test r.admin_cc) all in
    and_from (test (f r.requestors)) (test r.cc && test r.admin_cc)
    (keeps r.requestors parts.0) parts.1
in_each_role test Cc f keeps r all =
    let parts = and_parts (test r.requestors) (test r.cc && test r.admin_cc) all in
    let others = and_parts (test r.cc) (test r.admin_cc) parts.1 in
    and_from (test r.requestors) (test (f r.cc) && test r.admin_cc) parts.0
    (and_from (test (f r.cc)) (test r.admin_cc) (keeps r.cc others.0) others.1)
in_each_role test AdminCc f keeps r all =
    let parts = and_parts (test r.requestors) (test r.cc && test r.admin_cc) all in
    let others = and_parts (test r.cc) (test r.admin_cc) parts.1 in
    and_from (test r.requestors) (test r.cc && test (f r.admin_cc)) parts.0
    (and_from (test r.cc) (test (f r.admin_cc)) others.0 (keeps r.admin_cc others.1))

at_persons : HoldsAtPersons persons_rise
at_persons role f keeps r rise = in_each_role names_rise role f keeps r rise

no_persons : (o : Option RequestRow) → HoldsOfFiled persons_rise o
no_persons None = tt
no_persons (Some row) = refl

pub persons_after : (change : Change) (desk : Desk) → list_all persons_rise desk.requests ≡ true
    → list_all persons_rise (applied change desk).requests ≡ true
persons_after change desk rise =
    by_all (λ d. list_all persons_rise d.requests ≡ true) entry_put
    (λ d e h. all_revised persons_rise e.id (with_entry e) d.requests (λ r same rises. rises) h)
    change.entries
    (with_links change desk)
    (all_with_links persons_rise change desk (at_row change.row) at_persons
    (all_filed persons_rise change.filed desk (no_persons change.filed) rise))
