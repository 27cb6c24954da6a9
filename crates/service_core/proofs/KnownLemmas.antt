-- A desk's names are those of its rows and of the histories.
use Rattle.std.proofs.Common.{◌≡◌, ◌∙◌, ℕ, Bool, true, false, List, [], ◌∷◌, ◌++◌}
use Rattle.std.proofs.Common.{flat_map, map, refl, sym, ap, ap₂, IsPermutation, Option}
use Rattle.std.proofs.lemmas.List.Folds.{list_all-append, list_all-map}
use Rattle.std.specs.List.{list_all}
use Rattle.std.specs.Prelude.{◌&&◌}
use Rattle.settings_core.specs.Settings.{knows}
use Rattle.settings_core.specs.declared.settings.Settings.{Settings}
use Rattle.desk_model.specs.declared.rows.QueueRow.{QueueRow}
use Rattle.desk_model.specs.declared.rows.RequestRow.{RequestRow}
use Rattle.desk_model.specs.declared.rows.Watcher.{Watcher}
use Rattle.desk_model.specs.declared.rows.WatchRole.{WatchRole}
use Rattle.desk_model.specs.declared.rows.WatchRole.TheVariants.{Requestor, Cc, AdminCc}
use Rattle.desk_model.specs.Desk.{Desk, Request}
use Rattle.desk_model.specs.Known.{is_known, knows_actors, knows_persons, knows_queue, knows_row}
use Rattle.desk_model.specs.Watchers.{watcher, watchers_of}
use Rattle.service_core.specs.Attaching.{knows_histories, knows_rows, of_queues}
use Rattle.store_tables.specs.Contents.{actors, entries, request_rows, watchers}
use Rattle.store_tables.specs.Contents.Entry.{actor_of}
use Rattle.store_tables.specs.Contents.Request.{Dated, dated_by, row_of}
use Rattle.store_core.specs.Rows.{dated_rows}
use Rattle.store_tables.proofs.KeptLemmas.{all_alike}

-- ---- persons

module _ (settings : Settings) where
  abbrev is_person : Watcher → Bool
  is_person w = knows settings w.person

  in_role : (id : ℕ) (role : WatchRole) (names : List (List ℕ))
      → list_all is_person (map (watcher id role) names) ≡ list_all (knows settings) names
  in_role id role names = list_all-map is_person (watcher id role) names

  persons_of_one : (r : Request) → list_all is_person (watchers_of r) ≡ knows_persons settings r
  persons_of_one r =
      let id = r.row.id in
      list_all-append is_person (map (watcher id Requestor) r.requestors)
      (map (watcher id Cc) r.cc ++ map (watcher id AdminCc) r.admin_cc)
      ∙ ap₂ ◌&&◌ (in_role id Requestor r.requestors)
      (list_all-append is_person (map (watcher id Cc) r.cc) (map (watcher id AdminCc) r.admin_cc)
      ∙ ap₂ ◌&&◌ (in_role id Cc r.cc) (in_role id AdminCc r.admin_cc))

  pub persons_of_all : (rs : List Request)
      → list_all is_person (flat_map watchers_of rs) ≡ list_all (knows_persons settings) rs
  persons_of_all [] = refl
  persons_of_all (r ∷ rs) =
      list_all-append is_person (watchers_of r) (flat_map watchers_of rs)
      ∙ ap₂ ◌&&◌ (persons_of_one r) (persons_of_all rs)

-- ---- those who made entries

made_by : (settings : Settings) (rs : List Request)
    → list_all (λ e. knows settings (actor_of e)) (flat_map (λ (r : Request). r.entries) rs)
    ≡ list_all (knows_actors settings) rs
made_by settings [] = refl
made_by settings (r ∷ rs) =
    list_all-append (λ e. knows settings (actor_of e)) r.entries
    (flat_map (λ (r : Request). r.entries) rs)
    ∙ ap (λ b. knows_actors settings r && b) (made_by settings rs)

histories : (settings : Settings) (desk : Desk)
    → knows_histories settings desk ≡ list_all (knows_actors settings) desk.requests
unfolding knows_histories
histories settings desk =
    list_all-map (knows settings) actor_of (entries desk) ∙ made_by settings desk.requests

-- what is found of those who were read, in whatever order
pub known_of_actors : (settings : Settings) (desk : Desk) (read : List (List ℕ))
    → IsPermutation (actors desk) read
    → list_all (knows settings) read ≡ knows_histories settings desk
unfolding knows_histories
known_of_actors settings desk read same =
    sym (all_alike (knows settings) (actors desk) read same)

-- ---- all names

in_two : (a b c d : Bool) → (a && (b && (c && d))) ≡ ((a && (b && c)) && d)
in_two true true c d = refl
in_two true false c d = refl
in_two false b c d = refl

regroup : (a : Bool) {b c d x y z : Bool} → b ≡ x → c ≡ y → d ≡ z
    → (a && (b && (c && d))) ≡ ((a && (x && y)) && z)
regroup a {b} {c} {d} {x} {y} {z} p q r =
    ap (λ v. a && v) (ap₂ ◌&&◌ p (ap₂ ◌&&◌ q r)) ∙ in_two a x y z

known_by_rows : (settings : Settings) (desk : Desk) → is_known settings desk
    ≡ (knows_rows settings desk.queues (request_rows desk) (watchers desk)
    && knows_histories settings desk)
unfolding knows_rows is_known
known_by_rows settings desk =
    let rows = list_all-map (knows_row settings (of_queues desk.queues))
    (λ (r : Request). r.row) desk.requests in
    let persons = persons_of_all settings desk.requests in
    regroup (list_all (knows_queue settings) desk.queues) (sym rows) (sym persons)
    (sym (histories settings desk))

-- ---- what is found in rows that were read

same_rows : (settings : Settings) {qs q : List QueueRow} {rs r : List RequestRow}
    {ws w : List Watcher} → qs ≡ q → rs ≡ r → ws ≡ w
    → knows_rows settings q r w ≡ knows_rows settings qs rs ws
same_rows settings {qs} {q} {rs} {r} {ws} {w} queues requests watchers =
    sym (ap (λ v. knows_rows settings v rs ws) queues
    ∙ ap (λ v. knows_rows settings q v ws) requests
    ∙ ap (knows_rows settings q r) watchers)

-- ---- with their due moments

rows_of : (due : RequestRow → Option ℕ) (rows : List RequestRow)
    → map row_of (map (dated_by due) rows) ≡ rows
rows_of due [] = refl
rows_of due (row ∷ rows) = ap (λ (rs : List RequestRow). row ∷ rs) (rows_of due rows)

-- what is known of a desk whose queues and dated rows are these
pub known_of_dated : (settings : Settings) (desk : Desk) (due : RequestRow → Option ℕ)
    (queues : List QueueRow) (dated : List Dated) (found : Bool) → queues ≡ desk.queues
    → dated ≡ dated_rows due desk
    → found ≡ (knows_rows settings queues (map row_of dated) (watchers desk)
    && knows_histories settings desk)
    → is_known settings desk ≡ found
known_of_dated settings desk due queues dated found these those told =
    known_by_rows settings desk
    ∙ ap (λ b. b && knows_histories settings desk)
    (same_rows settings these (ap (map row_of) those ∙ rows_of due (request_rows desk)) refl)
    ∙ sym told
