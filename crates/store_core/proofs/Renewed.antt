-- The due moments that a change writes are those of the desk after it: the request that it files or
-- sets has the moment that comes with it, and of all others neither the row, nor the queue, nor a
-- stay changes.
use Rattle.std.proofs.Common.{◌≡◌, ◌⊎◌, ◌∙◌, ℕ, ◌==◌, Bool, true, false, inl}
use Rattle.std.proofs.Common.{is_some, option_and_then, eqb-true, List, [], ◌∷◌, find, map}
use Rattle.std.proofs.Common.{Option, Some, None, inr, refl, ap, ap₂, arith, sym, subst, bytes_eq}
use Rattle.std.proofs.lemmas.Bool.{false_from_ne_true}
use Rattle.std.proofs.lemmas.Bool.Decides.{nat_tests}
use Rattle.std.proofs.lemmas.Slice.Eq.{bytes_eq-Decides}
use Rattle.std.proofs.lemmas.List.Elements.{recursion_from_All}
use Rattle.sqlite_rules.specs.Lists.{Has}
use Rattle.sqlite_rules.proofs.ListLemmas.{all_has, has_either, test_has}
use Rattle.sqlite_trees.proofs.ListLemmas.{map-map}
use Rattle.hours_core.specs.declared.stay.Stay.{Stay}
use Rattle.settings_core.specs.declared.settings.Settings.{Settings}
use Rattle.desk_model.specs.Change.{applied, filed, queue_put, request_filed}
use Rattle.desk_model.specs.Commands.{plan_of}
use Rattle.desk_model.specs.Dated.{either_row}
use Rattle.desk_model.specs.Desk.{Desk, Request, has_lower_name, placed, queue_at, request_at}
use Rattle.desk_model.specs.Due.{due_of}
use Rattle.desk_model.specs.Facts.{stays_at}
use Rattle.desk_model.specs.IsDesk.{IsDesk}
use Rattle.desk_model.specs.Plan.{change_by}
use Rattle.desk_model.specs.Step.{call, facts_of, guard}
use Rattle.desk_model.specs.declared.change.Change.{Change}
use Rattle.desk_model.specs.declared.command.Command.{Command}
use Rattle.desk_model.specs.declared.command.Command.TheVariants.{OpenQueue, Create}
use Rattle.desk_model.specs.declared.rows.QueueRow.{QueueRow}
use Rattle.desk_model.specs.declared.rows.RequestRow.{RequestRow}
use Rattle.desk_core.specs.Carried.{HasStays, KeepsStays, beginning}
use Rattle.desk_core.specs.Decision.{change_of}
use Rattle.desk_core.proofs.Applied.{row_after}
use Rattle.desk_core.proofs.Begun.{beginning_for, none_more}
use Rattle.desk_core.proofs.Carried.{carried_law}
use Rattle.desk_core.proofs.Changed.{changed, entries_changed, entries_for, found_changed}
use Rattle.desk_core.proofs.Changed.{requests_after, row_changed}
use Rattle.desk_core.proofs.DeskLaw.ByKind.{Meets, by_plan, change_fits}
use Rattle.desk_core.proofs.DeskLaw.Fitting.{FilesNext, Fits, OpensNew}
use Rattle.desk_core.proofs.DeskLaw.Stages.{queues_after}
use Rattle.desk_core.proofs.EachRequest.{found_each}
use Rattle.store_core.proofs.FactsLemmas.{below_next}
use Rattle.store_core.proofs.Revised.{id_of}
use Rattle.desk_core.proofs.Goes.{row_goes}
use Rattle.desk_core.proofs.Identity.{IdentityGoes, identities_go}
use Rattle.desk_core.proofs.Kept.{ids_kept}
use Rattle.store_tables.specs.Contents.{contents_of}
use Rattle.store_tables.specs.Contents.Request.{Dated, dated_by}
use Rattle.store_core.specs.Due.{due_of_row}
use Rattle.store_core.specs.Written.{due_with, dues_after}

-- ---- queues

placed_other : (before : QueueRow → QueueRow → Bool) (queues : List QueueRow) (queue : QueueRow)
    (name : List ℕ) → bytes_eq queue.name name ≡ false
    → find (λ q. bytes_eq q.name name) (placed before queues queue)
    ≡ find (λ q. bytes_eq q.name name) queues
placed_other before [] queue name other = rw other
placed_other before (q ∷ qs) queue name other =
    grind (arith, placed_other before qs queue name other)

-- a new queue has another name than one that is there
queue_kept : (o : Option QueueRow) (desk : Desk) (name : List ℕ) → OpensNew desk o
    → is_some (queue_at desk name) ≡ true → queue_at (queue_put o desk) name ≡ queue_at desk name
queue_kept None desk name new there = refl
queue_kept (Some queue) desk name new there =
    placed_other has_lower_name desk.queues queue name
    (false_from_ne_true (bytes_eq queue.name name) (λ same.
    let is = (bytes_eq-Decides queue.name name).0 same in grind arith))

-- ---- what is due of one row

-- a row has another number than one that a change files or sets
abbrev Apart : Option RequestRow → RequestRow → Type 0
Apart None row = Unit {0}
Apart (Some new) row = (row.id == new.id) ≡ false

-- the row that a change sets, where the request has its number, is due when the change says
abbrev SetsDue : Option RequestRow → Option ℕ → (RequestRow → Option ℕ) → RequestRow → Type 0
SetsDue None moment after row = Unit {0}
SetsDue (Some new) moment after row = (row.id == new.id) ≡ true → moment ≡ after new

module _ (moment : Option ℕ) (was after : RequestRow → Option ℕ) (row : RequestRow) where
  due_row : (sets filed : Option RequestRow) → Apart filed row → SetsDue sets moment after row
      → (Apart sets row → was row ≡ after row)
      → due_with sets moment (due_with filed moment was) (row_after sets row)
      ≡ after (row_after sets row)
  due_row sets filed other set same = grind (arith, nat_tests)

  filed_row : (sets filed : Option RequestRow) → sets ≡ None → filed ≡ Some row → moment ≡ after row
      → due_with sets moment (due_with filed moment was) (row_after sets row)
      ≡ after (row_after sets row)
  filed_row sets filed none files is = grind (arith, nat_tests)

-- ---- what a command puts

abbrev IsCreate : Command → Type 0
IsCreate (Create queue subject status requestors) = Unit {0}
IsCreate other = ⊥

-- only `create` files, and it sets no row
abbrev CreatesOnly : Command → Change → Type 0
CreatesOnly command change = (change.filed ≡ None) ⊎ ((change.row ≡ None) × IsCreate command)

only_creates : (desk : Desk) (command : Command)
    → Meets (λ d change. CreatesOnly command change) desk (plan_of command)
only_creates desk (OpenQueue name lifecycle level) = λ call none. inl refl
only_creates desk (Create queue subject status requestors) = λ call none. inr (refl, tt)
only_creates desk other = λ call r there same none. inl refl

-- and it looks at the queue of what it files
files_in : (command : Command) (s : Settings) (at : ℕ) (caller : List ℕ) (desk : Desk)
    (row : RequestRow) → IsCreate command
    → (change_by (call s at caller) (facts_of command desk) (plan_of command)).filed ≡ Some row
    → (facts_of command desk).queue ≡ queue_at desk row.queue
files_in (Create queue subject status requestors) s at caller desk row is files =
    ap (queue_at desk) (cc)
files_in other s at caller desk row is files = absurd is

map_alike : {X Y : Type 0} (f g : X → Y) (xs : List X) → ((x : X) → Has xs x → f x ≡ g x)
    → map f xs ≡ map g xs
map_alike f g [] each = refl
map_alike f g (x ∷ xs) each = rw (each x (inl refl), map_alike f g xs (λ y has. each y (inr has)))

-- ---- the desk after a command

module _ (s : Settings) (at : ℕ) (caller : List ℕ) (command : Command) (desk : Desk)
    (is : IsDesk desk) (free : guard s at caller command desk ≡ None)
  where
    abbrev change : Change
    change = change_of (call s at caller) (facts_of command desk) command

    abbrev after : Desk
    after = applied change desk

    fits : Fits desk (change_by (call s at caller) (facts_of command desk) (plan_of command))
    fits = change_fits s at caller command desk is free

    filing : CreatesOnly command change
    filing =
        by_plan (λ d c. CreatesOnly command c) (call s at caller) (plan_of command) desk
        (inl refl) (only_creates desk command) free

    keeps : KeepsStays desk change
    keeps = carried_law s at caller command desk is free

    -- a row in a queue that is there, with the stays of its request afterwards, is due as then
    due_stays : (row : RequestRow) (stays : List Stay)
        → is_some (queue_at desk row.queue) ≡ true → stays ≡ stays_at after row.id
        → option_and_then (λ q. due_of s q stays row) (queue_at desk row.queue)
        ≡ due_of_row s after row
    due_stays row stays there same =
        rw (same, queues_after change desk, queue_kept change.queue desk row.queue fits.opens there)

    -- so is the row that a change puts
    due_put : (row : RequestRow) → either_row change.filed change.row ≡ Some row
        → (facts_of command desk).queue ≡ queue_at desk row.queue
        → is_some (queue_at desk row.queue) ≡ true → change.stays ≡ stays_at after row.id
        → change.due ≡ due_of_row s after row
    due_put row put queue there stays = rw (← due_stays row change.stays there stays, queue, put)

    set_due : (r : Request) → request_at desk r.row.id ≡ Some r
        → is_some (queue_at desk r.row.queue) ≡ true
        → (sets : Option RequestRow) → change.row ≡ sets
        → SetsDue sets change.due (due_of_row s after) r.row
    set_due r found there None sets_is = tt
    set_due r found there (Some new) sets_is = λ same.
        let none : change.filed ≡ None = grind (arith, filing) in
        let goes = row_goes IdentityGoes s at caller command desk r.row.id r (filed new) found
        (ids_kept command) (identities_go command)
        (record { free = free; row = sets_is; same = eqb-true r.row.id new.id same }) in
        due_put new (ap₂ either_row none sets_is) (goes.1 ∙ ap (queue_at desk) (sym goes.0.queue))
        (rw (← goes.0.queue) at there)
        (subst (λ (o : Option RequestRow). HasStays after change.stays o) sets_is keeps.set)

    -- where a request's row isn't put, its stays are as before
    stays_stay : (r : Request) → request_at desk r.row.id ≡ Some r → Apart change.filed r.row
        → Apart change.row r.row → stays_at desk r.row.id ≡ stays_at after r.row.id
    stays_stay r found other unset =
        -- no entry on another request than the one whose row is put begins a stay
        let none : entries_for r.row.id (beginning change.entries) ≡ [] =
        grind (arith, keeps.begun, other, unset) in
        rw (found, found_changed change desk r.row.id r found, entries_changed change r)
        (sym (none_more r.entries (entries_for r.row.id change.entries)
        (beginning_for r.row.id change.entries ∙ none)))

    abbrev IsRenewed : Request → Type 0
    IsRenewed r =
        dues_after change (due_of_row s desk) (changed change r).row
        ≡ due_of_row s after (changed change r).row

    old_renewed : (r : Request) → Has desk.requests r → IsRenewed r
    old_renewed r has =
        let rs = desk.requests in
        let found = all_has (λ r. request_at desk r.row.id ≡ Some r) rs r
        (recursion_from_All _ rs (found_each 1 rs is.requests)) has in
        let there = test_has (λ r. is_some (queue_at desk r.row.queue)) rs r is.filed_in has in
        let low = below_next id_of 1 rs is.requests r has in
        -- it isn't the one that is filed
        let other : Apart change.filed r.row = grind (arith, nat_tests, low, fits.files) in
        rw (row_changed change r)
        (due_row change.due (due_of_row s desk) (due_of_row s after) r.row change.row change.filed
        other (set_due r found there change.row refl)
        (λ unset. due_stays r.row (stays_at desk r.row.id) there (stays_stay r found other unset)))

    -- what is filed is due when the change says
    filed_renewed : (row : RequestRow) → change.filed ≡ Some row → IsRenewed (filed row)
    filed_renewed row files =
        let created : (change.row ≡ None) × IsCreate command =
        elim filing [ inl none ↦ cc | inr it ↦ it ] in
        let next : FilesNext desk (Some row) = rw files at fits.files in
        let due = due_put row (ap (λ o. either_row o change.row) files)
        (files_in command s at caller desk row created.1 files) next.1
        (subst (λ (o : Option RequestRow). HasStays after change.stays o) files keeps.filed) in
        rw (row_changed change (filed row))
        (filed_row change.due (due_of_row s desk) (due_of_row s after) row change.row change.filed
        created.0 files due)

    all_renewed : (o : Option RequestRow) → change.filed ≡ o → (r : Request)
        → Has (request_filed o desk).requests r → IsRenewed r
    all_renewed None files r has = old_renewed r has
    all_renewed (Some row) files r has =
        elim (has_either desk.requests (filed row ∷ []) r has) [
          | inl old ↦ old_renewed r old
          | inr (inl same) ↦ rw same (filed_renewed row files)
          | inr (inr none) ↦ absurd none
        ]

    -- of whatever desk the change is decided on, the due moments after it are the desk's
    pub renewed : contents_of (dues_after change (due_of_row s desk)) after
        ≡ contents_of (due_of_row s after) after
    renewed =
        ap (λ (ds : List Dated). record (contents_of (due_of_row s after) after) { dated = ds })
        (rw (requests_after change desk) (simp map-map
        (map_alike _ (λ r. dated_by (due_of_row s after) (changed change r).row) _
        (λ r has. ap (λ (d : Option ℕ). ((changed change r).row, d))
        (all_renewed change.filed refl r has)))))
