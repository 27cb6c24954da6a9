-- Settings know each name of a desk exactly where none is the first that they don't.
use Rattle.std.proofs.Common.{◌≡◌, ◌∙◌, ℕ, Bool, true, false, List, [], ◌∷◌, ◌++◌, Option, None, Some}
use Rattle.std.proofs.Common.{ap, ap₂, cond, flat_map, map, refl, sym}
use Rattle.std.proofs.lemmas.List.Folds.{list_all-append}
use Rattle.std.specs.List.{list_all}
use Rattle.std.specs.Option.{option_map, option_or}
use Rattle.std.specs.Prelude.{◌&&◌, is_none, is_some, if◌then◌else◌}
use Rattle.settings_core.specs.Settings.{knows, level_named, lifecycle_named}
use Rattle.settings_core.specs.declared.settings.Settings.{Settings}
use Rattle.desk_model.specs.Desk.{Desk, Request}
use Rattle.desk_model.specs.Known.{is_known, knows_actors, knows_level, knows_owner, knows_persons}
use Rattle.desk_model.specs.Known.{knows_queue, knows_row}
use Rattle.desk_model.specs.Known as known
use Rattle.desk_model.specs.declared.rows.Entry.{Entry}
use Rattle.desk_model.specs.declared.rows.QueueRow.{QueueRow}
use Rattle.desk_model.specs.declared.rows.RequestRow.{RequestRow}
use Rattle.desk_model.specs.declared.rows.Watcher.{Watcher}
use Rattle.store_tables.specs.Contents.{entries, request_rows, watchers}
use Rattle.service_core.specs.Attaching.{of_queues}
use Rattle.service_core.proofs.KnownLemmas.{persons_of_all}
use Rattle.check_core.specs.Rows.{FirstUnknownLaw, first_unknown, knows_status}
use Rattle.check_core.specs.Rows.{unknown_entry, unknown_level, unknown_of_queue}
use Rattle.check_core.specs.Rows.{unknown_of_request, unknown_owner, unknown_queue}
use Rattle.check_core.specs.Rows.{unknown_request, unknown_row, unknown_watcher}

-- ---- where none is told

-- of one, or else of another
of_two : {X : Type 0} (a b : Option X) → is_none (option_or a b) ≡ (is_none a && is_none b)
of_two None b = refl
of_two (Some x) b = refl

-- of a name that is asked for first
of_both : {X : Type 0} (b : Bool) (rest : Option X) (x : X)
    → (b && is_none rest) ≡ is_none (if b then rest else Some x)
of_both true rest x = refl
of_both false rest x = refl

-- of a name alone
of_name : {X : Type 0} (b : Bool) (x : X) → b ≡ is_none (if b then None else Some x)
of_name true x = refl
of_name false x = refl

-- wherever it stands
of_place : {X Y : Type 0} (f : X → Y) (o : Option X) → is_none o ≡ is_none (option_map f o)
of_place f None = refl
of_place f (Some x) = refl

-- ---- of rows

module _ (s : Settings) where
  of_level : (level : Option (List ℕ)) → knows_level s level ≡ is_none (unknown_level s level)
  of_level None = refl
  of_level (Some level) = of_name (is_some (level_named s level)) _

  of_owner : (owner : Option (List ℕ)) → knows_owner s owner ≡ is_none (unknown_owner s owner)
  of_owner None = refl
  of_owner (Some owner) = of_name (knows s owner) _

  of_queue : (q : QueueRow) → knows_queue s q ≡ is_none (unknown_of_queue s q)
  of_queue q =
      let known = is_some (lifecycle_named s q.lifecycle) in
      ap (λ b. known && b) (of_level q.level) ∙ of_both known (unknown_level s q.level) _

  of_all_queues : (qs : List QueueRow) → list_all (knows_queue s) qs ≡ is_none (unknown_queue s qs)
  of_all_queues [] = refl
  of_all_queues (q ∷ qs) =
      ap₂ ◌&&◌ (of_queue q ∙ of_place _ (unknown_of_queue s q)) (of_all_queues qs)
      ∙ sym (of_two _ (unknown_queue s qs))

  module _ (queues : List QueueRow) where
    of_request : (r : RequestRow)
        → knows_row s (of_queues queues) r ≡ is_none (unknown_of_request s queues r)
    of_request r =
        let level = unknown_level s r.level in
        let owner = unknown_owner s r.owner in
        ap (λ b. knows_status s queues r && b)
        (ap₂ ◌&&◌ (of_level r.level) (of_owner r.owner) ∙ sym (of_two level owner))
        ∙ of_both (knows_status s queues r) (option_or level owner) _

    of_all_requests : (rs : List Request)
        → list_all (λ r. knows_row s (of_queues queues) r.row) rs
        ≡ is_none (unknown_request s queues (map (λ r. r.row) rs))
    of_all_requests [] = refl
    of_all_requests (r ∷ rs) =
        ap₂ ◌&&◌ (of_request r.row ∙ of_place _ (unknown_of_request s queues r.row))
        (of_all_requests rs)
        ∙ sym (of_two _ (unknown_request s queues (map (λ (x : Request). x.row) rs)))

  of_all_watchers : (ws : List Watcher)
      → list_all (λ w. knows s w.person) ws ≡ is_none (unknown_watcher s ws)
  of_all_watchers [] = refl
  of_all_watchers (w ∷ ws) =
      ap (λ b. knows s w.person && b) (of_all_watchers ws)
      ∙ of_both (knows s w.person) (unknown_watcher s ws) _

  of_all_entries : (es : List Entry)
      → list_all (λ e. knows s e.actor) es ≡ is_none (unknown_entry s es)
  of_all_entries [] = refl
  of_all_entries (e ∷ es) =
      ap (λ b. knows s e.actor && b) (of_all_entries es)
      ∙ of_both (knows s e.actor) (unknown_entry s es) _

  -- ---- of a desk

  actors_of_all : (rs : List Request)
      → list_all (knows_actors s) rs
      ≡ list_all (λ e. knows s e.actor) (flat_map (λ (r : Request). r.entries) rs)
  actors_of_all [] = refl
  actors_of_all (r ∷ rs) =
      ap (λ b. knows_actors s r && b) (actors_of_all rs)
      ∙ sym (list_all-append (λ (e : Entry). knows s e.actor) r.entries
      (flat_map (λ (x : Request). x.entries) rs))

in_pairs : (a b c : Bool) → (a && (b && c)) ≡ ((a && b) && c)
in_pairs true b c = refl
in_pairs false b c = refl

pub known_of_none : FirstUnknownLaw
unfolding first_unknown is_known
known_of_none s desk =
    let queues = unknown_queue s desk.queues in
    let requests = unknown_request s desk.queues (request_rows desk) in
    let persons = unknown_watcher s (watchers desk) in
    let actors = unknown_entry s (entries desk) in
    ap₂ ◌&&◌ (of_all_queues s desk.queues)
    (ap₂ ◌&&◌ (of_all_requests s desk.queues desk.requests)
    (ap₂ ◌&&◌ (sym (persons_of_all s desk.requests) ∙ of_all_watchers s (watchers desk))
    (actors_of_all s desk.requests ∙ of_all_entries s (entries desk))))
    ∙ in_pairs (is_none queues) (is_none requests) (is_none persons && is_none actors)
    ∙ ap₂ ◌&&◌ (sym (of_two queues requests)) (sym (of_two persons actors))
    ∙ sym (of_two (option_or queues requests) (option_or persons actors))
