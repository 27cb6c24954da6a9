-- Examples of what readings tell: queues, lists, histories, late requests at the minute and one past
-- it, workloads, and links as far as they may be shown.
use Rattle.std.specs.Prelude.{◌≡◌, refl, ℕ, true, false, List, [], ◌∷◌, codes, Option, Some, None}
use Rattle.std.specs.Prelude.{Ok, Err}
use Rattle.desk_model.specs.Plan.{Call}
use Rattle.desk_model.specs.Readings.Dossier.{IsOfQueue, history_in, shown_in}
use Rattle.desk_model.specs.Readings.History as history
use Rattle.desk_model.specs.Readings.Listing as listing
use Rattle.desk_model.specs.Readings.Overdue as overdue
use Rattle.desk_model.specs.Readings.Queues as queues
use Rattle.desk_model.specs.Readings.Show as show
use Rattle.desk_model.specs.Readings.Workload as workload
use Rattle.desk_model.specs.Told as reports
use Rattle.desk_model.specs.Told.{Told, is_late}
use Rattle.desk_model.specs.declared.answer.Answer.TheVariants as answer
use Rattle.desk_model.specs.declared.answer.Dossier.{Dossier}
use Rattle.desk_model.specs.declared.answer.LateLine.{LateLine}
use Rattle.desk_model.specs.declared.answer.Links.{Links}
use Rattle.desk_model.specs.declared.answer.Load.{Load}
use Rattle.desk_model.specs.declared.answer.Shown.{Shown}
use Rattle.desk_model.specs.declared.refusal.Refusal.TheVariants.{NotFound}
use Rattle.desk_model.proofs.Examples.Office.{by_hand, office, general, sales, printer, order}
use Rattle.desk_model.proofs.Examples.Office.{toner, first_of_printer, comment_on_printer}
use Rattle.desk_model.proofs.Examples.Office.{move_of_printer, desk}

-- Told.antt

abbrev told_printer : Told
told_printer = record { row = printer; due = Some 68374010; is_live = true }

abbrev told_toner : Told
told_toner = record { row = toner; due = Some 68374015; is_live = true }

abbrev told_order : Told
told_order = record { row = order; due = None; is_live = false }

told_to_ann : reports.told office (codes "ann") desk ≡ told_printer ∷ told_toner ∷ []
unfolding by_hand
told_to_ann = refl

told_to_cid : reports.told office (codes "cid") desk ≡ told_order ∷ []
unfolding by_hand
told_to_cid = refl

at_its_due_moment_it_isn't_late : is_late 68374010 told_printer ≡ false
at_its_due_moment_it_isn't_late = refl

a_minute_after_it_is : is_late 68374011 told_printer ≡ true
a_minute_after_it_is = refl

never_late_where_never_due : is_late 68374079 told_order ≡ false
never_late_where_never_due = refl

-- Readings

abbrev asks_at : ℕ → List ℕ → Call
asks_at at caller = record { settings = office; at = at; caller = caller }

abbrev asks : List ℕ → Call
asks caller = asks_at 68374011 caller

queues_of_bob : queues.told (asks (codes "bob")) desk ≡ answer.Queues (general ∷ [])
unfolding by_hand
queues_of_bob = refl

-- who sees requests in it
queues_of_ann : queues.told (asks (codes "ann")) desk ≡ answer.Queues []
unfolding by_hand
queues_of_ann = refl

queues_of_dora : queues.told (asks (codes "dora")) desk ≡ answer.Queues (general ∷ sales ∷ [])
unfolding by_hand
queues_of_dora = refl

list_of_general :
    listing.told (codes "general") (asks (codes "bob")) desk
    ≡ answer.Listed
    (record {
      id = 1;
      status = codes "open";
      owner = Some (codes "bob");
      due = Some 68374010;
      subject = codes "Printer";
    }
    ∷ record {
      id = 3;
      status = codes "new";
      owner = None;
      due = Some 68374015;
      subject = codes "Toner";
    }
    ∷ [])
unfolding by_hand
list_of_general = refl

list_of_sales_without_what_is_hidden :
    listing.told (codes "sales") (asks (codes "bob")) desk ≡ answer.Listed []
unfolding by_hand
list_of_sales_without_what_is_hidden = refl

-- resolved requests are listed too
list_of_sales :
    listing.told (codes "sales") (asks (codes "dora")) desk
    ≡ answer.Listed
    (record {
      id = 2;
      status = codes "resolved";
      owner = None;
      due = None;
      subject = codes "Order";
    }
    ∷ [])
unfolding by_hand
list_of_sales = refl

history_without_comments :
    history.told 1 (asks (codes "ann")) desk
    ≡ answer.History (first_of_printer ∷ move_of_printer ∷ [])
unfolding by_hand
history_without_comments = refl

history_with_comments :
    history.told 1 (asks (codes "bob")) desk
    ≡ answer.History (first_of_printer ∷ comment_on_printer ∷ move_of_printer ∷ [])
unfolding by_hand
history_with_comments = refl

abbrev late : ℕ → Option (List ℕ) → ℕ → ℕ → LateLine
late id owner due minutes =
    record { id = id; queue = codes "general"; owner = owner; due = due; late = minutes }

nothing_is_overdue_yet : overdue.told (asks_at 68374010 (codes "bob")) desk ≡ answer.Late []
unfolding by_hand
nothing_is_overdue_yet = refl

one_is_overdue :
    overdue.told (asks_at 68374011 (codes "bob")) desk
    ≡ answer.Late (late 1 (Some (codes "bob")) 68374010 1 ∷ [])
unfolding by_hand
one_is_overdue = refl

two_are_overdue :
    overdue.told (asks_at 68374020 (codes "bob")) desk
    ≡ answer.Late (late 1 (Some (codes "bob")) 68374010 10 ∷ late 3 None 68374015 5 ∷ [])
unfolding by_hand
two_are_overdue = refl

none_are_overdue_for_cid : overdue.told (asks_at 68374079 (codes "cid")) desk ≡ answer.Late []
unfolding by_hand
none_are_overdue_for_cid = refl

-- by due moments, and those of one moment by their numbers
order_of_late_lines :
    overdue.in_due_order (late 3 None 5 1 ∷ late 2 None 9 1 ∷ late 1 None 5 1 ∷ [])
    ≡ late 1 None 5 1 ∷ late 3 None 5 1 ∷ late 2 None 9 1 ∷ []
order_of_late_lines = refl

abbrev load : Option (List ℕ) → ℕ → ℕ → Load
load owner live overdue = record { owner = owner; live = live; overdue = overdue }

-- what is resolved doesn't count
workload_of_all :
    workload.told (asks (codes "dora")) desk
    ≡ answer.Workload (load None 1 0 ∷ load (Some (codes "bob")) 1 1 ∷ [])
unfolding by_hand
workload_of_all = refl

workload_of_what_is_resolved : workload.told (asks (codes "cid")) desk ≡ answer.Workload []
unfolding by_hand
workload_of_what_is_resolved = refl

-- nobody first, then by names; each counts its own
loads_of_three :
    workload.loads 68374011
    (record told_toner { row = record toner { owner = Some (codes "cid") } }
    ∷ told_printer ∷ told_toner ∷ told_printer ∷ [])
    ≡ load None 1 0 ∷ load (Some (codes "bob")) 2 2 ∷ load (Some (codes "cid")) 1 0 ∷ []
loads_of_three = refl

printer_is_owned_by_bob : workload.is_owned_by (Some (codes "bob")) told_printer ≡ true
printer_is_owned_by_bob = refl

-- of names that begin alike the whole name counts
printer_is_not_owned_by_another : workload.is_owned_by (Some (codes "bobby")) told_printer ≡ false
printer_is_not_owned_by_another = refl

printer_is_not_owned_by_nobody : workload.is_owned_by None told_printer ≡ false
printer_is_not_owned_by_nobody = refl

toner_is_owned_by_nobody : workload.is_owned_by None told_toner ≡ true
toner_is_owned_by_nobody = refl

abbrev no_links : Links
no_links =
    record {
      depends_on = [];
      depended_on_by = [];
      member_of = [];
      has_member = [];
      refers_to = [];
      referred_to_by = [];
    }

abbrev shown_printer : Links → Shown
shown_printer links =
    record {
      row = printer;
      requestors = codes "ann" ∷ [];
      cc = [];
      admin_cc = [];
      due = Some 68374010;
      links = links;
    }

-- the order is hidden from ann
printer_is_shown_to_ann :
    show.told 1 (asks (codes "ann")) desk
    ≡ answer.Shown (shown_printer (record no_links { depends_on = 3 ∷ []; has_member = 3 ∷ [] }))
unfolding by_hand
printer_is_shown_to_ann = refl

printer_is_shown_to_dora :
    show.told 1 (asks (codes "dora")) desk
    ≡ answer.Shown
    (shown_printer (record no_links { depends_on = 2 ∷ 3 ∷ []; has_member = 3 ∷ [] }))
unfolding by_hand
printer_is_shown_to_dora = refl

links_of_the_toner :
    show.links_of office (codes "bob") desk 3
    ≡ record no_links { depended_on_by = 1 ∷ []; member_of = 1 ∷ [] }
unfolding by_hand
links_of_the_toner = refl

links_of_the_order : show.links_of office (codes "cid") desk 2 ≡ no_links
unfolding by_hand
links_of_the_order = refl

-- Readings/Dossier.antt

abbrev dossier : Dossier
dossier =
    record {
      shown = shown_printer no_links;
      entries = first_of_printer ∷ [];
      queue = general;
    }

shown_in_a_dossier : shown_in (Ok dossier) ≡ Ok (answer.Shown (shown_printer no_links))
shown_in_a_dossier = refl

history_in_a_dossier : history_in (Ok dossier) ≡ Ok (answer.History (first_of_printer ∷ []))
history_in_a_dossier = refl

no_dossier_is_shown : shown_in (Err NotFound) ≡ Err NotFound
no_dossier_is_shown = refl

dossier_is_of_its_queue : IsOfQueue dossier desk
dossier_is_of_its_queue = refl
