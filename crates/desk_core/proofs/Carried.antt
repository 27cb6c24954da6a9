-- The stays that a change carries are those that its request has afterwards.
use Rattle.std.proofs.Common.{◌≡◌, ◌∙◌, ℕ, ◌+◌, true, List, [], ◌++◌, length}
use Rattle.std.proofs.Common.{Option, Some, None, refl, ap, sym, subst, arith}
use Rattle.std.specs.Option.{is_some, option_map_or}
use Rattle.hours_core.specs.declared.stay.Stay.{Stay}
use Rattle.settings_core.specs.declared.settings.Settings.{Settings}
use Rattle.desk_model.specs.Change.{applied, filed}
use Rattle.desk_model.specs.Commands.{plan_of}
use Rattle.desk_model.specs.Commands.Create as create
use Rattle.desk_model.specs.Commands.Reply as reply
use Rattle.desk_model.specs.Dated.{either_row, stays_put}
use Rattle.desk_model.specs.Desk.{Desk, Request, request_at}
use Rattle.desk_model.specs.Facts.{facts_on_queue, seen_request, stays_at}
use Rattle.desk_model.specs.IsDesk.{IsDesk}
use Rattle.desk_model.specs.Lifecycles.{first_status, lifecycle_of}
use Rattle.desk_model.specs.Plan.{Call, Stays, besides_on}
use Rattle.desk_model.specs.Stays.{stays_after, stays_of}
use Rattle.desk_model.specs.Step.{call, facts_of}
use Rattle.desk_model.specs.declared.change.Change.{Change}
use Rattle.desk_model.specs.declared.command.Command.{Command}
use Rattle.desk_model.specs.declared.command.Command.TheVariants.{OpenQueue, Create, Reply}
use Rattle.desk_model.specs.declared.command.Command.TheVariants.{SetStatus}
use Rattle.desk_model.specs.declared.facts.SeenRequest.{SeenRequest}
use Rattle.desk_model.specs.declared.rows.Entry.{Entry}
use Rattle.desk_model.specs.declared.rows.RequestRow.{RequestRow}
use Rattle.desk_model.proofs.StayLemmas.{stays_joined}
use Rattle.desk_core.proofs.Changed.{AllOf, OnlyOf, changed, entries_changed, found_changed}
use Rattle.desk_core.proofs.Changed.{found_filed, row_id}
use Rattle.desk_core.proofs.DeskLaw.ByKind.{Meets, by_plan}
use Rattle.desk_core.proofs.Goes.{number_found}
use Rattle.desk_core.proofs.Told.{all_for}
use Rattle.desk_core.proofs.Touches.{number_within, only_of_few, second_of}
use Rattle.desk_core.specs.Carried.{CarriesStays, HasStays, IsOneOf, beginning}

-- no request has the next number
none_next : (desk : Desk) → IsDesk desk → request_at desk (length desk.requests + 1) ≡ None
none_next desk is =
    let id = length desk.requests + 1 in
    elim (request_at desk id)
    as (λ o. request_at desk id ≡ o → o ≡ None) [
      | None ↦ λ there. refl
      | Some r ↦ λ there.
          absurd (omega (
            arith,
            number_found desk id r there,
            number_within 1 id desk.requests r is.requests there,
          ))
    ] refl

-- the stays of a request after a change of its entries alone
stays_changed : (change : Change) (desk : Desk) (id : ℕ) (r : Request)
    → request_at (applied change desk) id ≡ Some (changed change r)
    → AllOf (λ e. e.id) r.row.id change.entries
    → stays_after (stays_of r.entries) change.entries ≡ stays_at (applied change desk) id
stays_changed change desk id r found all =
    stays_joined r.entries change.entries
    ∙ ap stays_of (sym (entries_changed change r
    ∙ ap (λ es. r.entries ++ es) (all_for r.row.id change.entries all)))
    ∙ ap (λ o. option_map_or (λ (x : Request). stays_of x.entries) o []) (sym found)

-- after these stays a change carries those that the request whose row it puts has afterwards
record Carries (stays : List Stay) (desk : Desk) (change : Change) : Type 0 where
  pub filed : HasStays (applied change desk)
      (stays_put stays change.entries (either_row change.filed change.row)) change.filed
  pub set : HasStays (applied change desk)
      (stays_put stays change.entries (either_row change.filed change.row)) change.row

row_has : (desk : Desk) (stays : List Stay) (entries : List Entry) (id : ℕ)
    (row : Option RequestRow) → row_id id row ≡ id
    → (is_some row ≡ true → stays_after stays entries ≡ stays_at desk id)
    → HasStays desk (stays_put stays entries row) row
row_has desk stays entries id None same after = tt
row_has desk stays entries id (Some row) same after = after refl ∙ ap (stays_at desk) (sym same)

-- a change of the request that is found, whose stays these are
set_on : (stays : List Stay) (change : Change) (desk : Desk) (id : ℕ) (r : Request)
    → request_at desk id ≡ Some r → id ≡ r.row.id → OnlyOf r.row.id change → change.filed ≡ None
    → (is_some change.row ≡ true → stays ≡ stays_at desk id) → Carries stays desk change
set_on stays change desk id r there same only none are =
    let own : stays_at desk id ≡ stays_of r.entries =
    ap (λ o. option_map_or (λ (x : Request). stays_of x.entries) o []) there in
    let row = row_has (applied change desk) stays change.entries id change.row
    (ap (λ n. row_id n change.row) same ∙ only.row ∙ sym same)
    (λ some. ap (λ ss. stays_after ss change.entries) (are some ∙ own)
    ∙ stays_changed change desk id r (found_changed change desk id r there) only.entries) in
    let put = stays_put stays change.entries (either_row change.filed change.row) in
    record {
      filed = subst (HasStays (applied change desk) put) (sym none) tt;
      set = subst (λ o. HasStays (applied change desk)
          (stays_put stays change.entries (either_row o change.row)) change.row) (sym none) row;
    }

carries : (desk : Desk) → IsDesk desk → (command : Command)
    → Meets (Carries (facts_of command desk).stays) desk (plan_of command)
carries desk is (OpenQueue name lifecycle level) = λ call none. record { filed = tt; set = tt }
carries desk is (Create queue subject status requestors) = λ call none.
    let facts = facts_on_queue desk queue in
    let change = create.change queue subject status requestors call facts in
    let row = create.new_row (facts.request_count + 1) call.at queue subject
    (first_status (lifecycle_of call.settings facts.queue) status) facts.queue in
    record {
      filed = stays_changed change desk row.id (filed row)
          (found_filed change desk row (none_next desk is) refl) (refl, tt);
      set = tt;
    }
carries desk is (Reply id text) = λ call r there same none.
    set_on _ _ desk id r there same (record {
      row = refl;
      put = tt;
      taken = tt;
      entries = (refl, second_of call (seen_request r) _);
    }) refl (λ some. refl)
carries desk is other = λ call r there same none.
    set_on _ _ desk _ r there same (only_of_few _ r.row.id refl (refl, tt) (refl, tt) (refl, tt))
    refl (λ some. cc)

-- at most one entry begins a stay, on the request whose row is put
abbrev Begins : Desk → Change → Type 0
Begins desk change = IsOneOf (either_row change.filed change.row) (beginning change.entries)

reply_begins : (text : List ℕ) (call : Call) (request : SeenRequest) (row : RequestRow)
    (move : Option (List ℕ)) → row.id ≡ request.row.id
    → IsOneOf (Some row) (beginning (reply.entries_of text call request move))
reply_begins text call request row None same = tt
reply_begins text call request row (Some status) same = ap Some same

begins : (desk : Desk) (command : Command) → Meets Begins desk (plan_of command)
begins desk (OpenQueue name lifecycle level) = λ call none. tt
begins desk (Create queue subject status requestors) = λ call none. refl
begins desk (SetStatus id status) = λ call r there same none. refl
begins desk (Reply id text) = λ call r there same none.
    let facts = besides_on Stays id desk in
    let move = reply.move_of call facts (seen_request r) in
    reply_begins text call (seen_request r) (reply.replied_row call facts move (seen_request r))
    move refl
begins desk other = λ call r there same none. tt

pub carried_law : (s : Settings) (at : ℕ) (caller : List ℕ) (command : Command) (desk : Desk)
    → CarriesStays s at caller command desk
carried_law s at caller command desk is free =
    let asks = call s at caller in
    let plan = plan_of command in
    let carried = by_plan (Carries (facts_of command desk).stays) asks plan desk
    (record { filed = tt; set = tt }) (carries desk is command) free in
    record {
      filed = carried.filed;
      set = carried.set;
      begun = by_plan Begins asks plan desk tt (begins desk command) free;
    }
