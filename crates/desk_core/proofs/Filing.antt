-- A request that wasn't there is filed by the command.
use Rattle.std.proofs.Common.{◌≡◌, ◌∙◌, ℕ, ◌+◌, ◌==◌, Bool, true, false, cond, List, [], ◌∷◌, map}
use Rattle.std.proofs.Common.{fold, find, Option, Some, None, refl, ap, sym}
use Rattle.std.specs.Option.{option_map, option_or}
use Rattle.std.proofs.lemmas.Bool.{cond-true, eq-eqb}
use Rattle.std.proofs.lemmas.List.Folds.{find-append}
use Rattle.rights_core.specs.Right.{create_ticket}
use Rattle.settings_core.specs.declared.settings.Settings.{Settings}
use Rattle.text_core.specs.Texts.{is_among}
use Rattle.desk_model.specs.Change.{applied, filed, request_filed, with_entry}
use Rattle.desk_model.specs.Commands.Create as create
use Rattle.desk_model.specs.Desk.{Desk, Request, queue_at, request_at, request_count}
use Rattle.desk_model.specs.Facts.{facts_on_queue}
use Rattle.desk_model.specs.Lifecycles.{first_status, is_creatable, lifecycle_of}
use Rattle.desk_model.specs.Names.{in_order, with_name}
use Rattle.desk_model.specs.Plan.{Call}
use Rattle.desk_model.specs.Rights.{holds_on_queue}
use Rattle.desk_model.specs.Step.{call}
use Rattle.desk_model.specs.declared.change.Change.{Change}
use Rattle.desk_model.specs.declared.rows.Entry.{Entry}
use Rattle.desk_model.specs.declared.rows.RequestRow.{RequestRow}
use Rattle.desk_model.specs.declared.rows.Turn.TheVariants as turns
use Rattle.desk_core.proofs.Changed.{changed, found_mapped, id_changed}
use Rattle.desk_core.proofs.Changed.{left_at, left_by_all, noted_on, put_on, requests_after}
use Rattle.desk_core.proofs.Changed.{row_changed}
use Rattle.desk_core.proofs.Goes.{NoneHolds, holding}
use Rattle.desk_core.proofs.NamesLaw.{names_in_order_stay}

-- what is found after a change and wasn't there is what the change makes of the request that it
-- files
pub filed_by : (change : Change) (desk : Desk) (id : ℕ) (o : Option RequestRow) (request : Request)
    → change.filed ≡ o → request_at desk id ≡ None
    → request_at (applied change desk) id ≡ Some request
    → (row : RequestRow) × (o ≡ Some row) × (request ≡ changed change (filed row))
filed_by change desk id None request files none there =
    let has : Request → Bool = λ x. x.row.id == id in
    let found : request_at (applied change desk) id ≡ None =
    ap (find has) (requests_after change desk)
    ∙ found_mapped (changed change) (id_changed change) id
    (request_filed change.filed desk).requests
    ∙ ap (option_map (changed change)) (ap (λ o. find has (request_filed o desk).requests) files
    ∙ none) in
    let never : None ≡ Some request = sym found ∙ there in
    cc
filed_by change desk id (Some row) request files none there =
    let has : Request → Bool = λ x. x.row.id == id in
    let found : request_at (applied change desk) id
    ≡ option_map (changed change) (cond (row.id == id) (Some (filed row)) None) =
    ap (find has) (requests_after change desk)
    ∙ found_mapped (changed change) (id_changed change) id
    (request_filed change.filed desk).requests
    ∙ ap (option_map (changed change)) (ap (λ o. find has (request_filed o desk).requests) files
    ∙ find-append has desk.requests (filed row ∷ [])
    ∙ ap (λ o. option_or o (find has (filed row ∷ []))) none) in
    elim (row.id == id)
    as (λ b. option_map (changed change) (cond b (Some (filed row)) None) ≡ Some request
    → (new : RequestRow) × (Some row ≡ Some new) × (request ≡ changed change (filed new))) [
      | true ↦ λ e.
          let same : changed change (filed row) ≡ request = cc in
          (row, refl, sym same)
      | false ↦ λ e. cc
    ] (sym found ∙ there)

pub not_both : (o : Option RequestRow) (row : RequestRow) → o ≡ None → o ≡ Some row → ⊥
not_both None row none files = cc
not_both (Some other) row none files = cc

-- persons who are put into the role of requestors
requestors_put : (id : ℕ) (names : List (List ℕ)) (r : Request) → r.row.id ≡ id
    → (fold put_on r (map (create.requestor id) names)).requestors ≡ fold with_name r.requestors names
requestors_put id [] r same = refl
requestors_put id (name ∷ names) r same =
    let one : put_on r (create.requestor id name)
    ≡ record r { requestors = with_name r.requestors name } =
    cond-true (r.row.id == id) (record r { requestors = with_name r.requestors name }) r
    (eq-eqb r.row.id id same) in
    ap (λ q. (fold put_on q (map (create.requestor id) names)).requestors) one
    ∙ requestors_put id names (record r { requestors = with_name r.requestors name }) same

-- and the other roles
cc_put : (id : ℕ) (names : List (List ℕ)) (r : Request) → r.row.id ≡ id
    → (fold put_on r (map (create.requestor id) names)).cc ≡ r.cc
cc_put id [] r same = refl
cc_put id (name ∷ names) r same =
    let one : put_on r (create.requestor id name)
    ≡ record r { requestors = with_name r.requestors name } =
    cond-true (r.row.id == id) (record r { requestors = with_name r.requestors name }) r
    (eq-eqb r.row.id id same) in
    ap (λ q. (fold put_on q (map (create.requestor id) names)).cc) one
    ∙ cc_put id names (record r { requestors = with_name r.requestors name }) same

admin_cc_put : (id : ℕ) (names : List (List ℕ)) (r : Request) → r.row.id ≡ id
    → (fold put_on r (map (create.requestor id) names)).admin_cc ≡ r.admin_cc
admin_cc_put id [] r same = refl
admin_cc_put id (name ∷ names) r same =
    let one : put_on r (create.requestor id name)
    ≡ record r { requestors = with_name r.requestors name } =
    cond-true (r.row.id == id) (record r { requestors = with_name r.requestors name }) r
    (eq-eqb r.row.id id same) in
    ap (λ q. (fold put_on q (map (create.requestor id) names)).admin_cc) one
    ∙ admin_cc_put id names (record r { requestors = with_name r.requestors name }) same

-- a part of a request that its entries leave alone
noted_alike : {Y : Type 0} (part : Request → Y) → ((e : Entry) (r : Request)
    → part (with_entry e r) ≡ part r) → (entries : List Entry) (r : Request)
    → part (fold noted_on r entries) ≡ part r
noted_alike part leaves entries r =
    left_by_all part noted_on (λ x e. left_at part e.id (with_entry e) (leaves e) x) entries r

-- what is true of a request that a command files
pub record IsFiled (settings : Settings) (at : ℕ) (caller queue about : List ℕ)
    (given : List (List ℕ)) (desk : Desk) (request : Request) : Type 0 where
  pub number : request.row.id ≡ request_count desk + 1
  pub subject : request.row.subject ≡ about
  pub status : is_creatable (lifecycle_of settings (queue_at desk queue)) request.row.status ≡ true
  pub owner : request.row.owner ≡ None
  pub level : request.row.level ≡ create.first_level (queue_at desk queue)
  pub created : request.row.created ≡ at
  pub opened : request.row.opened ≡ at
  pub turn : request.row.turn ≡ turns.Desk
  pub since : request.row.since ≡ at
  pub requestors : (name : List ℕ)
      → is_among request.requestors name ≡ is_among (create.given_or_caller caller given) name
  pub cc : request.cc ≡ []
  pub admin_cc : request.admin_cc ≡ []
  pub may_create : holds_on_queue settings caller create_ticket queue ≡ true

-- a request that a command files with the next number
pub filed_so : (call : Call) (desk : Desk) (queue subject : List ℕ) (status : Option (List ℕ))
    (requestors : List (List ℕ))
    → NoneHolds (create.conditions queue status requestors call (facts_on_queue desk queue))
    → IsFiled call.settings call.at call.caller queue subject requestors desk
    (changed (create.change queue subject status requestors call (facts_on_queue desk queue))
    (filed (create.new_row (request_count desk + 1) call.at queue subject
    (first_status (lifecycle_of call.settings (queue_at desk queue)) status)
    (queue_at desk queue))))
filed_so call desk queue subject status requestors none =
    let id = request_count desk + 1 in
    let change = create.change queue subject status requestors call (facts_on_queue desk queue) in
    let lifecycle = lifecycle_of call.settings (queue_at desk queue) in
    let new = create.new_row id call.at queue subject (first_status lifecycle status)
    (queue_at desk queue) in
    let names = in_order (create.given_or_caller call.caller requestors) in
    let put : Request = fold put_on (filed new) (map (create.requestor id) names) in
    let row : (changed change (filed new)).row ≡ new = row_changed change (filed new) in
    record {
      number = ap (λ (r : RequestRow). r.id) row;
      subject = ap (λ (r : RequestRow). r.subject) row;
      status = ap (λ (r : RequestRow). is_creatable lifecycle r.status) row
          ∙ holding (is_creatable lifecycle (first_status lifecycle status)) none.1.1.1.0;
      owner = ap (λ (r : RequestRow). r.owner) row;
      level = ap (λ (r : RequestRow). r.level) row;
      created = ap (λ (r : RequestRow). r.created) row;
      opened = ap (λ (r : RequestRow). r.opened) row;
      turn = ap (λ (r : RequestRow). r.turn) row;
      since = ap (λ (r : RequestRow). r.since) row;
      requestors = λ name.
          ap (λ (persons : List (List ℕ)). is_among persons name)
          (noted_alike (λ r. r.requestors) (λ e r. refl) change.entries put
          ∙ requestors_put id names (filed new) refl)
          ∙ names_in_order_stay names name
          ∙ names_in_order_stay (create.given_or_caller call.caller requestors) name;
      cc = noted_alike (λ r. r.cc) (λ e r. refl) change.entries put
          ∙ cc_put id names (filed new) refl;
      admin_cc = noted_alike (λ r. r.admin_cc) (λ e r. refl) change.entries put
          ∙ admin_cc_put id names (filed new) refl;
      may_create =
          holding (holds_on_queue call.settings call.caller create_ticket queue) none.1.1.0;
    }
