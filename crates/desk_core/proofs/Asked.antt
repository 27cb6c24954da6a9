-- Which rights an accepted command has asked for.
use Rattle.std.proofs.Common.{◌≡◌, ◌⊎◌, ◌∙◌, ℕ, Bool, true, false, ◌&&◌, ◌||◌}
use Rattle.std.proofs.Common.{List, [], ◌∷◌, find, Option, Some, None, codes}
use Rattle.std.proofs.Common.{unwrap_or, inl, inr, refl, ap}
use Rattle.std.specs.List.{list_any}
use Rattle.std.specs.Option.{option_map}
use Rattle.std.specs.Str.{bytes_eq}
use Rattle.std.proofs.lemmas.Bool.{and_cases, and_left, and_parts, and_right, cond-false, cond-true}
use Rattle.std.proofs.lemmas.Bool.{false_from_ne_true, or_cases}
use Rattle.std.proofs.lemmas.Bool.{or_parts}
use Rattle.std.proofs.lemmas.Slice.Eq.{bytes_eq-Decides}
use Rattle.lifecycle_core.specs.Lifecycle.{any_status, right_of_entry, right_of_move, usual_right}
use Rattle.lifecycle_core.specs.declared.parts.MoveRight.{MoveRight}
use Rattle.lifecycle_core.specs.declared.parts.Parts.{Parts}
use Rattle.rights_core.specs.Right as rights
use Rattle.rights_core.specs.Right.{delete_ticket, modify_ticket}
use Rattle.settings_core.specs.declared.settings.Settings.{Settings}
use Rattle.desk_model.specs.Commands.Watch as watch
use Rattle.desk_model.specs.Condition.{Condition, first_holding}
use Rattle.desk_model.specs.Desk.{Desk, Request, request_at}
use Rattle.desk_model.specs.Facts.{seen_request}
use Rattle.desk_model.specs.Plan.{Call, is_missing, on_shown}
use Rattle.desk_model.specs.Rights.{holds_on, may_show}
use Rattle.desk_model.specs.Step.{call}
use Rattle.desk_model.specs.declared.facts.SeenRequest.{SeenRequest}
use Rattle.desk_model.specs.declared.refusal.Refusal.TheVariants.{NotFound}
use Rattle.desk_model.specs.declared.rows.WatchRole.{WatchRole}
use Rattle.desk_model.specs.declared.rows.WatchRole.TheVariants.{Requestor, Cc, AdminCc}
use Rattle.desk_core.proofs.Goes.{NoneHolds, holding, none_holds, passed}
use Rattle.desk_core.specs.Usual.{AsksUsualRight, names_move, stands_for}

-- the request of a command that isn't refused is there, the caller may show it, and none of the
-- command's own conditions holds
pub shown_by : (call : Call) (desk : Desk) (id : ℕ) (o : Option Request)
    (asks : SeenRequest → List Condition)
    → request_at desk id ≡ o
    → first_holding (on_shown call (option_map seen_request o) asks) ≡ None
    → (r : Request) × (request_at desk id ≡ Some r)
    × (may_show call.settings call.caller (seen_request r) ≡ true)
    × NoneHolds (asks (seen_request r))
shown_by call desk id None asks there free = cc
shown_by call desk id (Some r) asks there free =
    let request = seen_request r in
    let both = passed (NotFound, is_missing call (Some request)) (asks request) free in (
      r,
      there,
      holding (may_show call.settings call.caller request) both.0,
      none_holds (asks request) both.1,
    )

-- watching

-- the caller may modify the request, or names himself and holds this right on it
abbrev pub MaySetPerson : Settings → List ℕ → List ℕ → List ℕ → SeenRequest → Type 0
MaySetPerson settings caller person right request =
    (holds_on settings caller modify_ticket request ≡ true)
    ⊎ ((person ≡ caller) × (holds_on settings caller right request ≡ true))

-- the caller may put the person into a role, and take him out of it
abbrev pub MaySetRole : Settings → List ℕ → WatchRole → List ℕ → SeenRequest → Type 0
MaySetRole settings caller Requestor person request =
    MaySetPerson settings caller person rights.watch request
MaySetRole settings caller Cc person request =
    MaySetPerson settings caller person rights.watch request
MaySetRole settings caller AdminCc person request =
    MaySetPerson settings caller person rights.watch_as_admin_cc request

may_set : (call : Call) (person right : List ℕ) (request : SeenRequest)
    → (holds_on call.settings call.caller modify_ticket request
    || (bytes_eq person call.caller && holds_on call.settings call.caller right request)) ≡ true
    → MaySetPerson call.settings call.caller person right request
may_set call person right request may =
    elim (or_cases (holds_on call.settings call.caller modify_ticket request)
    (bytes_eq person call.caller && holds_on call.settings call.caller right request) may) [
      | inl modifies ↦ inl modifies
      | inr own ↦
          let parts = and_parts (bytes_eq person call.caller)
          (holds_on call.settings call.caller right request) own in
          inr ((bytes_eq-Decides person call.caller).0 parts.0, parts.1)
    ]

pub may_set_role : (call : Call) (role : WatchRole) (person : List ℕ) (request : SeenRequest)
    → watch.may_set_role role person call request ≡ true
    → MaySetRole call.settings call.caller role person request
may_set_role call Requestor person request may =
    may_set call person (watch.right_to_watch Requestor) request may
may_set_role call Cc person request may = may_set call person (watch.right_to_watch Cc) request may
may_set_role call AdminCc person request may =
    may_set call person (watch.right_to_watch AdminCc) request may

-- moves

none_found : {X : Type 0} (test other : X → Bool) (xs : List X)
    → ((x : X) → other x ≡ false → test x ≡ false) → list_any other xs ≡ false
    → find test xs ≡ None
none_found test other [] fails none = refl
none_found test other (x ∷ xs) fails none =
    let parts = or_parts (other x) (list_any other xs) none in
    cond-false (test x) (Some x) (find test xs) (fails x parts.0)
    ∙ none_found test other xs fails parts.1

-- where neither of two and neither of two others holds
apart : (a s b t : Bool) → ((a || s) && (b || t)) ≡ false
    → ((a && b) ≡ false) × ((s && b) ≡ false) × ((a && t) ≡ false) × ((s && t) ≡ false)
apart a s b t none =
    elim (and_cases (a || s) (b || t) none) [
      | inl first ↦
          let parts = or_parts a s first in
          (and_left a b parts.0, and_left s b parts.1, and_left a t parts.0, and_left s t parts.1)
      | inr second ↦
          let parts = or_parts b t second in (
            and_right a b parts.0,
            and_right s b parts.0,
            and_right a t parts.1,
            and_right s t parts.1,
          )
    ]

-- which of an entry's statuses are those of a move, and which stand for any
entry_apart : (from to : List ℕ) (e : MoveRight)
    → (stands_for e.from from && stands_for e.to to) ≡ false
    → ((bytes_eq e.from from && bytes_eq e.to to) ≡ false)
    × ((bytes_eq e.from any_status && bytes_eq e.to to) ≡ false)
    × ((bytes_eq e.from from && bytes_eq e.to any_status) ≡ false)
    × ((bytes_eq e.from any_status && bytes_eq e.to any_status) ≡ false)
entry_apart from to e none =
    apart (bytes_eq e.from from) (bytes_eq e.from any_status) (bytes_eq e.to to)
    (bytes_eq e.to any_status) none

no_entry : (lifecycle : Parts) (from to one two : List ℕ)
    → ((e : MoveRight) → (stands_for e.from from && stands_for e.to to) ≡ false
    → (bytes_eq e.from one && bytes_eq e.to two) ≡ false)
    → names_move lifecycle from to ≡ false
    → right_of_entry lifecycle one two ≡ None
no_entry lifecycle from to one two fails none =
    ap (option_map (λ e. e.right))
    (none_found (λ e. bytes_eq e.from one && bytes_eq e.to two)
    (λ e. stands_for e.from from && stands_for e.to to) lifecycle.rights fails none)

usual : (lifecycle : Parts) (from to : List ℕ) → names_move lifecycle from to ≡ false
    → right_of_move lifecycle from to ≡ usual_right to
unfolding right_of_move
usual lifecycle from to none =
    let rest = usual_right to in
    let third = unwrap_or (right_of_entry lifecycle any_status any_status) rest in
    let second = unwrap_or (right_of_entry lifecycle from any_status) third in
    let first = unwrap_or (right_of_entry lifecycle any_status to) second in
    ap (λ o. unwrap_or o first)
    (no_entry lifecycle from to from to (λ e h. (entry_apart from to e h).0) none)
    ∙ ap (λ o. unwrap_or o second)
    (no_entry lifecycle from to any_status to (λ e h. (entry_apart from to e h).1) none)
    ∙ ap (λ o. unwrap_or o third)
    (no_entry lifecycle from to from any_status (λ e h. (entry_apart from to e h).2) none)
    ∙ ap (λ o. unwrap_or o rest)
    (no_entry lifecycle from to any_status any_status (λ e h. (entry_apart from to e h).3) none)

pub usual_right_law : (lifecycle : Parts) (from to : List ℕ) → AsksUsualRight lifecycle from to
unfolding delete_ticket modify_ticket
usual_right_law lifecycle from to none =
    let deleted = codes "deleted" in (
      λ same. usual lifecycle from to none
          ∙ cond-true (bytes_eq to deleted) (codes "DeleteTicket") (codes "ModifyTicket")
          ((bytes_eq-Decides to deleted).1 same),
      λ differs. usual lifecycle from to none
          ∙ cond-false (bytes_eq to deleted) (codes "DeleteTicket") (codes "ModifyTicket")
          (false_from_ne_true (bytes_eq to deleted)
          (λ e. differs ((bytes_eq-Decides to deleted).0 e))),
    )
