-- Statuses, owners and levels change by their own commands.
use Rattle.std.proofs.Common.{◌≡◌, ◌≢◌, ◌⊎◌, ◌∙◌, ℕ, Bool, true, false, not, ◌&&◌, ◌||◌, cond, List}
use Rattle.std.proofs.Common.{Option, Some, None, unwrap_or, inl, inr, refl, ap, sym, subst}
use Rattle.std.proofs.lemmas.Bool.{and_parts, or_cases}
use Rattle.lifecycle_core.specs.declared.parts.Parts.{Parts}
use Rattle.rights_core.specs.Right.{modify_ticket, own_ticket, reassign_ticket, steal_ticket}
use Rattle.rights_core.specs.Right.{take_ticket}
use Rattle.std.specs.Option.{is_some, option_map_or}
use Rattle.std.specs.Str.{bytes_eq}
use Rattle.std.proofs.lemmas.Slice.Eq.{bytes_eq-Decides}
use Rattle.settings_core.specs.declared.settings.Settings.{Settings}
use Rattle.text_core.specs.Texts.{is_among}
use Rattle.desk_model.specs.Commands.{plan_of}
use Rattle.desk_model.specs.Commands.Reply as reply
use Rattle.desk_model.specs.Desk.{Desk, Request, queue_at, request_at}
use Rattle.desk_model.specs.Facts.{queue_of, seen_request}
use Rattle.desk_model.specs.IsDesk.{IsDesk}
use Rattle.desk_model.specs.Lifecycles.{is_allowed, is_inactive, is_initial}
use Rattle.desk_model.specs.Lifecycles.{lifecycle_of, reopening_of, right_of}
use Rattle.desk_model.specs.Plan.{Call, Stays, Dependencies, besides_on}
use Rattle.desk_model.specs.Commands.Give as give
use Rattle.desk_model.specs.Rights.{holds_on, owns}
use Rattle.desk_model.specs.Step.{Outcome, call, desk_after, outcome_of}
use Rattle.desk_model.specs.declared.command.Command.{Command}
use Rattle.desk_model.specs.declared.command.Command.TheVariants as command
use Rattle.desk_model.specs.declared.rows.QueueRow.{QueueRow}
use Rattle.desk_model.specs.declared.rows.RequestRow.{RequestRow}
use Rattle.desk_core.proofs.DeskLaw.ByKind.{MeetsAt, by_plan_at}
use Rattle.desk_core.proofs.Goes.{holding}
use Rattle.desk_core.proofs.Kept.{reopening_allowed}
use Rattle.desk_core.proofs.Steps.{Makes, each_step, makes_none, makes_row, reads_none}
use Rattle.desk_core.specs.Laws.{AtEveryStep, Holds, LevelLaw, OwnerLaw, Reopens, RepliesOn}
use Rattle.desk_core.specs.Laws.{StatusLaw, Step, cycle}

-- the step of a command
abbrev pub step : Settings → ℕ → List ℕ → Command → Desk → Step
step s at caller asked desk =
    record {
      settings = s;
      at = at;
      caller = caller;
      command = asked;
      outcome = outcome_of s at caller asked desk;
      old = desk;
      new = desk_after s at caller asked desk;
    }

-- each step of a well-formed desk
abbrev pub AtEachStep : (Step → Type 0) → Type 0
AtEachStep Law =
    (s : Settings) (at : ℕ) (caller : List ℕ) (asked : Command) (desk : Desk) → IsDesk desk
    → Law (step s at caller asked desk)

pub every : (Law : Step → Type 0) → AtEachStep Law → AtEveryStep Law
every Law holds s is outcome new =
    let made = step s.settings s.at s.caller s.command s.old in
    subst (λ (d : Desk). Law (record s { new = d })) (sym new)
    (subst (λ (o : Outcome). Law (record made { outcome = o })) (sym outcome)
    (holds s.settings s.at s.caller s.command s.old is))

abbrev pub step_of : Call → Command → Desk → Step
step_of call asked desk = step call.settings call.at call.caller asked desk

-- levels

abbrev Levels : Step → Request → RequestRow → Type 0
Levels s b row = row.level ≢ b.row.level
    → (s.command ≡ command.SetLevel b.row.id row.level)
    × (holds_on s.settings s.caller modify_ticket (seen_request b) ≡ true)

levels_met : (call : Call) (desk : Desk) (asked : Command)
    → MeetsAt call (Makes (λ b a. Levels (step_of call asked desk) b a.row) asked) desk
    (plan_of asked)
levels_met call desk (command.OpenQueue name lifecycle level) = λ none.
    makes_none (λ b a. Levels (step_of call (command.OpenQueue name lifecycle level) desk) b a.row)
    (command.OpenQueue name lifecycle level) desk _ refl
levels_met call desk (command.Create queue subject status requestors) = λ none.
    makes_none (λ b a. Levels
    (step_of call (command.Create queue subject status requestors) desk) b a.row)
    (command.Create queue subject status requestors) desk _ refl
levels_met call desk (command.SetLevel id level) = λ r there same none.
    makes_row (Levels (step_of call (command.SetLevel id level) desk))
    (command.SetLevel id level) desk id r _ there (λ n e. cc) refl
    (λ differs. (
      ap (λ n. command.SetLevel n level) same,
      holding (holds_on call.settings call.caller modify_ticket (seen_request r)) none.1.0,
    ))
levels_met call desk other = λ r there same none.
    makes_row (Levels (step_of call other desk)) other desk _ r _ there (λ n e. cc) refl
    (λ differs. absurd (differs refl))

pub level_law : AtEachStep LevelLaw
level_law s at caller asked desk is =
    let asks = call s at caller in
    let P : Request → Request → Type 0 = λ b a. Levels (step s at caller asked desk) b a.row in
    each_step P s at caller asked desk is (λ b there off differs. absurd (differs refl))
    (by_plan_at (Makes P asked) asks (plan_of asked) desk
    (λ reads. makes_none P asked desk _ (reads_none asked reads)) (levels_met asks desk asked))

-- statuses

abbrev Statuses : Step → Request → RequestRow → Type 0
Statuses s b row = row.status ≢ b.row.status
    → (is_allowed (cycle s b) b.row.status row.status ≡ true)
    × (((s.command ≡ command.SetStatus b.row.id row.status)
    × Holds s (right_of (cycle s b) b.row.status row.status) b)
    ⊎ (RepliesOn s b × Reopens s b row.status))

chosen_some : (b : Bool) (o : Option (List ℕ)) (to : List ℕ) → cond b o None ≡ Some to
    → (b ≡ true) × (o ≡ Some to)
chosen_some true o to e = (refl, e)
chosen_some false o to e = cc

is_off : (b : Bool) → not b ≡ true → b ≡ false
is_off true e = cc
is_off false e = refl

-- where a reply moves a request, it reopens it
pub reopened_by : (lifecycle : Option Parts) (is_requestor : Bool) (from to : List ℕ)
    → reply.reply_target lifecycle is_requestor from ≡ Some to
    → (reopening_of lifecycle from ≡ Some to)
    × ((is_inactive lifecycle from ≡ true)
    ⊎ ((is_initial lifecycle from ≡ true) × (is_requestor ≡ false)))
reopened_by lifecycle is_requestor from to e =
    let got = chosen_some (is_inactive lifecycle from
    || (is_initial lifecycle from && not is_requestor)) (reopening_of lifecycle from) to e in (
      got.1,
      elim (or_cases (is_inactive lifecycle from) (is_initial lifecycle from && not is_requestor)
          got.0) [
            | inl inactive ↦ inl inactive
            | inr both ↦
                let parts = and_parts (is_initial lifecycle from) (not is_requestor) both in
                inr (parts.0, is_off is_requestor parts.1)
          ],
    )

-- a reply on a request in this queue reopens it where it moves it
pub reopens : (call : Call) (asked : Command) (desk : Desk) (id : ℕ) (r : Request) (to : List ℕ)
    → request_at desk id ≡ Some r
    → reply.move_of call (besides_on Stays id desk) (seen_request r) ≡ Some to
    → Reopens (step_of call asked desk) r to
reopens call asked desk id r to there moves =
    let e : reply.reply_target (lifecycle_of call.settings (queue_at desk r.row.queue))
    (is_among r.requestors call.caller) r.row.status ≡ Some to =
    ap (λ (q : Option QueueRow). reply.reply_target (lifecycle_of call.settings q)
    (is_among r.requestors call.caller) r.row.status) (sym (ap (queue_of desk) there)) ∙ moves in
    reopened_by (lifecycle_of call.settings (queue_at desk r.row.queue))
    (is_among r.requestors call.caller) r.row.status to e

replied_status : (call : Call) (desk : Desk) (id : ℕ) (text : List ℕ) (r : Request)
    (move : Option (List ℕ)) → request_at desk id ≡ Some r → id ≡ r.row.id
    → reply.move_of call (besides_on Stays id desk) (seen_request r) ≡ move
    → unwrap_or move r.row.status ≢ r.row.status
    → (is_allowed (cycle (step_of call (command.Reply id text) desk) r) r.row.status
    (unwrap_or move r.row.status) ≡ true)
    × (((command.Reply id text ≡ command.SetStatus r.row.id (unwrap_or move r.row.status))
    × Holds (step_of call (command.Reply id text) desk)
    (right_of (cycle (step_of call (command.Reply id text) desk) r) r.row.status
    (unwrap_or move r.row.status)) r)
    ⊎ (RepliesOn (step_of call (command.Reply id text) desk) r
    × Reopens (step_of call (command.Reply id text) desk) r (unwrap_or move r.row.status)))
replied_status call desk id text r None there same moves differs = absurd (differs refl)
replied_status call desk id text r (Some to) there same moves differs =
    let got = reopens call (command.Reply id text) desk id r to there moves in (
      reopening_allowed (lifecycle_of call.settings (queue_at desk r.row.queue)) r.row.status to
          got.0,
      inr ((text, ap (λ (n : ℕ). command.Reply n text) same), got),
    )

statuses_met : (call : Call) (desk : Desk) (asked : Command)
    → MeetsAt call (Makes (λ b a. Statuses (step_of call asked desk) b a.row) asked) desk
    (plan_of asked)
statuses_met call desk (command.OpenQueue name lifecycle level) = λ none.
    makes_none (λ b a. Statuses (step_of call (command.OpenQueue name lifecycle level) desk) b a.row)
    (command.OpenQueue name lifecycle level) desk _ refl
statuses_met call desk (command.Create queue subject status requestors) = λ none.
    makes_none (λ b a. Statuses
    (step_of call (command.Create queue subject status requestors) desk) b a.row)
    (command.Create queue subject status requestors) desk _ refl
statuses_met call desk (command.SetStatus id status) = λ r there same none.
    let facts = besides_on Dependencies id desk in
    let lifecycle = lifecycle_of call.settings facts.queue in
    makes_row (Statuses (step_of call (command.SetStatus id status) desk))
    (command.SetStatus id status) desk id r _ there (λ n e. cc) refl
    (λ differs. subst (λ (q : Option QueueRow).
    (is_allowed (lifecycle_of call.settings q) r.row.status status ≡ true)
    × (((command.SetStatus id status ≡ command.SetStatus r.row.id status)
    × (holds_on call.settings call.caller
    (right_of (lifecycle_of call.settings q) r.row.status status) (seen_request r) ≡ true))
    ⊎ (RepliesOn (step_of call (command.SetStatus id status) desk) r
    × Reopens (step_of call (command.SetStatus id status) desk) r status)))
    (ap (queue_of desk) there) (
      holding (is_allowed lifecycle r.row.status status) none.1.1.1.0,
      inl (
        ap (λ (n : ℕ). command.SetStatus n status) same,
        holding (holds_on call.settings call.caller
            (right_of lifecycle r.row.status status) (seen_request r)) none.1.0,
      ),
    ))
statuses_met call desk (command.Reply id text) = λ r there same none.
    makes_row (Statuses (step_of call (command.Reply id text) desk)) (command.Reply id text) desk id
    r _ there (λ n e. cc) refl
    (replied_status call desk id text r
    (reply.move_of call (besides_on Stays id desk) (seen_request r)) there same refl)
statuses_met call desk other = λ r there same none.
    makes_row (Statuses (step_of call other desk)) other desk _ r _ there (λ n e. cc) refl
    (λ differs. absurd (differs refl))

pub status_law : AtEachStep StatusLaw
status_law s at caller asked desk is =
    let asks = call s at caller in
    let P : Request → Request → Type 0 = λ b a. Statuses (step s at caller asked desk) b a.row in
    each_step P s at caller asked desk is (λ b there off differs. absurd (differs refl))
    (by_plan_at (Makes P asked) asks (plan_of asked) desk
    (λ reads. makes_none P asked desk _ (reads_none asked reads)) (statuses_met asks desk asked))

-- owners

abbrev Owners : Step → Request → RequestRow → Type 0
Owners s b row = row.owner ≢ b.row.owner
    → ((person : List ℕ) → row.owner ≡ Some person
    → holds_on s.settings person own_ticket (seen_request b) ≡ true)
    × (((s.command ≡ command.Take b.row.id) × (row.owner ≡ Some s.caller)
    × (b.row.owner ≡ None) × Holds s take_ticket b)
    ⊎ (((s.command ≡ command.Steal b.row.id) × (row.owner ≡ Some s.caller)
    × Holds s steal_ticket b)
    ⊎ (((s.command ≡ command.Untake b.row.id) × (row.owner ≡ None)
    × (b.row.owner ≡ Some s.caller))
    ⊎ ((person : List ℕ) × (s.command ≡ command.Give b.row.id person)
    × (row.owner ≡ Some person)
    × ((b.row.owner ≡ Some s.caller) ⊎ Holds s reassign_ticket b)))))

pub none_there : {A : Type 0} (o : Option A) → is_some o ≡ false → o ≡ None
none_there None e = refl
none_there (Some x) e = cc

owned_by : (o : Option (List ℕ)) (person : List ℕ)
    → option_map_or (λ owner. bytes_eq owner person) o false ≡ true → o ≡ Some person
owned_by None person e = cc
owned_by (Some owner) person e = ap Some ((bytes_eq-Decides owner person).0 e)

may_own : (s : Settings) (person : List ℕ) (b : Request) (other : List ℕ)
    → holds_on s person own_ticket (seen_request b) ≡ true → Some person ≡ Some other
    → holds_on s other own_ticket (seen_request b) ≡ true
may_own s person b other held same =
    let is : person ≡ other = cc in
    subst (λ (p : List ℕ). holds_on s p own_ticket (seen_request b) ≡ true) is held

owners_met : (call : Call) (desk : Desk) (asked : Command)
    → MeetsAt call (Makes (λ b a. Owners (step_of call asked desk) b a.row) asked) desk
    (plan_of asked)
owners_met call desk (command.OpenQueue name lifecycle level) = λ none.
    makes_none (λ b a. Owners (step_of call (command.OpenQueue name lifecycle level) desk) b a.row)
    (command.OpenQueue name lifecycle level) desk _ refl
owners_met call desk (command.Create queue subject status requestors) = λ none.
    makes_none (λ b a. Owners
    (step_of call (command.Create queue subject status requestors) desk) b a.row)
    (command.Create queue subject status requestors) desk _ refl
owners_met call desk (command.Take id) = λ r there same none.
    let held : List ℕ → Bool = λ right. holds_on call.settings call.caller right (seen_request r) in
    makes_row (Owners (step_of call (command.Take id) desk)) (command.Take id) desk id r _ there
    (λ n e. cc) refl (λ differs. (
      λ person. may_own call.settings call.caller r person (holding (held own_ticket) none.1.0),
      inl (
        ap command.Take same,
        refl,
        none_there r.row.owner none.1.1.1.0,
        holding (held take_ticket) none.0,
      ),
    ))
owners_met call desk (command.Steal id) = λ r there same none.
    let held : List ℕ → Bool = λ right. holds_on call.settings call.caller right (seen_request r) in
    makes_row (Owners (step_of call (command.Steal id) desk)) (command.Steal id) desk id r _ there
    (λ n e. cc) refl (λ differs. (
      λ person. may_own call.settings call.caller r person (holding (held own_ticket) none.1.0),
      inr (inl (ap command.Steal same, refl, holding (held steal_ticket) none.0)),
    ))
owners_met call desk (command.Untake id) = λ r there same none.
    makes_row (Owners (step_of call (command.Untake id) desk)) (command.Untake id) desk id r _ there
    (λ n e. cc) refl (λ differs. (
      λ person e. cc,
      inr (inr (inl (
        ap command.Untake same,
        refl,
        owned_by r.row.owner call.caller (holding (owns call.caller (seen_request r)) none.1.0),
      ))),
    ))
owners_met call desk (command.Give id person) = λ r there same none.
    let request = seen_request r in
    makes_row (Owners (step_of call (command.Give id person) desk)) (command.Give id person) desk id
    r _ there (λ n e. cc) refl (λ differs. (
      λ other. may_own call.settings person r other
          (holding (holds_on call.settings person own_ticket request) none.1.1.0),
      inr (inr (inr (
        person,
        ap (λ (n : ℕ). command.Give n person) same,
        refl,
        elim (or_cases (owns call.caller request)
            (holds_on call.settings call.caller reassign_ticket request)
            (holding (give.may_give call request) none.1.0)) [
              | inl own ↦ inl (owned_by r.row.owner call.caller own)
              | inr may ↦ inr may
            ],
      ))),
    ))
owners_met call desk other = λ r there same none.
    makes_row (Owners (step_of call other desk)) other desk _ r _ there (λ n e. cc) refl
    (λ differs. absurd (differs refl))

pub owner_law : AtEachStep OwnerLaw
owner_law s at caller asked desk is =
    let asks = call s at caller in
    let P : Request → Request → Type 0 = λ b a. Owners (step s at caller asked desk) b a.row in
    each_step P s at caller asked desk is (λ b there off differs. absurd (differs refl))
    (by_plan_at (Makes P asked) asks (plan_of asked) desk
    (λ reads. makes_none P asked desk _ (reads_none asked reads)) (owners_met asks desk asked))
