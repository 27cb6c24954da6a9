-- The laws that follow from what is proved of the definitions.
use Rattle.std.proofs.Common.{◌≡◌, ◌≢◌, ◌⊎◌, ◌∙◌, ℕ, Bool, true, false, ◌&&◌, ◌==◌}
use Rattle.std.proofs.Common.{List, Option, Some, None, inl, inr, is_none, refl, ap, subst}
use Rattle.std.specs.List.{All}
use Rattle.std.specs.Prelude.{IfErr, IfOk}
use Rattle.std.proofs.lemmas.Bool.{and_parts, eq-eqb, eqb-true, or_left, or_right}
use Rattle.rights_core.specs.Right.{modify_ticket}
use Rattle.settings_core.specs.Settings.{lifecycle_named}
use Rattle.settings_core.specs.declared.settings.Settings.{Settings}
use Rattle.text_core.specs.Texts.{is_among}
use Rattle.desk_model.specs.Change.{without_name}
use Rattle.desk_model.specs.Commands.{IsReading, plan_of}
use Rattle.desk_model.specs.Desk.{Desk, Request, queue_at}
use Rattle.desk_model.specs.Facts.{seen_request}
use Rattle.desk_model.specs.Lifecycles.{is_inactive, lifecycle_of, opens_anew}
use Rattle.desk_model.specs.Names.{with_name}
use Rattle.desk_model.specs.Plan.{OnRequest, Plan}
use Rattle.desk_model.specs.Readings.{IsInOrder, dues_told}
use Rattle.desk_model.specs.Step.{answer_of, guard, outcome_unless}
use Rattle.desk_model.specs.declared.answer.Answer.{Answer}
use Rattle.desk_model.specs.declared.command.Command.{Command}
use Rattle.desk_model.specs.declared.command.Command.TheVariants as command
use Rattle.desk_model.specs.declared.refusal.Refusal.{Refusal}
use Rattle.desk_model.specs.declared.rows.WatchRole.{WatchRole}
use Rattle.desk_model.specs.declared.rows.WatchRole.TheVariants.{Requestor, Cc, AdminCc}
use Rattle.desk_core.proofs.AsMissing as missing
use Rattle.desk_core.proofs.Bounds as bounds
use Rattle.desk_core.proofs.Depends as depends
use Rattle.desk_core.proofs.DeskLaw as desks
use Rattle.desk_core.proofs.DueLaw as dues
use Rattle.desk_core.proofs.Identity as identities
use Rattle.desk_core.proofs.KnownLaw as known
use Rattle.desk_core.proofs.Moved.{AtEachStep, step}
use Rattle.desk_core.proofs.Orders as orders
use Rattle.desk_core.proofs.Steps.{each_step, on_its_request}
use Rattle.desk_core.proofs.Told as told
use Rattle.desk_core.proofs.Turns as turns
use Rattle.desk_core.proofs.Unchanged as unchanged
use Rattle.desk_core.proofs.ViewLaw as views
use Rattle.desk_core.proofs.Watching as watching
use Rattle.desk_core.proofs.AsMissing.{names_at}
use Rattle.desk_core.proofs.Asked.{MaySetRole}
use Rattle.desk_core.proofs.Readings.Owed.{IsDue}
use Rattle.desk_core.proofs.Turns.{IsTurned, is_replied, replies_on}
use Rattle.desk_core.proofs.Watching.{SetsPersons}
use Rattle.desk_core.specs.Decision.{request_on}
use Rattle.desk_core.specs.Laws.{DependsLaw, DeskLaw, DueLaw, HiddenLaw, IdentityLaw}
use Rattle.desk_core.specs.Laws.{Holds, InsideLaw, IsAccepted, LimitsLaw, NamesLaw, own_right}
use Rattle.desk_core.specs.Laws.{OrderLaw, OthersLaw, OutsideLaw, PeopleLaw, Reads, ReadingLaw}
use Rattle.desk_core.specs.Laws.{RepliesOn, Step, ToldLaw, TurnLaw, other_of, persons_of, request_of}

-- dependencies

not_off : (b : Bool) → (b ≡ false → ⊥) → b ≡ true
not_off true never = refl
not_off false never = absurd (never refl)

pub depends_law : AtEachStep DependsLaw
depends_law s at caller asked desk is id before was =
    let law = depends.dependency_law s at caller asked desk id before was in (
      law.0,
      law.1,
      λ differs inactive other queue linked there filed_in.
          not_off (is_inactive (lifecycle_named s queue.lifecycle) other.row.status)
          (λ live. law.2 differs inactive other
          (record {
            linked = linked;
            there = there;
            queue = queue;
            filed_in = filed_in;
            is_open = live;
          })),
    )

-- others, and what stays of each

pub others_law : AtEachStep OthersLaw
others_law s at caller asked desk is id before was =
    each_step (λ b a. request_of asked ≢ Some b.row.id → a ≡ b) s at caller asked desk is
    (λ b there off other. refl)
    (λ free. record { makes = λ b there on other. absurd (other on) }) id before was

pub identity_law : AtEachStep IdentityLaw
identity_law s at caller asked desk is id before was =
    let law = identities.identity_law s at caller asked desk id before was in
    (law.0, law.1, (law.2.number, law.2.queue, law.2.subject, law.2.created))

-- people

abbrev MaySet : Step → WatchRole → List ℕ → Request → Type 0
MaySet s role person request =
    Holds s modify_ticket request ⊎ ((person ≡ s.caller) × Holds s (own_right role) request)

may_set : (s : Step) (role : WatchRole) (person : List ℕ) (request : Request)
    → MaySetRole s.settings s.caller role person (seen_request request)
    → MaySet s role person request
may_set s Requestor person request may = may
may_set s Cc person request may = may
may_set s AdminCc person request may = may

sets : (s : Step) (role : WatchRole) (before : Request) (persons : List (List ℕ)) (asked : Command)
    → SetsPersons s.settings s.caller asked before role persons
    → (person : List ℕ) × MaySet s role person before
    × (((asked ≡ command.Watch before.row.id role person)
    × (persons ≡ with_name (persons_of role before) person))
    ⊎ ((asked ≡ command.Unwatch before.row.id role person)
    × (persons ≡ without_name (persons_of role before) person)))
sets s role before persons (command.Watch id in_that person) got = (
  person,
  may_set s role person before got.3,
  inl (
    ap (λ (n : ℕ). command.Watch n in_that person) got.0
        ∙ ap (λ (r : WatchRole). command.Watch before.row.id r person) got.1,
    got.2,
  ),
)
sets s role before persons (command.Unwatch id in_that person) got = (
  person,
  may_set s role person before got.3,
  inr (
    ap (λ (n : ℕ). command.Unwatch n in_that person) got.0
        ∙ ap (λ (r : WatchRole). command.Unwatch before.row.id r person) got.1,
    got.2,
  ),
)
sets s role before persons other got = absurd got

pub people_law : AtEachStep PeopleLaw
people_law s at caller asked desk is role id before was =
    let law = watching.watch_law s at caller asked desk is id before was in (
      law.0,
      law.1,
      λ differs. sets (step s at caller asked desk) role before (persons_of role law.0) asked
          (law.2 role differs),
    )

-- the desk

pub told_law : AtEachStep ToldLaw
told_law s at caller asked desk is = told.status_told_law s at caller asked desk is

pub desk_law : AtEachStep DeskLaw
desk_law s at caller asked desk is = desks.desk_law s at caller asked desk is

pub limits_law : AtEachStep LimitsLaw
limits_law s at caller asked desk is = (
  bounds.queue_limit_kept s at caller asked desk,
  bounds.request_limit_kept s at caller asked desk,
  bounds.entry_limit_kept s at caller asked desk is,
)

pub names_law : AtEachStep NamesLaw
names_law s at caller asked desk is = known.known_law s at caller asked desk is

-- readings

pub is_read : (asked : Command) → Reads asked → IsReading asked
is_read command.Queues reads = refl
is_read (command.Show id) reads = refl
is_read (command.List queue) reads = refl
is_read (command.History id) reads = refl
is_read command.Overdue reads = refl
is_read command.Workload reads = refl
is_read other reads = absurd reads

pub reads_of : (asked : Command) → IsReading asked → Reads asked
reads_of command.Queues reads = tt
reads_of (command.Show id) reads = tt
reads_of (command.List queue) reads = tt
reads_of (command.History id) reads = tt
reads_of command.Overdue reads = tt
reads_of command.Workload reads = tt
reads_of other reads = cc

pub reading_law : AtEachStep ReadingLaw
reading_law s at caller asked desk is reads =
    unchanged.reading_law s at caller asked desk (is_read asked reads)

pub inside_law : AtEachStep InsideLaw
inside_law s at caller asked desk is reads =
    views.view_law s at caller asked desk is (is_read asked reads)

pub outside_law : AtEachStep OutsideLaw
outside_law s at caller asked desk is id none = views.hides_the_rest s caller desk is id none

-- answers

if_answered : (P : Answer → Type 0) (o : Option Refusal) (answer : Answer) → P answer
    → IfOk (outcome_unless o answer) P
if_answered P None answer holds = holds
if_answered P (Some refusal) answer holds = tt

pub due_law : AtEachStep DueLaw
due_law s at caller asked desk is =
    if_answered (λ answer. All (IsDue s desk) (dues_told answer)) (guard s at caller asked desk)
    (answer_of s at caller asked desk) (dues.due_law s at caller asked desk is)

pub order_law : AtEachStep OrderLaw
order_law s at caller asked desk is =
    if_answered IsInOrder (guard s at caller asked desk) (answer_of s at caller asked desk)
    (orders.orders_law s at caller asked desk is)

-- hidden requests

same_number : (m n : ℕ) → Some m ≡ Some n → (m == n) ≡ true
same_number m n same = eq-eqb m n (let is : m ≡ n = cc in is)

named_on : (plan : Plan) (id : ℕ) → request_on plan ≡ Some id → names_at plan id ≡ true
named_on (OnRequest m besides bad conditions change) id e = or_left (m == id) _ (same_number m id e)
named_on plan id e = cc

is_named : (asked : Command) (id : ℕ) → (request_of asked ≡ Some id) ⊎ (other_of asked ≡ Some id)
    → names_at (plan_of asked) id ≡ true
is_named asked id (inl e) = named_on (plan_of asked) id (on_its_request asked ∙ e)
is_named (command.Link m kind other) id (inr e) =
    or_right (m == id) _ (or_left (other == id) false (same_number other id e))
is_named (command.Unlink m kind other) id (inr e) =
    or_right (m == id) _ (or_left (other == id) false (same_number other id e))
is_named (command.Show m) id (inr e) = or_left (m == id) false (same_number m id e)
is_named (command.History m) id (inr e) = or_left (m == id) false (same_number m id e)
is_named asked id (inr e) = cc

pub hidden_law : AtEachStep HiddenLaw
hidden_law s at caller asked desk is id named hidden =
    missing.hidden_law s at caller asked desk id (is_named asked id named) hidden

-- turns

pub free_of : (o : Option Refusal) (answer : Answer)
    → IfErr (outcome_unless o answer) (λ refusal. ⊥) → o ≡ None
free_of None answer accepted = refl
free_of (Some refusal) answer accepted = absurd accepted

accepted_of : (o : Option Refusal) (answer : Answer) → is_none o ≡ true
    → IfErr (outcome_unless o answer) (λ refusal. ⊥)
accepted_of None answer none = tt
accepted_of (Some refusal) answer none = cc

reply_is : (asked : Command) (id : ℕ) → replies_on asked id ≡ true
    → (text : List ℕ) × (asked ≡ command.Reply id text)
reply_is (command.Reply m text) id on =
    (text, ap (λ n. command.Reply n text) (eqb-true m id on))
reply_is other id on = cc

replied : (s : Settings) (at : ℕ) (caller : List ℕ) (asked : Command) (desk : Desk) (b : Request)
    → IsAccepted (step s at caller asked desk) × RepliesOn (step s at caller asked desk) b
    → is_replied s at caller asked desk b.row.id ≡ true
replied s at caller asked desk b is =
    let free : guard s at caller asked desk ≡ None =
    free_of (guard s at caller asked desk) (answer_of s at caller asked desk) is.0 in
    ap (λ (o : Option Refusal). is_none o && replies_on asked b.row.id) free
    ∙ ap (λ (c : Command). replies_on c b.row.id) is.1.1
    ∙ eq-eqb b.row.id b.row.id refl

not_replied : (s : Settings) (at : ℕ) (caller : List ℕ) (asked : Command) (desk : Desk)
    (b : Request)
    → (IsAccepted (step s at caller asked desk) × RepliesOn (step s at caller asked desk) b → ⊥)
    → is_replied s at caller asked desk b.row.id ≡ false
not_replied s at caller asked desk b never =
    elim (is_replied s at caller asked desk b.row.id)
    as (λ x. is_replied s at caller asked desk b.row.id ≡ x → x ≡ false) [
      | true ↦ λ e.
          let parts = and_parts (is_none (guard s at caller asked desk))
          (replies_on asked b.row.id) e in
          absurd (never (
            accepted_of (guard s at caller asked desk) (answer_of s at caller asked desk) parts.0,
            reply_is asked b.row.id parts.1,
          ))
      | false ↦ λ e. refl
    ] refl

pub turn_law : AtEachStep TurnLaw
turn_law s at caller asked desk is id before was =
    let law = turns.turn_law s at caller asked desk id before was in
    let after = law.0 in
    let asks = is_among before.requestors caller in
    let anew = opens_anew (lifecycle_of s (queue_at desk before.row.queue)) before.row.status
    after.row.status in
    let of : Bool → Type 0 = λ b. IsTurned at b asks anew before.row after.row in (
      after,
      law.1,
      (
        law.2.opened,
        λ so.
            let t : IsTurned at true asks anew before.row after.row =
            subst of (replied s at caller asked desk before so) law.2 in
            (t.turn, t.since),
        λ never.
            let t : IsTurned at false asks anew before.row after.row =
            subst of (not_replied s at caller asked desk before never) law.2 in
            (t.turn, t.since),
      ),
    )
