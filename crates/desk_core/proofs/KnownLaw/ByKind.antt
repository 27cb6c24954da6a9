-- What the change of a command that isn't refused brings is known, by the kind of the command.
use Rattle.std.proofs.Common.{◌≡◌, ◌∙◌, ℕ, ◌+◌, ◌==◌, Bool, true, false, not, ◌&&◌, ◌||◌, List, []}
use Rattle.std.proofs.Common.{◌∷◌, ◌++◌, inl, inr, sym}
use Rattle.std.proofs.Common.{find, fold, length, Option, Some, None, unwrap_or, refl, ap, subst}
use Rattle.std.proofs.Common.{if◌then◌else◌}
use Rattle.std.proofs.lemmas.Bool.{and_from, and_parts, or_cases, or_left, or_right}
use Rattle.std.proofs.lemmas.List.Folds.{list_all-map, list_any-append}
use Rattle.std.proofs.lemmas.Slice.Eq.{bytes_eq-Decides}
use Rattle.std.specs.List.{list_all, list_any}
use Rattle.std.specs.Option.{is_none, is_some, option_or}
use Rattle.std.specs.Ordering.{match_ordering}
use Rattle.std.specs.Str.{bytes_eq}
use Rattle.std.specs.declared.cmp.Ordering.TheVariants.{Less, Equal, Greater}
use Rattle.hours_core.specs.Moment.{is_moment}
use Rattle.text_core.specs.Texts.{is_among}
use Rattle.lifecycle_core.specs.Fault.{fault_of, has_names, has_repeats, knows_entry, knows_move}
use Rattle.lifecycle_core.specs.Fault.{is_self_move, knows_statuses, when}
use Rattle.lifecycle_core.specs.Lifecycle.{is_status, may_create, may_move}
use Rattle.lifecycle_core.specs.declared.fault.LifecycleFault.{LifecycleFault}
use Rattle.lifecycle_core.specs.declared.fault.LifecycleFault.TheVariants.{BadName, Repeated}
use Rattle.lifecycle_core.specs.declared.fault.LifecycleFault.TheVariants.{NoInitial, NoActive}
use Rattle.lifecycle_core.specs.declared.fault.LifecycleFault.TheVariants.{UnknownStatus, SelfMove}
use Rattle.lifecycle_core.specs.declared.parts.Move.{Move}
use Rattle.lifecycle_core.specs.declared.parts.Parts.{Parts}
use Rattle.settings_core.specs.Settings.{knows, lifecycle_named}
use Rattle.settings_core.specs.Sound.{AreSound}
use Rattle.settings_core.specs.declared.settings.Settings.{Settings}
use Rattle.desk_model.specs.Change.{row_in_status, with_level, with_owner}
use Rattle.desk_model.specs.Commands.{plan_of}
use Rattle.desk_model.specs.Commands.Create as create
use Rattle.desk_model.specs.Commands.Reply as reply
use Rattle.desk_model.specs.Desk.{Desk, Request, queue_at, request_at}
use Rattle.desk_model.specs.Facts.{queue_of, seen_request}
use Rattle.desk_model.specs.Known.{knows_level, knows_owner, knows_queue, knows_row, knows_status}
use Rattle.desk_model.specs.Lifecycles.{has_given, has_status, is_allowed, is_creatable, lifecycle_of}
use Rattle.desk_model.specs.Lifecycles.{first_status, reopening_of}
use Rattle.desk_model.specs.Names.{in_order, text_order, with_name}
use Rattle.desk_model.specs.Plan.{Call, Stays, besides_on, change_by}
use Rattle.desk_model.specs.Plan.{conditions_by, conditions_of_words, facts_of_plan}
use Rattle.desk_model.specs.Step.{call, facts_of, guard}
use Rattle.desk_model.specs.declared.change.Change.{Change}
use Rattle.desk_model.specs.declared.command.Command.{Command}
use Rattle.desk_model.specs.declared.command.Command.TheVariants.{OpenQueue, Create, SetStatus}
use Rattle.desk_model.specs.declared.command.Command.TheVariants.{Take, Steal, Untake, Give, Reply}
use Rattle.desk_model.specs.declared.command.Command.TheVariants.{SetLevel, Watch}
use Rattle.desk_model.specs.declared.facts.Facts.{Facts}
use Rattle.desk_model.specs.declared.facts.SeenRequest.{SeenRequest}
use Rattle.desk_model.specs.declared.refusal.Refusal.TheVariants.{UnknownCaller, BadMoment}
use Rattle.desk_model.specs.declared.rows.Entry.{Entry}
use Rattle.desk_model.specs.declared.rows.QueueRow.{QueueRow}
use Rattle.desk_model.specs.declared.rows.RequestRow.{RequestRow}
use Rattle.desk_core.proofs.Added.{AreAdded, appended}
use Rattle.desk_core.proofs.DeskLaw.ByKind.{MeetsAt, by_plan_at, some_is}
use Rattle.desk_core.proofs.Every.{every_found}
use Rattle.desk_core.proofs.Goes.{holding, passed}
use Rattle.desk_core.proofs.Kept.{replied_to}

abbrev pub KnowsQueue : Settings → Option QueueRow → Type 0
KnowsQueue s None = Unit {0}
KnowsQueue s (Some queue) = knows_queue s queue ≡ true

abbrev pub KnowsRow : Settings → Desk → Option RequestRow → Type 0
KnowsRow s desk None = Unit {0}
KnowsRow s desk (Some row) = knows_row s desk row ≡ true

-- the settings know each name that a change brings to a desk
pub record Brings (s : Settings) (desk : Desk) (change : Change) : Type 0 where
  pub queue : KnowsQueue s change.queue
  pub filed : KnowsRow s desk change.filed
  pub row : KnowsRow s desk change.row
  pub put : list_all (λ w. knows s w.person) change.put ≡ true
  pub entries : list_all (λ e. knows s e.actor) change.entries ≡ true

neither : (a b : Bool) → (a || b) ≡ false → (a ≡ false) × (b ≡ false)
neither true b e = cc
neither false b e = (refl, e)

-- ---- of a queue

opens : (call : Call) (desk : Desk) (command : Command)
    → MeetsAt call (λ d change. KnowsQueue call.settings change.queue) desk (plan_of command)
opens call desk (OpenQueue name lifecycle level) = λ none.
    let known = neither (is_none (lifecycle_named call.settings lifecycle))
    (not (knows_level call.settings level)) none.1.0 in
    and_from (is_some (lifecycle_named call.settings lifecycle)) (knows_level call.settings level)
    (some_is (lifecycle_named call.settings lifecycle) known.0)
    (holding (knows_level call.settings level) known.1)
opens call desk (Create queue subject status requestors) = λ none. tt
opens call desk other = λ r there same none. tt

-- ---- of statuses

-- what is among these passes the test that they all pass
all_among : (test : List ℕ → Bool) (texts : List (List ℕ)) (text : List ℕ)
    → list_all test texts ≡ true → is_among texts text ≡ true → test text ≡ true
all_among test [] text all there = cc
all_among test (t ∷ ts) text all there =
    let parts = and_parts (test t) (list_all test ts) all in
    elim (bytes_eq t text)
    as (λ b. bytes_eq t text ≡ b → (b || is_among ts text) ≡ true → test text ≡ true) [
      | true ↦ λ e h.
          subst (λ (x : List ℕ). test x ≡ true) ((bytes_eq-Decides t text).0 e) parts.0
      | false ↦ λ e h. all_among test ts text parts.1 h
    ] refl there

found_among : (test : List ℕ → Bool) (texts : List (List ℕ)) (text : List ℕ)
    → find test texts ≡ Some text → is_among texts text ≡ true
found_among test [] text there = cc
found_among test (t ∷ ts) text there =
    elim (test t)
    as (λ b. (if b then Some t else find test ts) ≡ Some text
    → (bytes_eq t text || is_among ts text) ≡ true) [
      | true ↦ λ e.
          let same : t ≡ text = cc in
          or_left (bytes_eq t text) (is_among ts text) ((bytes_eq-Decides t text).1 same)
      | false ↦ λ e.
          or_right (bytes_eq t text) (is_among ts text) (found_among test ts text e)
    ] there

reopened : (lifecycle : Option Parts) (from to : List ℕ) → reopening_of lifecycle from ≡ Some to
    → has_status lifecycle to ≡ true
reopened None from to e = cc
reopened (Some l) from to e =
    let active = found_among (λ t. may_move l from t) l.active to e in
    list_any-append (λ t. bytes_eq t to) (l.initial ++ l.active) l.inactive
    ∙ or_left (is_among (l.initial ++ l.active) to) (is_among l.inactive to)
    (list_any-append (λ t. bytes_eq t to) l.initial l.active
    ∙ or_right (is_among l.initial to) (is_among l.active to) active)

-- where a chain of faults has none, a test in it holds
no_fault : (fault : LifecycleFault) (holds : Bool) (others : Option LifecycleFault)
    → option_or (when fault (not holds)) others ≡ None → holds ≡ true
no_fault fault true others e = refl
no_fault fault false others e = cc

rest_none : (first others : Option LifecycleFault) → option_or first others ≡ None → others ≡ None
rest_none None others e = e
rest_none (Some fault) others e = cc

-- a status in which a request may be created is one of the lifecycle
created : (l : Parts) (status : List ℕ) → fault_of l ≡ None → may_create l status ≡ true
    → is_status l status ≡ true
unfolding fault_of
created l status none creatable =
    let creates = is_status l l.on_create && list_all (is_status l) l.create in
    let moves = list_all (knows_move l) l.moves in
    let unrepeated = rest_none (when BadName (not (has_names l))) _ none in
    let initial = rest_none (when Repeated (has_repeats l)) _ unrepeated in
    let active = rest_none (when NoInitial (length l.initial == 0)) _ initial in
    let known = no_fault UnknownStatus (knows_statuses l) _
    (rest_none (when NoActive (length l.active == 0)) _ active) in
    let first = and_parts (creates && moves) (list_all (knows_entry l) l.rights) known in
    let second = and_parts creates moves first.0 in
    all_among (is_status l) l.create status
    (and_parts (is_status l l.on_create) (list_all (is_status l) l.create) second.0).1 creatable

-- a lifecycle without fault has no move from a status to itself
one_itself : (status : List ℕ) (moves : List Move)
    → list_any (λ m. bytes_eq m.from status && bytes_eq m.to status) moves ≡ true
    → list_any is_self_move moves ≡ true
one_itself status [] some = cc
one_itself status (m ∷ ms) some =
    elim (or_cases (bytes_eq m.from status && bytes_eq m.to status)
    (list_any (λ x. bytes_eq x.from status && bytes_eq x.to status) ms) some) [
      | inl here ↦
          let ends = and_parts (bytes_eq m.from status) (bytes_eq m.to status) here in
          let same : m.from ≡ m.to =
          (bytes_eq-Decides m.from status).0 ends.0 ∙ sym ((bytes_eq-Decides m.to status).0 ends.1)
          in
          or_left (is_self_move m) (list_any is_self_move ms) ((bytes_eq-Decides m.from m.to).1 same)
      | inr further ↦
          or_right (is_self_move m) (list_any is_self_move ms) (one_itself status ms further)
    ]

applies_not : (fault : LifecycleFault) (applies : Bool) (others : Option LifecycleFault)
    → option_or (when fault applies) others ≡ None → applies ≡ false
applies_not fault true others e = cc
applies_not fault false others e = refl

returns_not : (l : Parts) (status : List ℕ) → fault_of l ≡ None → may_move l status status ≡ true → ⊥
unfolding fault_of
returns_not l status none may =
    let unrepeated = rest_none (when BadName (not (has_names l))) _ none in
    let initial = rest_none (when Repeated (has_repeats l)) _ unrepeated in
    let active = rest_none (when NoInitial (length l.initial == 0)) _ initial in
    let unknown = rest_none (when NoActive (length l.active == 0)) _ active in
    let selves = rest_none (when UnknownStatus (not (knows_statuses l))) _ unknown in
    let never : list_any is_self_move l.moves ≡ false =
    applies_not SelfMove (list_any is_self_move l.moves) _ selves in
    let no : true ≡ false = sym (one_itself status l.moves may) ∙ never in
    cc

pub no_return : (s : Settings) (queue : Option QueueRow) (status : List ℕ) → AreSound s
    → is_allowed (lifecycle_of s queue) status status ≡ true → ⊥
no_return s None status sound allowed = cc
no_return s (Some q) status sound allowed =
    elim (lifecycle_named s q.lifecycle)
    as (λ l. lifecycle_named s q.lifecycle ≡ l → is_allowed l status status ≡ true → ⊥) [
      | None ↦ λ e h. cc
      | Some l ↦ λ e h. returns_not l status (sound q.lifecycle l e) h
    ] refl allowed

created_in : (s : Settings) (queue : Option QueueRow) (status : List ℕ) → AreSound s
    → is_creatable (lifecycle_of s queue) status ≡ true
    → has_status (lifecycle_of s queue) status ≡ true
created_in s None status sound creatable = cc
created_in s (Some q) status sound creatable =
    elim (lifecycle_named s q.lifecycle)
    as (λ l. lifecycle_named s q.lifecycle ≡ l → is_creatable l status ≡ true
    → has_status l status ≡ true) [
      | None ↦ λ e h. cc
      | Some l ↦ λ e h. created l status (sound q.lifecycle l e) h
    ] refl creatable

-- ---- of a request

-- a row that the settings know, by its parts
pub row_known : (s : Settings) (desk : Desk) (row : RequestRow)
    → knows_status s desk row ≡ true → knows_level s row.level ≡ true
    → knows_owner s row.owner ≡ true → knows_row s desk row ≡ true
row_known s desk row status level owner =
    and_from (knows_status s desk row) (knows_level s row.level && knows_owner s row.owner) status
    (and_from (knows_level s row.level) (knows_owner s row.owner) level owner)

pub parts_known : (s : Settings) (desk : Desk) (row : RequestRow) → knows_row s desk row ≡ true
    → (knows_status s desk row ≡ true) × (knows_level s row.level ≡ true)
    × (knows_owner s row.owner ≡ true)
parts_known s desk row known =
    let parts = and_parts (knows_status s desk row)
    (knows_level s row.level && knows_owner s row.owner) known in
    let others = and_parts (knows_level s row.level) (knows_owner s row.owner) parts.1 in
    (parts.0, others.0, others.1)

-- the level with which a queue's requests start
first_known : (s : Settings) (o : Option QueueRow)
    → ((q : QueueRow) → o ≡ Some q → knows_queue s q ≡ true)
    → knows_level s (create.first_level o) ≡ true
first_known s None known = refl
first_known s (Some q) known =
    (and_parts (is_some (lifecycle_named s q.lifecycle)) (knows_level s q.level) (known q refl)).1

files : (call : Call) (desk : Desk) → AreSound call.settings
    → list_all (knows_queue call.settings) desk.queues ≡ true → (command : Command)
    → MeetsAt call (λ d change. KnowsRow call.settings d change.filed) desk (plan_of command)
files call desk sound queues (OpenQueue name lifecycle level) = λ none. tt
files call desk sound queues (Create queue subject status requestors) = λ none.
    let s = call.settings in
    let there = queue_at desk queue in
    let first = first_status (lifecycle_of s there) status in
    let creatable = holding (is_creatable (lifecycle_of s there) first) none.1.1.1.1.0 in
    row_known s desk
    (create.new_row (length desk.requests + 1) call.at queue subject first there)
    (created_in s there first sound creatable)
    (first_known s there (λ q e. every_found (knows_queue s) _ desk.queues q queues e))
    refl
files call desk sound queues other = λ r there same none. tt

-- the status to which a reply leads
replied : (call : Call) (facts : Facts) (request : SeenRequest) (move : Option (List ℕ))
    → reply.move_of call facts request ≡ move
    → has_status (lifecycle_of call.settings facts.queue) request.row.status ≡ true
    → has_status (lifecycle_of call.settings facts.queue) (unwrap_or move request.row.status)
    ≡ true
replied call facts request None e known = known
replied call facts request (Some to) e known =
    reopened (lifecycle_of call.settings facts.queue) request.row.status to
    (replied_to call facts request to e)

rows : (call : Call) (desk : Desk) → knows call.settings call.caller ≡ true
    → list_all (λ r. knows_row call.settings desk r.row) desk.requests ≡ true → (command : Command)
    → MeetsAt call (λ d change. KnowsRow call.settings d change.row) desk (plan_of command)
rows call desk caller all (OpenQueue name lifecycle level) = λ none. tt
rows call desk caller all (Create queue subject status requestors) = λ none. tt
rows call desk caller all (SetStatus id status) = λ r there same none.
    let s = call.settings in
    let parts = parts_known s desk r.row (every_found _ _ desk.requests r all there) in
    let queue = queue_of desk (request_at desk id) in
    let known = holding (has_status (lifecycle_of s queue) status) none.0 in
    row_known s desk (row_in_status (lifecycle_of s queue) call.at status r.row)
    (subst (λ (o : Option Request). has_status (lifecycle_of s (queue_of desk o)) status ≡ true)
    there known) parts.1 parts.2
rows call desk caller all (Take id) = λ r there same none.
    let parts = parts_known call.settings desk r.row
    (every_found _ _ desk.requests r all there) in
    row_known call.settings desk (with_owner (Some call.caller) r.row) parts.0 parts.1 caller
rows call desk caller all (Steal id) = λ r there same none.
    let parts = parts_known call.settings desk r.row
    (every_found _ _ desk.requests r all there) in
    row_known call.settings desk (with_owner (Some call.caller) r.row) parts.0 parts.1 caller
rows call desk caller all (Untake id) = λ r there same none.
    let parts = parts_known call.settings desk r.row
    (every_found _ _ desk.requests r all there) in
    row_known call.settings desk (with_owner None r.row) parts.0 parts.1 refl
rows call desk caller all (Give id person) = λ r there same none.
    let parts = parts_known call.settings desk r.row
    (every_found _ _ desk.requests r all there) in
    row_known call.settings desk (with_owner (Some person) r.row) parts.0 parts.1
    (holding (knows call.settings person) none.0)
rows call desk caller all (Reply id text) = λ r there same none.
    let s = call.settings in
    let facts = besides_on Stays id desk in
    let request = seen_request r in
    let parts = parts_known s desk r.row (every_found _ _ desk.requests r all there) in
    let queue : queue_of desk (request_at desk id) ≡ queue_at desk r.row.queue =
    ap (queue_of desk) there in
    let to = unwrap_or (reply.move_of call facts request) r.row.status in
    let known : has_status (lifecycle_of s facts.queue) to ≡ true =
    replied call facts request (reply.move_of call facts request) refl
    (ap (λ o. has_status (lifecycle_of s o) r.row.status) queue ∙ parts.0) in
    row_known s desk
    (reply.replied_row call facts (reply.move_of call facts request) request)
    (subst (λ (o : Option QueueRow). has_status (lifecycle_of s o) to ≡ true) queue known)
    parts.1 parts.2
rows call desk caller all (SetLevel id level) = λ r there same none.
    let parts = parts_known call.settings desk r.row
    (every_found _ _ desk.requests r all there) in
    row_known call.settings desk (with_level level r.row) parts.0
    (holding (knows_level call.settings level) none.0)
    parts.2
rows call desk caller all other = λ r there same none. tt

-- ---- of persons

-- what holds of each name and of one more holds of each with that one among them
pub all_with : (test : List ℕ → Bool) (names : List (List ℕ)) (name : List ℕ)
    → test name ≡ true → list_all test names ≡ true → list_all test (with_name names name) ≡ true
all_with test [] name one all = and_from (test name) true one refl
all_with test (y ∷ ys) name one all =
    let parts = and_parts (test y) (list_all test ys) all in
    elim (text_order name y)
    as (λ o. list_all test (match_ordering o (name ∷ y ∷ ys) (y ∷ ys) (y ∷ with_name ys name))
    ≡ true) [
      | Less ↦ and_from (test name) (list_all test (y ∷ ys)) one all
      | Equal ↦ all
      | Greater ↦ and_from (test y) (list_all test (with_name ys name)) parts.0
          (all_with test ys name one parts.1)
    ]

all_in_order : (test : List ℕ → Bool) (names start : List (List ℕ)) → list_all test names ≡ true
    → list_all test start ≡ true → list_all test (fold with_name start names) ≡ true
all_in_order test [] start all known = known
all_in_order test (x ∷ xs) start all known =
    let parts = and_parts (test x) (list_all test xs) all in
    all_in_order test xs (with_name start x) parts.1 (all_with test start x parts.0 known)

given_known : (s : Settings) (caller : List ℕ) (given : List (List ℕ)) → knows s caller ≡ true
    → list_all (knows s) given ≡ true
    → list_all (knows s) (create.given_or_caller caller given) ≡ true
given_known s caller [] known all = and_from (knows s caller) true known refl
given_known s caller (person ∷ persons) known all = all

puts : (call : Call) (desk : Desk) → knows call.settings call.caller ≡ true → (command : Command)
    → MeetsAt call (λ d change. list_all (λ w. knows call.settings w.person) change.put ≡ true) desk
    (plan_of command)
puts call desk caller (OpenQueue name lifecycle level) = λ none. refl
puts call desk caller (Create queue subject status requestors) = λ none.
    let s = call.settings in
    let known = neither (not (has_given (lifecycle_of s (queue_at desk queue)) status))
    (not (list_all (knows s) requestors)) none.1.1.0 in
    list_all-map (λ w. knows s w.person) (create.requestor (length desk.requests + 1))
    (in_order (create.given_or_caller call.caller requestors))
    ∙ all_in_order (knows s) (create.given_or_caller call.caller requestors) []
    (given_known s call.caller requestors caller
    (holding (list_all (knows s) requestors) known.1)) refl
puts call desk caller (Watch id role person) = λ r there same none.
    and_from (knows call.settings person) true (holding (knows call.settings person) none.0) refl
puts call desk caller other = λ r there same none. refl

-- who makes an entry is the caller
entries_known : (s : Settings) (at : ℕ) (caller : List ℕ) (entries : List Entry)
    → AreAdded at caller entries → knows s caller ≡ true
    → list_all (λ e. knows s e.actor) entries ≡ true
entries_known s at caller [] added known = refl
entries_known s at caller (e ∷ []) added known =
    and_from (knows s e.actor) true (ap (knows s) added.1 ∙ known) refl
entries_known s at caller (e ∷ f ∷ []) added known =
    and_from (knows s e.actor) (knows s f.actor && true) (ap (knows s) added.0.1 ∙ known)
    (and_from (knows s f.actor) true (ap (knows s) added.1.1 ∙ known) refl)
entries_known s at caller (e ∷ f ∷ g ∷ rest) added known = absurd added

-- the change of a command that isn't refused brings known names alone
pub change_brings : (s : Settings) (at : ℕ) (caller : List ℕ) (command : Command) (desk : Desk)
    → AreSound s → list_all (knows_queue s) desk.queues ≡ true
    → list_all (λ r. knows_row s desk r.row) desk.requests ≡ true
    → guard s at caller command desk ≡ None
    → Brings s desk (change_by (call s at caller) (facts_of command desk) (plan_of command))
change_brings s at caller command desk sound queues all free =
    let asks = call s at caller in
    let plan = plan_of command in
    let known : knows s caller ≡ true =
    holding (knows s caller)
    (passed (UnknownCaller, not (knows s caller))
    ((BadMoment, not (is_moment at))
    ∷ (conditions_of_words asks plan ++ conditions_by asks (facts_of_plan plan desk) plan)) free).0 in
    record {
      queue = by_plan_at (λ d change. KnowsQueue s change.queue) asks plan desk (λ reads. tt)
          (opens asks desk command) free;
      filed = by_plan_at (λ d change. KnowsRow s d change.filed) asks plan desk (λ reads. tt)
          (files asks desk sound queues command) free;
      row = by_plan_at (λ d change. KnowsRow s d change.row) asks plan desk (λ reads. tt)
          (rows asks desk known all command) free;
      put = by_plan_at (λ d change. list_all (λ w. knows s w.person) change.put ≡ true) asks plan
          desk (λ reads. refl) (puts asks desk known command) free;
      entries = entries_known s at caller _ (appended s at caller command desk) known;
    }
