-- Why the dependency law holds.
use Rattle.std.proofs.Common.{◌≡◌, ◌≢◌, ◌⊎◌, ◌∙◌, ℕ, Bool, true, false, not, ◌&&◌, ◌||◌, cond}
use Rattle.std.proofs.Common.{List, [], ◌∷◌, find, Option, Some, None, inl, inr, refl, ap}
use Rattle.std.proofs.Common.{sym, subst, ◌==◌, filter, flat_map, option_and_then, unwrap_or}
use Rattle.std.specs.List.{list_any}
use Rattle.std.specs.Option.{option_map, option_to_list}
use Rattle.std.specs.Str.{bytes_eq}
use Rattle.std.proofs.Math.Bool.{or-true}
use Rattle.std.proofs.lemmas.Bool.{and_from, and_parts, eq-eqb, eqb-true, or_left, or_right}
use Rattle.std.proofs.lemmas.List.Concat.{flat_map-cons}
use Rattle.std.proofs.lemmas.List.Folds.{list_any-append}
use Rattle.std.proofs.lemmas.Slice.Eq.{bytes_eq-Decides}
use Rattle.lifecycle_core.specs.Lifecycle.{may_move}
use Rattle.text_core.specs.Texts.{is_among}
use Rattle.lifecycle_core.specs.declared.lifecycle.Class.TheVariants.{Initial, Active, Inactive}
use Rattle.lifecycle_core.specs.declared.parts.Parts.{Parts}
use Rattle.settings_core.specs.Settings.{lifecycle_named}
use Rattle.settings_core.specs.declared.settings.Settings.{Settings}
use Rattle.desk_model.specs.Commands.{plan_of}
use Rattle.desk_model.specs.Commands.Reply as reply
use Rattle.desk_model.specs.Commands.SetStatus as set_status
use Rattle.desk_model.specs.Commands.SetStatus.{has_open_dependency, is_open_dependency}
use Rattle.desk_model.specs.Desk.{Desk, Request, queue_at, request_at}
use Rattle.desk_model.specs.Facts.{as_dependency, dependencies_of}
use Rattle.desk_model.specs.Lifecycles.{is_inactive, is_inactive_class}
use Rattle.desk_model.specs.Lifecycles.{lifecycle_of, reopening_of}
use Rattle.desk_model.specs.Links.{has_link, is_kind, is_link, link}
use Rattle.desk_model.specs.Plan.{Call}
use Rattle.desk_model.specs.Step.{call, desk_after, facts_of}
use Rattle.desk_model.specs.declared.command.Command.{Command}
use Rattle.desk_model.specs.declared.command.Command.TheVariants.{OpenQueue, Create}
use Rattle.desk_model.specs.declared.command.Command.TheVariants.{SetStatus, Reply}
use Rattle.desk_model.specs.declared.facts.Dependency.{Dependency}
use Rattle.desk_model.specs.declared.facts.Facts.{Facts}
use Rattle.desk_model.specs.declared.facts.SeenRequest.{SeenRequest}
use Rattle.desk_model.specs.declared.rows.LinkKind.TheVariants.{DependsOn}
use Rattle.desk_model.specs.declared.rows.LinkRow.{LinkRow}
use Rattle.desk_model.specs.declared.rows.QueueRow.{QueueRow}
use Rattle.desk_model.specs.declared.rows.RequestRow.{RequestRow}
use Rattle.desk_core.proofs.Goes.{Goes, NoneHolds, none_holds, row_goes, set_by}
use Rattle.desk_core.proofs.Kept.{EachStays, history_law, ids_kept, replied_to, status_in}

-- what passes a test is among what is found by another
pub found_among : {A : Type 0} (test other : A → Bool) (xs : List A) (x : A) → find test xs ≡ Some x
    → other x ≡ true → list_any other xs ≡ true
found_among test other [] x e t = cc
found_among {A} test other (y ∷ ys) x e t =
    elim (test y) as (λ b. cond b (Some y) (find test ys) ≡ Some x
    → (other y || list_any other ys) ≡ true) [
      | true ↦ λ f. let same : y ≡ x = cc in let here : other y ≡ true =
          ap other same ∙ t in rw here refl
      | false ↦ λ f. rw (found_among test other ys x f t) (or-true (other y))
    ] e

active_class : (a b c : Bool) → b ≡ true
    → is_inactive_class (cond a (Some Initial) (cond b (Some Active) (cond c (Some Inactive) None)))
    ≡ false
active_class true b c e = refl
active_class false true c e = refl
active_class false false c e = cc

-- a request is opened again in no inactive status
reopened_open : (lifecycle : Option Parts) (from to : List ℕ)
    → reopening_of lifecycle from ≡ Some to → is_inactive lifecycle to ≡ false
reopened_open None from to e = cc
reopened_open (Some l) from to e =
    active_class (is_among l.initial to) (is_among l.active to) (is_among l.inactive to)
    (found_among (λ t. may_move l from t) (λ t. bytes_eq t to) l.active to e
    ((bytes_eq-Decides to to).1 refl))

-- the command moves the request of this number
abbrev Moves : Command → ℕ → Type 0
Moves (SetStatus id status) asked = id ≡ asked
Moves other asked = ⊥

abbrev DependencyGoes : Command → Call → Facts → SeenRequest → RequestRow → Type 0
DependencyGoes command call facts request new =
    (new.status ≡ request.row.status)
    ⊎ (is_inactive (lifecycle_of call.settings facts.queue) new.status ≡ true
    → Moves command request.row.id × (has_open_dependency call.settings facts.dependencies ≡ false))

unless_both : (a b : Bool) → (a && b) ≡ false → a ≡ true → b ≡ false
unless_both true b e t = e
unless_both false b e t = cc

reply_goes : (call : Call) (facts : Facts) (id : ℕ) (text : List ℕ) (request : SeenRequest)
    (new : RequestRow) (move : Option (List ℕ))
    → reply.move_of call facts request ≡ move → new.status ≡ unwrap_or move request.row.status
    → DependencyGoes (Reply id text) call facts request new
reply_goes call facts id text request new None e status = inl status
reply_goes call facts id text request new (Some to) e status =
    let lifecycle = lifecycle_of call.settings facts.queue in
    let active : is_inactive lifecycle new.status ≡ false =
    ap (is_inactive lifecycle) status
    ∙ reopened_open lifecycle request.row.status to (replied_to call facts request to e) in
    inr (λ inactive. let no : true ≡ false = sym inactive ∙ active in cc)

dependencies_go : (command : Command) → Goes (DependencyGoes command) (plan_of command)
dependencies_go (OpenQueue name lifecycle level) = tt
dependencies_go (Create queue subject status requestors) = tt
dependencies_go (SetStatus id status) = λ call facts request new same free sets.
    let lifecycle = lifecycle_of call.settings facts.queue in
    let to : status ≡ new.status = ap (λ o. status_in o request.row.status) sets in
    let none : NoneHolds (set_status.conditions status call facts request) =
    none_holds (set_status.conditions status call facts request) free in
    inr (λ inactive. (
      same,
      unless_both (is_inactive lifecycle status)
          (has_open_dependency call.settings facts.dependencies) none.1.1.1.1.0
          (ap (is_inactive lifecycle) to ∙ inactive),
    ))
dependencies_go (Reply id text) = λ call facts request new same free sets.
    reply_goes call facts id text request new (reply.move_of call facts request) refl
    (sym (ap (λ o. status_in o request.row.status) sets))
dependencies_go other =
    λ call facts request new same free sets. inl
    (sym (ap (λ o. status_in o request.row.status) sets))

-- the facts of a move have the dependencies of the request that is moved
moved_free : (s : Settings) (command : Command) (desk : Desk) (n : ℕ)
    → Moves command n × (has_open_dependency s (facts_of command desk).dependencies ≡ false)
    → has_open_dependency s (dependencies_of desk n) ≡ false
moved_free s (SetStatus id status) desk n moves =
    subst (λ (m : ℕ). has_open_dependency s (dependencies_of desk m) ≡ false) moves.0 moves.1
moved_free s other desk n moves = absurd moves.0

-- what a request looks at through one of its links
abbrev seen_through : Desk → LinkRow → List Dependency
seen_through desk l =
    option_to_list (option_and_then (as_dependency desk) (request_at desk l.target))

-- an open dependency is among those that a move looks at
open_counts : (s : Settings) (desk : Desk) (id n : ℕ) (dependency : Dependency)
    (links : List LinkRow) → list_any (is_link (link id DependsOn n)) links ≡ true
    → option_and_then (as_dependency desk) (request_at desk n) ≡ Some dependency
    → is_open_dependency s dependency ≡ true
    → has_open_dependency s (flat_map (seen_through desk)
    (filter (λ l. l.source == id && is_kind DependsOn l.kind) links)) ≡ true
open_counts s desk id n dependency [] linked looked counts = cc
open_counts s desk id n dependency (l ∷ ls) linked looked counts =
    let depends : LinkRow → Bool = λ x. x.source == id && is_kind DependsOn x.kind in
    let seen : List Dependency = seen_through desk l in
    let others : List Dependency = flat_map (seen_through desk) (filter depends ls) in
    elim (is_link (link id DependsOn n) l) as (λ b. is_link (link id DependsOn n) l ≡ b
    → (b || list_any (is_link (link id DependsOn n)) ls) ≡ true
    → has_open_dependency s (flat_map (seen_through desk) (filter depends (l ∷ ls))) ≡ true) [
      | true ↦ λ e h.
          let ends = and_parts (id == l.source) (is_kind DependsOn l.kind && n == l.target) e in
          let kinds = and_parts (is_kind DependsOn l.kind) (n == l.target) ends.1 in
          let own : (l.source == id) ≡ true =
          eq-eqb l.source id (sym (eqb-true id l.source ends.0)) in
          let kept : depends l ≡ true =
          and_from (l.source == id) (is_kind DependsOn l.kind) own kinds.0 in
          let there : option_and_then (as_dependency desk) (request_at desk l.target)
          ≡ Some dependency =
          ap (λ (m : ℕ). option_and_then (as_dependency desk) (request_at desk m))
          (sym (eqb-true n l.target kinds.1)) ∙ looked in
          let one : list_any (is_open_dependency s) seen ≡ true =
          ap (λ (o : Option Dependency). list_any (is_open_dependency s) (option_to_list o)) there
          ∙ or_left (is_open_dependency s dependency) false counts in
          rw (kept, flat_map-cons (seen_through desk) l (filter depends ls))
          (list_any-append (is_open_dependency s) seen others
          ∙ or_left (list_any (is_open_dependency s) seen)
          (list_any (is_open_dependency s) others) one)
      | false ↦ λ e h.
          let rest = open_counts s desk id n dependency ls h looked counts in
          elim (depends l) as (λ b. has_open_dependency s (flat_map (seen_through desk)
          (cond b (l ∷ filter depends ls) (filter depends ls))) ≡ true) [
            | true ↦
                rw (flat_map-cons (seen_through desk) l (filter depends ls))
                (list_any-append (is_open_dependency s) seen others
                ∙ or_right (list_any (is_open_dependency s) seen)
                (list_any (is_open_dependency s) others) rest)
            | false ↦ rest
          ]
    ] refl linked

-- a dependency of the request that isn't inactive by the lifecycle of its own queue
pub record IsOpenDependency (settings : Settings) (desk : Desk) (id : ℕ)
    (other : Request) : Type 0 where
  pub linked : has_link desk (link id DependsOn other.row.id) ≡ true
  pub there : request_at desk other.row.id ≡ Some other
  pub queue : QueueRow
  pub filed_in : queue_at desk other.row.queue ≡ Some queue
  pub is_open : is_inactive (lifecycle_named settings queue.lifecycle) other.row.status ≡ false

none_open : (s : Settings) (desk : Desk) (id : ℕ)
    → has_open_dependency s (dependencies_of desk id) ≡ false → (other : Request)
    → IsOpenDependency s desk id other → ⊥
none_open s desk id none other is =
    let dependency : Dependency =
    record { lifecycle = is.queue.lifecycle; status = other.row.status } in
    let looked : option_and_then (as_dependency desk) (request_at desk other.row.id)
    ≡ Some dependency =
    ap (λ (o : Option Request). option_and_then (as_dependency desk) o) is.there
    ∙ ap (λ (q : Option QueueRow). option_map
    (λ x. record { lifecycle = x.lifecycle; status = other.row.status }) q) is.filed_in in
    let clash : false ≡ true =
    sym none
    ∙ open_counts s desk id other.row.id dependency desk.links is.linked looked
    (ap not is.is_open) in
    cc

-- nothing that the request depends on is open where its status changes to an inactive one
nothing_open : (s : Settings) (at : ℕ) (caller : List ℕ) (command : Command) (desk : Desk) (id : ℕ)
    (before after : Request) → request_at desk id ≡ Some before
    → request_at (desk_after s at caller command desk) id ≡ Some after
    → after.row.status ≢ before.row.status
    → is_inactive (lifecycle_of s (queue_at desk before.row.queue)) after.row.status ≡ true
    → has_open_dependency s (dependencies_of desk before.row.id) ≡ false
nothing_open s at caller command desk id before after was is differs inactive =
    elim (set_by s at caller command desk id before after was is) [
      | inl kept ↦ absurd (differs (ap (λ (r : RequestRow). r.status) kept))
      | inr sets ↦
          let goes = row_goes (DependencyGoes command) s at caller command desk id before after was
          (ids_kept command) (dependencies_go command) sets in
          elim goes.0 [
            | inl stays ↦ absurd (differs stays)
            | inr moves ↦
                moved_free s command desk before.row.id
                (moves (ap (λ (q : Option QueueRow).
                is_inactive (lifecycle_of s q) after.row.status) goes.1 ∙ inactive))
          ]
    ]

pub dependency_law : (s : Settings) (at : ℕ) (caller : List ℕ) (command : Command) (desk : Desk)
    → EachStays desk (desk_after s at caller command desk) (λ before after.
    after.row.status ≢ before.row.status
    → is_inactive (lifecycle_of s (queue_at desk before.row.queue)) after.row.status ≡ true
    → (other : Request) → IsOpenDependency s desk before.row.id other → ⊥)
dependency_law s at caller command desk id before was =
    let kept = history_law s at caller command desk id before was in (
      kept.0,
      kept.1,
      λ differs inactive. none_open s desk before.row.id
          (nothing_open s at caller command desk id before kept.0 was kept.1 differs inactive),
    )
