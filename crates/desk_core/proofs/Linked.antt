-- Links come by linking and go by unlinking.
use Rattle.std.proofs.Common.{◌≡◌, ◌≢◌, ◌⊎◌, ◌∙◌, inl, inr, ℕ, ◌==◌, Bool, true, false, not, ◌&&◌, ◌||◌, cond, List}
use Rattle.std.proofs.Common.{[], ◌∷◌, filter, Option, Some, None, refl, ap, sym, subst}
use Rattle.std.specs.List.{list_any}
use Rattle.std.proofs.lemmas.Bool.{and_parts, eqb-false, eqb-true}
use Rattle.rights_core.specs.Right.{modify_ticket}
use Rattle.settings_core.specs.declared.settings.Settings.{Settings}
use Rattle.desk_model.specs.Change.{applied, link_put, link_taken, no_change}
use Rattle.desk_model.specs.Commands.{plan_of}
use Rattle.desk_model.specs.Desk.{Desk, Request, placed, request_at}
use Rattle.desk_model.specs.Facts.{seen_request}
use Rattle.desk_model.specs.Links.{has_link, is_kind, is_link, is_lower_link, link}
use Rattle.desk_model.specs.Plan.{Call, change_by}
use Rattle.desk_model.specs.Rights.{holds_on, is_shown}
use Rattle.desk_model.specs.Step.{answer_of, call, desk_unless, effect, facts_of, guard, outcome_unless}
use Rattle.desk_model.specs.declared.change.Change.{Change}
use Rattle.desk_model.specs.declared.command.Command.{Command}
use Rattle.desk_model.specs.declared.command.Command.TheVariants as command
use Rattle.desk_model.specs.declared.refusal.Refusal.{Refusal}
use Rattle.desk_model.specs.declared.rows.LinkKind.{LinkKind}
use Rattle.desk_model.specs.declared.rows.LinkKind.TheVariants.{DependsOn, MemberOf, RefersTo}
use Rattle.desk_model.specs.declared.rows.LinkRow.{LinkRow}
use Rattle.desk_core.proofs.DeskLaw.ByKind.{MeetsAt, by_plan_at}
use Rattle.desk_core.proofs.DeskLaw.Stages.{links_after}
use Rattle.desk_core.proofs.Ends.{EndsShown, ends_shown}
use Rattle.desk_core.proofs.Goes.{holding}
use Rattle.desk_core.proofs.Moved.{AtEachStep}
use Rattle.desk_core.specs.Laws.{LinksLaw, Step}

same_kind : (a b : LinkKind) → is_kind a b ≡ true → a ≡ b
same_kind DependsOn DependsOn e = refl
same_kind MemberOf MemberOf e = refl
same_kind RefersTo RefersTo e = refl
same_kind DependsOn MemberOf e = cc
same_kind DependsOn RefersTo e = cc
same_kind MemberOf DependsOn e = cc
same_kind MemberOf RefersTo e = cc
same_kind RefersTo DependsOn e = cc
same_kind RefersTo MemberOf e = cc

-- a link that is told as another one is that one
same_link : (a b : LinkRow) → is_link a b ≡ true → a ≡ b
same_link a b e =
    let one = and_parts (a.source == b.source) (is_kind a.kind b.kind && a.target == b.target) e in
    let two = and_parts (is_kind a.kind b.kind) (a.target == b.target) one.1 in
    ap (λ (n : ℕ). link n a.kind a.target) (eqb-true a.source b.source one.0)
    ∙ ap (λ (k : LinkKind). link b.source k a.target) (same_kind a.kind b.kind two.0)
    ∙ ap (λ (n : ℕ). link b.source b.kind n) (eqb-true a.target b.target two.1)

swapped : (a b c : Bool) → (a || (b || c)) ≡ (b || (a || c))
swapped true true c = refl
swapped true false c = refl
swapped false b c = refl

-- what is among links where one is placed
any_placed : (test : LinkRow → Bool) (lower : LinkRow → LinkRow → Bool) (ls : List LinkRow)
    (l : LinkRow) → list_any test (placed lower ls l) ≡ (test l || list_any test ls)
any_placed test lower [] l = refl
any_placed test lower (m ∷ ms) l =
    elim (lower l m)
    as (λ b. list_any test (cond b (l ∷ m ∷ ms) (m ∷ placed lower ms l))
    ≡ (test l || (test m || list_any test ms))) [
      | true ↦ refl
      | false ↦
          ap (λ (b : Bool). test m || b) (any_placed test lower ms l)
          ∙ swapped (test m) (test l) (list_any test ms)
    ]

-- another link is among those that are left where one is taken
any_left : (l gone : LinkRow) (ls : List LinkRow) → is_link l gone ≡ false
    → list_any (is_link l) (filter (λ x. not (is_link gone x)) ls) ≡ list_any (is_link l) ls
any_left l gone [] other = refl
any_left l gone (m ∷ ms) other =
    let rest = filter (λ x. not (is_link gone x)) ms in
    elim (is_link gone m)
    as (λ b. is_link gone m ≡ b
    → list_any (is_link l) (cond (not b) (m ∷ rest) rest)
    ≡ (is_link l m || list_any (is_link l) ms)) [
      | true ↦ λ e.
          any_left l gone ms other
          ∙ ap (λ (b : Bool). b || list_any (is_link l) ms)
          (sym (ap (is_link l) (sym (same_link gone m e)) ∙ other))
      | false ↦ λ e. ap (λ (b : Bool). is_link l m || b) (any_left l gone ms other)
    ] refl

none_left : (gone : LinkRow) (ls : List LinkRow)
    → list_any (is_link gone) (filter (λ x. not (is_link gone x)) ls) ≡ false
none_left gone [] = refl
none_left gone (m ∷ ms) =
    let rest = filter (λ x. not (is_link gone x)) ms in
    elim (is_link gone m)
    as (λ b. is_link gone m ≡ b → list_any (is_link gone) (cond (not b) (m ∷ rest) rest) ≡ false) [
      | true ↦ λ e. none_left gone ms
      | false ↦ λ e. ap (λ (b : Bool). b || list_any (is_link gone) rest) e ∙ none_left gone ms
    ] refl

-- where the links are others after one is put, that is the one
put_is : (l new : LinkRow) (ls : List LinkRow)
    → list_any (is_link l) (placed is_lower_link ls new) ≢ list_any (is_link l) ls → l ≡ new
put_is l new ls differs =
    elim (is_link l new) as (λ b. is_link l new ≡ b → l ≡ new) [
      | true ↦ λ e. same_link l new e
      | false ↦ λ e. absurd (differs (any_placed (is_link l) is_lower_link ls new
          ∙ ap (λ (b : Bool). b || list_any (is_link l) ls) e))
    ] refl

taken_is : (l gone : LinkRow) (ls : List LinkRow)
    → list_any (is_link l) (filter (λ x. not (is_link gone x)) ls) ≢ list_any (is_link l) ls
    → l ≡ gone
taken_is l gone ls differs =
    elim (is_link l gone) as (λ b. is_link l gone ≡ b → l ≡ gone) [
      | true ↦ λ e. same_link l gone e
      | false ↦ λ e. absurd (differs (any_left l gone ls e))
    ] refl

-- a step after which the links are these
abbrev pub step_to : Settings → ℕ → List ℕ → Command → Desk → Option Refusal → Desk → Step
step_to s at caller asked desk o new =
    record {
      settings = s;
      at = at;
      caller = caller;
      command = asked;
      outcome = outcome_unless o (answer_of s at caller asked desk);
      old = desk;
      new = new;
    }

-- the desk with the links that a change leaves
abbrev linked_by : Change → Desk → Desk
linked_by change desk = link_taken change.unlinked (link_put change.linked desk)

abbrev MayTie : Call → Desk → LinkRow → Type 0
MayTie call desk l = (source : Request) × (request_at desk l.source ≡ Some source)
    × (holds_on call.settings call.caller modify_ticket (seen_request source) ≡ true)

-- the command puts the link, or takes it away
abbrev Ties : Call → Command → Desk → Desk → LinkRow → Type 0
Ties call asked old new l =
    ((asked ≡ command.Link l.source l.kind l.target) × (has_link old l ≡ false)
    × (l.source ≢ l.target) × (is_shown call.settings call.caller old l.source ≡ true)
    × (is_shown call.settings call.caller old l.target ≡ true))
    ⊎ ((asked ≡ command.Unlink l.source l.kind l.target) × (has_link new l ≡ false))

-- where a link comes or goes by a change, the command ties it
record Tied (call : Call) (asked : Command) (desk : Desk) (change : Change) : Type 0 where
  ties : guard call.settings call.at call.caller asked desk ≡ None → (l : LinkRow)
      → has_link (linked_by change desk) l ≢ has_link desk l
      → MayTie call desk l × Ties call asked desk (linked_by change desk) l

none_tied : (call : Call) (asked : Command) (desk : Desk) (change : Change)
    → linked_by change desk ≡ desk → Tied call asked desk change
none_tied call asked desk change same =
    record { ties = λ free l differs. absurd (differs (ap (λ (d : Desk). has_link d l) same)) }

may_tie : (call : Call) (desk : Desk) (id : ℕ) (kind : LinkKind) (other : ℕ) (l : LinkRow)
    (r : Request) → request_at desk id ≡ Some r → l ≡ link id kind other
    → holds_on call.settings call.caller modify_ticket (seen_request r) ≡ true
    → MayTie call desk l
may_tie call desk id kind other l r there is may =
    (r, ap (λ (x : LinkRow). request_at desk x.source) is ∙ there, may)

tied_met : (call : Call) (desk : Desk) (asked : Command)
    → MeetsAt call (Tied call asked) desk (plan_of asked)
tied_met call desk (command.OpenQueue name lifecycle level) = λ none.
    none_tied call (command.OpenQueue name lifecycle level) desk _ refl
tied_met call desk (command.Create queue subject status requestors) = λ none.
    none_tied call (command.Create queue subject status requestors) desk _ refl
tied_met call desk (command.Link id kind other) = λ r there same none.
    record {
      ties = λ free l differs.
          let put : l ≡ link r.row.id kind other =
          put_is l (link r.row.id kind other) desk.links differs in
          let is : l ≡ link id kind other = put ∙ ap (λ (n : ℕ). link n kind other) (sym same) in
          let ends : EndsShown call.settings call.caller desk (link id kind other) =
          ends_shown call.settings call.at call.caller (command.Link id kind other) desk
          (link id kind other) free refl in (
            may_tie call desk id kind other l r there is
                (holding (holds_on call.settings call.caller modify_ticket (seen_request r))
                none.1.0),
            inl (subst (λ (x : LinkRow).
                (command.Link id kind other ≡ command.Link x.source x.kind x.target)
                × (has_link desk x ≡ false) × (x.source ≢ x.target)
                × (is_shown call.settings call.caller desk x.source ≡ true)
                × (is_shown call.settings call.caller desk x.target ≡ true)) (sym is) (
                  refl,
                  none.1.1.0,
                  λ e. eqb-false r.row.id other none.1.1.1.0 (sym same ∙ e),
                  ends.0,
                  ends.1,
                )),
          );
    }
tied_met call desk (command.Unlink id kind other) = λ r there same none.
    record {
      ties = λ free l differs.
          let gone = link r.row.id kind other in
          let was : l ≡ gone = taken_is l gone desk.links differs in
          let is : l ≡ link id kind other = was ∙ ap (λ (n : ℕ). link n kind other) (sym same) in (
            may_tie call desk id kind other l r there is
                (holding (holds_on call.settings call.caller modify_ticket (seen_request r))
                none.1.0),
            inr (
              ap (λ (x : LinkRow). command.Unlink x.source x.kind x.target) (sym is),
              ap (λ (x : LinkRow).
                  list_any (is_link x) (filter (λ y. not (is_link gone y)) desk.links)) was
                  ∙ none_left gone desk.links,
            ),
          );
    }
tied_met call desk other = λ r there same none. none_tied call other desk _ refl

ties_alike : (call : Call) (asked : Command) (desk one two : Desk) (l : LinkRow)
    → has_link one l ≡ has_link two l → Ties call asked desk one l → Ties call asked desk two l
ties_alike call asked desk one two l same (inl puts) = inl puts
ties_alike call asked desk one two l same (inr takes) = inr (takes.0, sym same ∙ takes.1)

links_unless : (s : Settings) (at : ℕ) (caller : List ℕ) (asked : Command) (desk : Desk)
    (o : Option Refusal) → guard s at caller asked desk ≡ o
    → LinksLaw (step_to s at caller asked desk o
    (desk_unless o desk (effect s at caller asked desk)))
links_unless s at caller asked desk (Some refusal) refused l differs = absurd (differs refl)
links_unless s at caller asked desk None free l differs =
    let asks = call s at caller in
    let change = change_by asks (facts_of asked desk) (plan_of asked) in
    let met : Tied asks asked desk change =
    by_plan_at (Tied asks asked) asks (plan_of asked) desk
    (λ reads. none_tied asks asked desk no_change refl) (tied_met asks desk asked) free in
    let same : has_link (applied change desk) l ≡ has_link (linked_by change desk) l =
    ap (list_any (is_link l)) (links_after change desk) in
    let got = met.ties free l (λ e. differs (same ∙ e)) in (
      got.0,
      ties_alike asks asked desk (linked_by change desk) (applied change desk) l (sym same) got.1,
    )

pub links_law : AtEachStep LinksLaw
links_law s at caller asked desk is =
    links_unless s at caller asked desk (guard s at caller asked desk) refl
