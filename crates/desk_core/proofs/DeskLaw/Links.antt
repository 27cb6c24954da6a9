-- The links rise, and both ends of each are there.
use Rattle.std.proofs.Common.{◌≡◌, ◌∙◌, ℕ, ◌==◌, Bool, true, false, not, ◌&&◌, ◌||◌}
use Rattle.std.proofs.Common.{cond, List, [], ◌∷◌, Option, Some, None, refl, ap, sym}
use Rattle.std.proofs.lemmas.Bool.{and_from, and_parts, or_parts}
use Rattle.std.proofs.lemmas.Cmp.{nat_cmp_total, on_total, then_total}
use Rattle.std.specs.Bool.{nat_lt}
use Rattle.std.specs.Cmp.{IsTotalOrder, unsigned_ties}
use Rattle.std.specs.List.{list_all, list_any}
use Rattle.std.specs.Option.{is_some}
use Rattle.std.specs.Ordering.{is_eq, is_lt, nat_cmp, on, ordering_reverse, ordering_then, then_cmp}
use Rattle.std.specs.declared.cmp.Ordering.{Ordering}
use Rattle.std.specs.declared.cmp.Ordering.TheVariants.{Less, Equal, Greater}
use Rattle.desk_model.specs.Change.{applied, link_put, link_taken}
use Rattle.desk_model.specs.Desk.{Desk, Request, request_at}
use Rattle.desk_model.specs.Rising.{is_rising}
use Rattle.desk_model.specs.Links.{is_kind, is_link, is_lower_link, kind_number}
use Rattle.desk_model.specs.declared.change.Change.{Change}
use Rattle.desk_model.specs.declared.rows.LinkKind.{LinkKind}
use Rattle.desk_model.specs.declared.rows.LinkKind.TheVariants.{DependsOn, MemberOf, RefersTo}
use Rattle.desk_model.specs.declared.rows.LinkRow.{LinkRow}
use Rattle.desk_core.proofs.Applied.{left_by}
use Rattle.desk_core.proofs.DeskLaw.Fitting.{LinksAnew, has_ends}
use Rattle.desk_core.proofs.DeskLaw.Stages.{links_after}
use Rattle.desk_core.proofs.Every.{every_filtered, every_placed, every_so}
use Rattle.sorted_lists.proofs.Rising.{IsTransitive, filtered_rises, is_apart}
use Rattle.sorted_lists.proofs.Rising.{orders_go_on, orders_part, placed_rises}

abbrev link_order : LinkRow → LinkRow → Ordering
link_order =
    then_cmp (on (λ l. l.source) nat_cmp)
    (then_cmp (on (λ l. kind_number l.kind) nat_cmp) (on (λ l. l.target) nat_cmp))

link_order_total : IsTotalOrder link_order
link_order_total =
    then_total (on_total (λ l. l.source) nat_cmp_total)
    (then_total (on_total (λ l. kind_number l.kind) nat_cmp_total)
    (on_total (λ l. l.target) nat_cmp_total))

lower_number : (x y : ℕ) → nat_lt x y ≡ is_lt (nat_cmp x y)
lower_number x y =
    elim (nat_lt x y) as (λ b. b ≡ is_lt (cond b Less (cond (x == y) Equal Greater))) [
      | true ↦ refl
      | false ↦ elim (x == y)
          as (λ b. false ≡ is_lt (cond b Equal Greater)) [ true ↦ refl | false ↦ refl ]
    ]

lower_then : (x y : ℕ) (o : Ordering)
    → (nat_lt x y || (x == y && is_lt o)) ≡ is_lt (ordering_then (nat_cmp x y) o)
lower_then x y o =
    elim (nat_lt x y) as (λ b. (b || (x == y && is_lt o))
    ≡ is_lt (ordering_then (cond b Less (cond (x == y) Equal Greater)) o)) [
      | true ↦ refl
      | false ↦
          elim (x == y) as (λ b. (b && is_lt o)
          ≡ is_lt (ordering_then (cond b Equal Greater) o)) [ true ↦ refl | false ↦ refl ]
    ]

lower_is : (a b : LinkRow) → is_lower_link a b ≡ is_lt (link_order a b)
lower_is a b =
    let later = ordering_then (nat_cmp (kind_number a.kind) (kind_number b.kind))
    (nat_cmp a.target b.target) in
    ap (λ t. nat_lt a.source b.source
    || (a.source == b.source && (nat_lt (kind_number a.kind) (kind_number b.kind)
    || (kind_number a.kind == kind_number b.kind && t)))) (lower_number a.target b.target)
    ∙ ap (λ t. nat_lt a.source b.source || (a.source == b.source && t))
    (lower_then (kind_number a.kind) (kind_number b.kind) (nat_cmp a.target b.target))
    ∙ lower_then a.source b.source later

pub links_go_on : IsTransitive is_lower_link
links_go_on x y z one two =
    lower_is x z ∙ orders_go_on link_order_total x y z (sym (lower_is x y) ∙ one)
    (sym (lower_is y z) ∙ two)

pub same_kind : (a b : LinkKind) → is_kind a b ≡ (kind_number a == kind_number b)
same_kind DependsOn DependsOn = refl
same_kind DependsOn MemberOf = refl
same_kind DependsOn RefersTo = refl
same_kind MemberOf DependsOn = refl
same_kind MemberOf MemberOf = refl
same_kind MemberOf RefersTo = refl
same_kind RefersTo DependsOn = refl
same_kind RefersTo MemberOf = refl
same_kind RefersTo RefersTo = refl

tied_then : (one two : Ordering) → (is_eq one && is_eq two) ≡ is_eq (ordering_then one two)
tied_then Less two = refl
tied_then Equal two = refl
tied_then Greater two = refl

link_is : (a b : LinkRow) → is_link a b ≡ is_eq (link_order a b)
link_is a b =
    let kinds = nat_cmp (kind_number a.kind) (kind_number b.kind) in
    let targets = nat_cmp a.target b.target in
    ap (λ t. t && (is_kind a.kind b.kind && a.target == b.target)) (unsigned_ties a.source b.source)
    ∙ ap (λ t. is_eq (nat_cmp a.source b.source) && (t && a.target == b.target))
    (same_kind a.kind b.kind ∙ unsigned_ties (kind_number a.kind) (kind_number b.kind))
    ∙ ap (λ t. is_eq (nat_cmp a.source b.source) && (is_eq kinds && t))
    (unsigned_ties a.target b.target)
    ∙ ap (λ t. is_eq (nat_cmp a.source b.source) && t) (tied_then kinds targets)
    ∙ tied_then (nat_cmp a.source b.source) (ordering_then kinds targets)

turned : (a b : LinkRow) → is_eq (link_order b a) ≡ false → is_eq (link_order a b) ≡ false
turned a b other =
    elim (link_order b a)
    as (λ o. link_order a b ≡ ordering_reverse o → is_eq o ≡ false
    → is_eq (link_order a b) ≡ false) [
      | Less ↦ λ back e. ap is_eq back
      | Equal ↦ λ back e. cc
      | Greater ↦ λ back e. ap is_eq back
    ] (link_order_total.antisymm a b) other

-- of two links one comes first, unless they are one
links_part : (a b : LinkRow) → is_link b a ≡ false → (is_lower_link b a || is_lower_link a b) ≡ true
links_part a b other =
    ap (λ t. t || is_lower_link a b) (lower_is b a)
    ∙ ap (λ t. is_lt (link_order b a) || t) (lower_is a b)
    ∙ orders_part link_order_total a b (turned a b (sym (link_is b a) ∙ other))

new_apart : (links : List LinkRow) (link : LinkRow) → list_any (is_link link) links ≡ false
    → is_apart is_lower_link link links ≡ true
new_apart [] link none = refl
new_apart (l ∷ ls) link none =
    let parts = or_parts (is_link link l) (list_any (is_link link) ls) none in
    and_from (is_lower_link link l || is_lower_link l link) (is_apart is_lower_link link ls)
    (links_part l link parts.0) (new_apart ls link parts.1)

put_rises : (o : Option LinkRow) (desk : Desk) → LinksAnew desk o
    → is_rising is_lower_link desk.links ≡ true
    → is_rising is_lower_link (link_put o desk).links ≡ true
put_rises None desk anew rises = rises
put_rises (Some link) desk anew rises =
    placed_rises is_lower_link desk.links link rises (new_apart desk.links link anew.0)

taken_rises : (o : Option LinkRow) (desk : Desk) → is_rising is_lower_link desk.links ≡ true
    → is_rising is_lower_link (link_taken o desk).links ≡ true
taken_rises None desk rises = rises
taken_rises (Some link) desk rises =
    filtered_rises is_lower_link (λ l. not (is_link link l)) desk.links links_go_on rises

pub links_rise : (change : Change) (desk : Desk) → LinksAnew desk change.linked
    → is_rising is_lower_link desk.links ≡ true
    → is_rising is_lower_link (applied change desk).links ≡ true
links_rise change desk anew rises =
    ap (is_rising is_lower_link) (links_after change desk)
    ∙ taken_rises change.unlinked (link_put change.linked desk)
    (put_rises change.linked desk anew rises)

still_there : (change : Change) (desk : Desk) (id : ℕ) (o : Option Request) → request_at desk id ≡ o
    → is_some o ≡ true
    → is_some (request_at (applied change desk) id) ≡ true
still_there change desk id None was there = cc
still_there change desk id (Some r) was there = ap is_some (left_by change desk id r was).1

ends_stay : (change : Change) (desk : Desk) (l : LinkRow) → has_ends desk l ≡ true
    → has_ends (applied change desk) l ≡ true
ends_stay change desk l there =
    let parts = and_parts (is_some (request_at desk l.source))
    (is_some (request_at desk l.target)) there in
    and_from (is_some (request_at (applied change desk) l.source))
    (is_some (request_at (applied change desk) l.target))
    (still_there change desk l.source (request_at desk l.source) refl parts.0)
    (still_there change desk l.target (request_at desk l.target) refl parts.1)

ends_put : (o : Option LinkRow) (desk : Desk) → LinksAnew desk o
    → list_all (has_ends desk) desk.links ≡ true
    → list_all (has_ends desk) (link_put o desk).links ≡ true
ends_put None desk anew there = there
ends_put (Some link) desk anew there =
    every_placed (has_ends desk) is_lower_link desk.links link anew.1 there

all_taken : (test : LinkRow → Bool) (o : Option LinkRow) (desk : Desk)
    → list_all test desk.links ≡ true
    → list_all test (link_taken o desk).links ≡ true
all_taken test None desk all = all
all_taken test (Some link) desk all = every_filtered test (λ l. not (is_link link l)) desk.links all

pub ends_there : (change : Change) (desk : Desk) → LinksAnew desk change.linked
    → list_all (has_ends desk) desk.links ≡ true
    → list_all (has_ends (applied change desk)) (applied change desk).links ≡ true
ends_there change desk anew there =
    ap (list_all (has_ends (applied change desk))) (links_after change desk)
    ∙ every_so (has_ends desk) (has_ends (applied change desk))
    (link_taken change.unlinked (link_put change.linked desk)).links
    (ends_stay change desk)
    (all_taken (has_ends desk) change.unlinked (link_put change.linked desk)
    (ends_put change.linked desk anew there))
