-- The links of a request that is shown are in the order of their numbers.
use Rattle.std.proofs.Common.{◌≡◌, ◌∙◌, ℕ, ◌==◌, Bool, true, false, ◌&&◌, ◌||◌, cond}
use Rattle.std.proofs.Common.{List, [], ◌∷◌, filter, map, inl, inr, refl, ap, sym, arith}
use Rattle.std.specs.Bool.{nat_lt}
use Rattle.std.specs.List.{list_all}
use Rattle.std.proofs.lemmas.Bool.{and_from, and_parts, eq-eqb, eqb-true, le-ltb, ltb-true}
use Rattle.std.proofs.lemmas.Bool.{or_cases}
use Rattle.settings_core.specs.declared.settings.Settings.{Settings}
use Rattle.desk_model.specs.Desk.{Desk}
use Rattle.desk_model.specs.IsDesk.{IsDesk}
use Rattle.desk_model.specs.Links.{is_kind, is_lower_link, kind_number}
use Rattle.desk_model.specs.Readings.Show.{LinksRise, leads_from, leads_to, linked_from, linked_to}
use Rattle.desk_model.specs.Readings.Show.{links_of, numbers_rise}
use Rattle.desk_model.specs.Rights.{is_shown}
use Rattle.desk_model.specs.Rising.{comes_first, is_rising}
use Rattle.desk_model.specs.declared.rows.LinkKind.{LinkKind}
use Rattle.desk_model.specs.declared.rows.LinkKind.TheVariants.{DependsOn, MemberOf, RefersTo}
use Rattle.desk_model.specs.declared.rows.LinkRow.{LinkRow}
use Rattle.desk_core.proofs.DeskLaw.Links.{links_go_on, same_kind}
use Rattle.sorted_lists.proofs.Rising.{filtered_rises}

-- what passes a test, all that is filtered passes
all_kept : {X : Type 0} (test : X → Bool) (xs : List X) → list_all test (filter test xs) ≡ true
all_kept test [] = refl
all_kept test (x ∷ xs) =
    elim (test x) as (λ b. test x ≡ b
    → list_all test (cond b (x ∷ filter test xs) (filter test xs)) ≡ true) [
      | true ↦ λ e. and_from (test x) (list_all test (filter test xs)) e (all_kept test xs)
      | false ↦ λ e. all_kept test xs
    ] refl

-- of two links that pass the test, the lower has the lower number
abbrev Follows : (LinkRow → Bool) → (LinkRow → ℕ) → Type 0
Follows test number =
    (a b : LinkRow) → test a ≡ true → test b ≡ true → is_lower_link a b ≡ true
    → nat_lt (number a) (number b) ≡ true

first_number : (test : LinkRow → Bool) (number : LinkRow → ℕ) (l : LinkRow) (ls : List LinkRow)
    → Follows test number → test l ≡ true → list_all test ls ≡ true
    → comes_first is_lower_link l ls ≡ true
    → comes_first nat_lt (number l) (map number ls) ≡ true
first_number test number l [] follows one all first = refl
first_number test number l (m ∷ ms) follows one all first =
    follows l m one (and_parts (test m) (list_all test ms) all).0 first

numbers_of : (test : LinkRow → Bool) (number : LinkRow → ℕ) (ls : List LinkRow)
    → Follows test number → list_all test ls ≡ true → is_rising is_lower_link ls ≡ true
    → numbers_rise (map number ls) ≡ true
numbers_of test number [] follows all rises = refl
numbers_of test number (l ∷ ls) follows all rises =
    let parts = and_parts (comes_first is_lower_link l ls) (is_rising is_lower_link ls) rises in
    let passes = and_parts (test l) (list_all test ls) all in
    and_from (comes_first nat_lt (number l) (map number ls)) (numbers_rise (map number ls))
    (first_number test number l ls follows passes.0 passes.1 parts.0)
    (numbers_of test number ls follows passes.1 parts.1)

linked_rise : (desk : Desk) (test : LinkRow → Bool) (number : LinkRow → ℕ) → IsDesk desk
    → Follows test number → numbers_rise (map number (filter test desk.links)) ≡ true
linked_rise desk test number is follows =
    numbers_of test number (filter test desk.links) follows (all_kept test desk.links)
    (filtered_rises is_lower_link test desk.links links_go_on is.links)

not_below : (n : ℕ) → nat_lt n n ≡ false
not_below n = le-ltb n n (omega arith)

-- of two links of one kind the lower has the lower source, or the same source and the lower target
lower_ends : (a b : LinkRow) → kind_number a.kind ≡ kind_number b.kind
    → is_lower_link a b ≡ true
    → (nat_lt a.source b.source || (a.source == b.source && nat_lt a.target b.target)) ≡ true
lower_ends a b same lower =
    let k = kind_number b.kind in
    ap (λ c. nat_lt a.source b.source || (a.source == b.source && c))
    (sym (ap (λ n. nat_lt n k || (n == k && nat_lt a.target b.target)) same
    ∙ ap (λ c. c || (k == k && nat_lt a.target b.target)) (not_below k)
    ∙ ap (λ c. c && nat_lt a.target b.target) (eq-eqb k k refl)))
    ∙ lower

kinds_same : (kind : LinkKind) (a b : LinkRow) → is_kind kind a.kind ≡ true
    → is_kind kind b.kind ≡ true → kind_number a.kind ≡ kind_number b.kind
kinds_same kind a b one two =
    sym (eqb-true (kind_number kind) (kind_number a.kind) (sym (same_kind kind a.kind) ∙ one))
    ∙ eqb-true (kind_number kind) (kind_number b.kind) (sym (same_kind kind b.kind) ∙ two)

-- the number, and the kind of a link that leads as asked
ends_of : (own id : ℕ) (of_kind shown : Bool) → (own == id && (of_kind && shown)) ≡ true
    → (own ≡ id) × (of_kind ≡ true)
ends_of own id of_kind shown leads =
    let parts = and_parts (own == id) (of_kind && shown) leads in
    (eqb-true own id parts.0, (and_parts of_kind shown parts.1).0)

from_follows : (s : Settings) (caller : List ℕ) (desk : Desk) (kind : LinkKind) (id : ℕ)
    → Follows (leads_from s caller desk kind id) (λ l. l.target)
from_follows s caller desk kind id a b one two lower =
    let first = ends_of a.source id (is_kind kind a.kind) (is_shown s caller desk a.target) one in
    let second = ends_of b.source id (is_kind kind b.kind) (is_shown s caller desk b.target) two in
    let same : a.source ≡ b.source = first.0 ∙ sym second.0 in
    elim (or_cases (nat_lt a.source b.source) (a.source == b.source && nat_lt a.target b.target)
    (lower_ends a b (kinds_same kind a b first.1 second.1) lower)) [
      | inl below ↦
          let less = ltb-true a.source b.source below in absurd (omega arith)
      | inr tied ↦ (and_parts (a.source == b.source) (nat_lt a.target b.target) tied).1
    ]

to_follows : (s : Settings) (caller : List ℕ) (desk : Desk) (kind : LinkKind) (id : ℕ)
    → Follows (leads_to s caller desk kind id) (λ l. l.source)
to_follows s caller desk kind id a b one two lower =
    let first = ends_of a.target id (is_kind kind a.kind) (is_shown s caller desk a.source) one in
    let second = ends_of b.target id (is_kind kind b.kind) (is_shown s caller desk b.source) two in
    let same : a.target ≡ b.target = first.0 ∙ sym second.0 in
    elim (or_cases (nat_lt a.source b.source) (a.source == b.source && nat_lt a.target b.target)
    (lower_ends a b (kinds_same kind a b first.1 second.1) lower)) [
      | inl below ↦ below
      | inr tied ↦
          let less = ltb-true a.target b.target
          (and_parts (a.source == b.source) (nat_lt a.target b.target) tied).1 in
          absurd (omega arith)
    ]

pub links_in_order : (s : Settings) (caller : List ℕ) (desk : Desk) (id : ℕ) → IsDesk desk
    → LinksRise (links_of s caller desk id)
links_in_order s caller desk id is =
    let from : (kind : LinkKind) → numbers_rise (linked_from s caller desk kind id) ≡ true =
    λ kind. linked_rise desk (leads_from s caller desk kind id) (λ l. l.target) is
    (from_follows s caller desk kind id) in
    let to : (kind : LinkKind) → numbers_rise (linked_to s caller desk kind id) ≡ true =
    λ kind. linked_rise desk (leads_to s caller desk kind id) (λ l. l.source) is
    (to_follows s caller desk kind id) in
    record {
      depends_on = from DependsOn;
      depended_on_by = to DependsOn;
      member_of = from MemberOf;
      has_member = to MemberOf;
      refers_to = from RefersTo;
      referred_to_by = to RefersTo;
    }
