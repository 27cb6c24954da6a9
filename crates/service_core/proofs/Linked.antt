-- The links of a request, chosen in two steps.
use Rattle.std.proofs.Common.{◌≡◌, ◌∙◌, ℕ, ◌+◌, ◌<◌, Bool, true, false, cond, ◌&&◌, List, [], ◌∷◌}
use Rattle.std.proofs.Common.{◌++◌, filter, get_or, length, map, take, refl, ap, sym}
use Rattle.std.proofs.lemmas.List.Elements.{filter_more}
use Rattle.std.proofs.Math.Path.{fun_ext}
use Rattle.settings_core.specs.declared.settings.Settings.{Settings}
use Rattle.desk_model.specs.declared.answer.Links.{Links}
use Rattle.desk_model.specs.declared.rows.LinkKind.{LinkKind}
use Rattle.desk_model.specs.declared.rows.LinkKind.TheVariants.{DependsOn, MemberOf, RefersTo}
use Rattle.desk_model.specs.declared.rows.LinkRow.{LinkRow}
use Rattle.desk_model.specs.Desk.{Desk}
use Rattle.desk_model.specs.Links.{is_kind}
use Rattle.desk_model.specs.Readings.Show.{linked_from, linked_to, links_of}
use Rattle.store_tables.specs.Contents.Link.{ends_at, starts_at}
use Rattle.service_core.specs.Shown.{is_shown_at, links_by, number_at, numbers_at}
use Rattle.service_core.specs.declared.links.End.TheVariants.{Source, Target}

-- what passes one test, then another and then a third passes all three
pub filtered : {X : Type 0} (first second third : X → Bool) (xs : List X)
    → filter third (filter second (filter first xs))
    ≡ filter (λ x. first x && (third x && second x)) xs
filtered first second third [] = refl
filtered {X} first second third (x ∷ xs) =
    let one = filter first xs in
    let two = filter second one in
    let rest = filter (λ y. first y && (third y && second y)) xs in
    let so_far = filtered first second third xs in
    elim (first x) as (λ a. filter third (filter second (cond a (x ∷ one) one))
    ≡ cond (a && (third x && second x)) (x ∷ rest) rest) [
      | true ↦ elim (second x) as (λ b. filter third (cond b (x ∷ two) two)
          ≡ cond (third x && b) (x ∷ rest) rest) [
            | true ↦ elim (third x) as (λ c. cond c (x ∷ filter third two) (filter third two)
                ≡ cond (c && true) (x ∷ rest) rest) [
                  | true ↦ ap (λ ys. x ∷ ys) so_far
                  | false ↦ so_far
                ]
            | false ↦ elim (third x) as (λ c. filter third two
                ≡ cond (c && false) (x ∷ rest) rest) [
                  | true ↦ so_far
                  | false ↦ so_far
                ]
          ]
      | false ↦ so_far
    ]

-- a loop's step
pub filtered_more : {X : Type 0} (test : X → Bool) (xs : List X) (i : ℕ) (d : X) (b : Bool)
    (was now : List X) → i < length xs → b ≡ test (get_or xs i d)
    → now ≡ was ++ cond b (get_or xs i d ∷ []) [] → was ≡ filter test (take i xs)
    → now ≡ filter test (take (i + 1) xs)
filtered_more test xs i d b was now low b_is now_is was_is =
    now_is
    ∙ ap (λ ys. ys ++ cond b (get_or xs i d ∷ []) []) was_is
    ∙ ap (λ c. filter test (take i xs) ++ cond c (get_or xs i d ∷ []) []) b_is
    ∙ sym (filter_more test xs i d low)

-- the numbers of a kind, of those links from a request or to it that are shown
from_is : (settings : Settings) (caller : List ℕ) (desk : Desk) (id : ℕ) (kind : LinkKind)
    → numbers_at Target kind
    (filter (is_shown_at settings caller desk Target) (filter (starts_at id) desk.links))
    ≡ linked_from settings caller desk kind id
from_is settings caller desk id kind =
    ap (map (number_at Target)) (filtered (starts_at id) (is_shown_at settings caller desk Target)
    (λ l. is_kind kind l.kind) desk.links)

to_is : (settings : Settings) (caller : List ℕ) (desk : Desk) (id : ℕ) (kind : LinkKind)
    → numbers_at Source kind
    (filter (is_shown_at settings caller desk Source) (filter (ends_at id) desk.links))
    ≡ linked_to settings caller desk kind id
to_is settings caller desk id kind =
    ap (map (number_at Source)) (filtered (ends_at id) (is_shown_at settings caller desk Source)
    (λ l. is_kind kind l.kind) desk.links)

-- the six lists, by the kind of link
abbrev made : (LinkKind → List ℕ) → (LinkKind → List ℕ) → Links
made from to =
    record {
      depends_on = from DependsOn;
      depended_on_by = to DependsOn;
      member_of = from MemberOf;
      has_member = to MemberOf;
      refers_to = from RefersTo;
      referred_to_by = to RefersTo;
    }

pub links_are : (settings : Settings) (caller : List ℕ) (desk : Desk) (id : ℕ)
    (from to : List LinkRow)
    → from ≡ filter (is_shown_at settings caller desk Target) (filter (starts_at id) desk.links)
    → to ≡ filter (is_shown_at settings caller desk Source) (filter (ends_at id) desk.links)
    → links_by from to ≡ links_of settings caller desk id
links_are settings caller desk id from to from_are to_are =
    ap (λ ls. links_by ls to) from_are
    ∙ ap (links_by (filter (is_shown_at settings caller desk Target)
    (filter (starts_at id) desk.links))) to_are
    ∙ ap (λ f. made f (λ kind. numbers_at Source kind
    (filter (is_shown_at settings caller desk Source) (filter (ends_at id) desk.links))))
    (fun_ext (from_is settings caller desk id))
    ∙ ap (made (λ kind. linked_from settings caller desk kind id))
    (fun_ext (to_is settings caller desk id))
