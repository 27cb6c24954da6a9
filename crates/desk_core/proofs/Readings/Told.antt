-- What the reports tell of is told alike of the caller's view, each due moment in it is right, and
-- it is in the order of the numbers.
use Rattle.std.proofs.Common.{◌≡◌, ◌∙◌, ℕ, ◌==◌, ◌&&◌, ◌||◌, Bool, true, false, cond}
use Rattle.std.proofs.Common.{List, [], ◌∷◌, filter, find, map, Option, Some, refl, ap, ap₂}
use Rattle.std.specs.List.{All, AllByRecursion, list_any}
use Rattle.std.specs.Str.{bytes_eq}
use Rattle.std.proofs.Math.Bool.{or-true}
use Rattle.std.proofs.lemmas.Bool.{and_from}
use Rattle.std.proofs.lemmas.List.Elements.{All-filter, All-map, All-weaker}
use Rattle.std.proofs.lemmas.List.Elements.{All-from_recursion, recursion_from_All}
use Rattle.std.proofs.lemmas.Slice.Eq.{bytes_eq-Decides}
use Rattle.hours_core.specs.declared.stay.Stay.{Stay}
use Rattle.settings_core.specs.declared.settings.Settings.{Settings}
use Rattle.desk_model.specs.Desk.{Desk, Request}
use Rattle.desk_model.specs.Due.{due_on}
use Rattle.desk_model.specs.Facts.{seen_request}
use Rattle.desk_model.specs.IsDesk.{IsDesk}
use Rattle.desk_model.specs.Rights.{may_show}
use Rattle.desk_model.specs.Rising.{is_rising}
use Rattle.desk_model.specs.Told.{Told, told, told_in, told_on}
use Rattle.desk_model.specs.View.{as_seen, has_shown, view}
use Rattle.desk_model.specs.declared.rows.QueueRow.{QueueRow}
use Rattle.desk_model.proofs.StayLemmas.{stays_told}
use Rattle.desk_core.proofs.EachRequest.{found_each}
use Rattle.desk_core.proofs.InView.{queue_kept}
use Rattle.sorted_lists.proofs.Rising.{by, filtered_rises, mapped_rises, numbered_rise}
use Rattle.sorted_lists.proofs.Rising.{numbers_go_on}
use Rattle.desk_core.proofs.Readings.Owed.{IsDue}

abbrev shows : Settings → List ℕ → Request → Bool
shows s caller r = may_show s caller (seen_request r)

-- what is shown is shown still where it is seen
shown_still : (s : Settings) (caller : List ℕ) (xs : List Request)
    → filter (shows s caller) (map (as_seen s caller) (filter (shows s caller) xs))
    ≡ map (as_seen s caller) (filter (shows s caller) xs)
shown_still s caller [] = refl
shown_still s caller (x ∷ xs) =
    elim (shows s caller x) as (λ b. shows s caller x ≡ b
    → filter (shows s caller) (map (as_seen s caller)
    (cond b (x ∷ filter (shows s caller) xs) (filter (shows s caller) xs)))
    ≡ map (as_seen s caller) (cond b (x ∷ filter (shows s caller) xs)
    (filter (shows s caller) xs))) [
      | true ↦ λ e. rw e (ap (λ (rest : List Request). as_seen s caller x ∷ rest)
          (shown_still s caller xs))
      | false ↦ λ e. shown_still s caller xs
    ] refl

-- what passes a test is among the elements that do
each_among : {X : Type 0} (xs : List X)
    → AllByRecursion (λ x. (test : X → Bool) → test x ≡ true → list_any test xs ≡ true) xs
each_among [] = tt
each_among {X} (x ∷ xs) = (
  λ test e. rw e refl,
  recursion_from_All (λ y. (test : X → Bool) → test y ≡ true → list_any test (x ∷ xs) ≡ true) xs
      (All-weaker (λ y. (test : X → Bool) → test y ≡ true → list_any test xs ≡ true)
      (λ y. (test : X → Bool) → test y ≡ true → list_any test (x ∷ xs) ≡ true)
      (λ y further test e. ap (λ b. test x || b) (further test e) ∙ or-true (test x)) xs
      (All-from_recursion (λ y. (test : X → Bool) → test y ≡ true → list_any test xs ≡ true) xs
      (each_among xs))),
)

-- where each queue is found alike, each request is told alike
told_of_kept : (s : Settings) (caller : List ℕ) (desk : Desk) (xs : List Request)
    → AllByRecursion (λ r. (test : Request → Bool) → test r ≡ true
    → list_any test desk.requests ≡ true) xs
    → map (told_on s (view s caller desk)) (map (as_seen s caller) (filter (shows s caller) xs))
    ≡ map (told_on s desk) (filter (shows s caller) xs)
told_of_kept s caller desk [] among = refl
told_of_kept s caller desk (x ∷ xs) among =
    let seen = view s caller desk in
    let rest = told_of_kept s caller desk xs among.1 in
    elim (shows s caller x) as (λ b. shows s caller x ≡ b
    → map (told_on s seen) (map (as_seen s caller)
    (cond b (x ∷ filter (shows s caller) xs) (filter (shows s caller) xs)))
    ≡ map (told_on s desk) (cond b (x ∷ filter (shows s caller) xs)
    (filter (shows s caller) xs))) [
      | true ↦ λ e.
          let has : has_shown s caller desk x.row.queue ≡ true =
          among.0 (λ r. shows s caller r && bytes_eq r.row.queue x.row.queue)
          (and_from (shows s caller x) (bytes_eq x.row.queue x.row.queue) e
          ((bytes_eq-Decides x.row.queue x.row.queue).1 refl)) in
          ap₂ (λ (t : Told) (others : List Told). t ∷ others)
          (ap₂ (λ (q : Option QueueRow) (stays : List Stay). told_in s q stays x.row)
          (queue_kept s caller desk x.row.queue has) (stays_told s caller x)) rest
      | false ↦ λ e. rest
    ] refl

-- the reports tell of the view what they tell of the desk
pub told_in_view : (s : Settings) (caller : List ℕ) (desk : Desk)
    → told s caller (view s caller desk) ≡ told s caller desk
told_in_view s caller desk =
    ap (map (told_on s (view s caller desk))) (shown_still s caller desk.requests)
    ∙ told_of_kept s caller desk desk.requests (each_among desk.requests)

-- each is told with its due moment
pub told_due : (s : Settings) (caller : List ℕ) (desk : Desk) → IsDesk desk
    → All (λ t. IsDue s desk (t.row.id, t.due)) (told s caller desk)
told_due s caller desk is =
    All-map (λ t. IsDue s desk (t.row.id, t.due)) (told_on s desk)
    (filter (shows s caller) desk.requests)
    (All-filter (shows s caller) (λ r. IsDue s desk (r.row.id, due_on s desk r)) desk.requests
    (All-weaker (λ r. find (λ x. x.row.id == r.row.id) desk.requests ≡ Some r)
    (λ r. IsDue s desk (r.row.id, due_on s desk r)) (λ r there. (r, there, refl)) desk.requests
    (found_each 1 desk.requests is.requests)))

-- the requests that are told of rise by their numbers
pub told_rise : (s : Settings) (caller : List ℕ) (desk : Desk) → IsDesk desk
    → is_rising (by (λ (t : Told). t.row.id)) (told s caller desk) ≡ true
told_rise s caller desk is =
    let kept = filter (λ r. may_show s caller (seen_request r)) desk.requests in
    mapped_rises (by (λ (t : Told). t.row.id)) (told_on s desk) kept
    ∙ filtered_rises (by (λ (r : Request). r.row.id))
    (λ r. may_show s caller (seen_request r)) desk.requests
    (numbers_go_on (λ (r : Request). r.row.id))
    (numbered_rise (λ (r : Request). r.row.id) 1 desk.requests is.requests)
