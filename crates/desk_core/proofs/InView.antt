-- What is found in a caller's view of the desk.
use Rattle.std.proofs.Common.{◌≡◌, ◌∙◌, ℕ, ◌+◌, ◌==◌, ◌<◌, Bool, true, false, not}
use Rattle.std.proofs.Common.{◌&&◌, ◌||◌, cond, List, [], ◌∷◌, find, filter, map}
use Rattle.std.proofs.Common.{Option, Some, None, inl, inr, refl, ap, sym, arith}
use Rattle.std.specs.Option.{option_and_then, option_map, option_map_or}
use Rattle.std.specs.Str.{bytes_eq}
use Rattle.std.proofs.lemmas.Bool.{and_from, and_parts, eqb-true, or_right}
use Rattle.std.proofs.lemmas.Bool.Decides.{eqb_tells}
use Rattle.std.proofs.lemmas.Slice.Eq.{bytes_eq-Decides}
use Rattle.rights_core.specs.Right.{see_queue}
use Rattle.settings_core.specs.declared.settings.Settings.{Settings}
use Rattle.desk_model.specs.Desk.{Desk, Request, queue_at, request_at}
use Rattle.desk_model.specs.Facts.{seen_request}
use Rattle.desk_model.specs.IsDesk.{IsDesk, are_numbered}
use Rattle.desk_model.specs.Rights.{holds_on_queue, is_shown, may_show, sees_queue}
use Rattle.desk_model.specs.View.{as_seen, has_shown, view}
use Rattle.desk_model.specs.declared.rows.QueueRow.{QueueRow}
use Rattle.desk_core.proofs.Depends.{found_among}
use Rattle.desk_core.proofs.Goes.{number_found}

unless_kept : (a : Bool) → (a ≡ true → false ≡ true) → a ≡ false
unless_kept true h = let no : false ≡ true = h refl in cc
unless_kept false h = refl

unless_left : (a b : Bool) → (a || b) ≡ false → a ≡ false
unless_left true b e = cc
unless_left false b e = refl

-- a filter of what another filter keeps, where that one keeps all that passes
pub filter_within : {A : Type 0} (p q : A → Bool) → ((x : A) → p x ≡ true → q x ≡ true)
    → (xs : List A)
    → filter p (filter q xs) ≡ filter p xs
filter_within p q keeps [] = refl
filter_within {A} p q keeps (x ∷ xs) =
    elim (q x) as (λ b. q x ≡ b → filter p (cond b (x ∷ filter q xs) (filter q xs))
    ≡ cond (p x) (x ∷ filter p xs) (filter p xs)) [
      | true ↦ λ e. ap (λ (rest : List A). cond (p x) (x ∷ rest) rest) (filter_within p q keeps xs)
      | false ↦ λ e.
          let drops : p x ≡ false = unless_kept (p x) (λ h. sym e ∙ keeps x h) in
          rw drops (filter_within p q keeps xs)
    ] refl

-- no request with a lower number is there
absent : (p : Request → Bool) (s : Settings) (caller : List ℕ) (n id : ℕ) (xs : List Request)
    → are_numbered n (map (λ r. r.row.id) xs) ≡ true → id < n
    → find (λ r. r.row.id == id) (map (as_seen s caller) (filter p xs)) ≡ None
absent p s caller n id [] e low = refl
absent p s caller n id (y ∷ ys) e low =
    let parts = and_parts (y.row.id == n) (are_numbered (n + 1) (map (λ r. r.row.id) ys)) e in
    let rest = absent p s caller (n + 1) id ys parts.1 (omega (arith, low)) in
    elim (p y) as (λ b. find (λ r. r.row.id == id)
    (map (as_seen s caller) (cond b (y ∷ filter p ys) (filter p ys))) ≡ None) [
      | true ↦
          elim (eqb_tells y.row.id id) [
            | inl same ↦ absurd (omega (arith, low, same.1, eqb-true y.row.id n parts.0))
            | inr other ↦ rw other.0 rest
          ]
      | false ↦ rest
    ]

-- a request, if it passes the test
abbrev pub kept_if : (Request → Bool) → Settings → List ℕ → Request → Option Request
kept_if p s caller r = cond (p r) (Some (as_seen s caller r)) None

-- what is found among the requests that pass the test is what is found, if it passes
found_kept : (p : Request → Bool) (s : Settings) (caller : List ℕ) (n id : ℕ) (xs : List Request)
    → are_numbered n (map (λ r. r.row.id) xs) ≡ true
    → find (λ r. r.row.id == id) (map (as_seen s caller) (filter p xs))
    ≡ option_and_then (kept_if p s caller) (find (λ r. r.row.id == id) xs)
found_kept p s caller n id [] e = refl
found_kept p s caller n id (y ∷ ys) e =
    let parts = and_parts (y.row.id == n) (are_numbered (n + 1) (map (λ r. r.row.id) ys)) e in
    let rest = found_kept p s caller (n + 1) id ys parts.1 in
    elim (eqb_tells y.row.id id) [
      | inl same ↦
          let gone = absent p s caller (n + 1) id ys parts.1
          (omega (arith, same.1, eqb-true y.row.id n parts.0)) in
          rw same.0
          (elim (p y) as (λ b. find (λ r. r.row.id == id)
          (map (as_seen s caller) (cond b (y ∷ filter p ys) (filter p ys)))
          ≡ cond b (Some (as_seen s caller y)) None) [
            | true ↦ rw same.0 refl
            | false ↦ gone
          ])
      | inr other ↦
          rw other.0
          (elim (p y) as (λ b. find (λ r. r.row.id == id)
          (map (as_seen s caller) (cond b (y ∷ filter p ys) (filter p ys)))
          ≡ option_and_then (kept_if p s caller) (find (λ r. r.row.id == id) ys)) [
            | true ↦ rw other.0 rest
            | false ↦ rest
          ])
    ]

-- the request, if it is there and the caller may show it
abbrev pub if_shown : Settings → List ℕ → Option Request → Option Request
if_shown s caller o = option_and_then (kept_if (λ r. may_show s caller (seen_request r)) s caller) o

-- the request of a number in the view
pub in_view : (s : Settings) (caller : List ℕ) (desk : Desk) (id : ℕ) → IsDesk desk
    → request_at (view s caller desk) id ≡ if_shown s caller (request_at desk id)
in_view s caller desk id is =
    found_kept (λ r. may_show s caller (seen_request r)) s caller 1 id desk.requests is.requests

abbrev pub is_shown_in : Settings → List ℕ → Option Request → Bool
is_shown_in s caller o = option_map_or (may_show s caller) (option_map seen_request o) false

shown_if_shown : (s : Settings) (caller : List ℕ) (o : Option Request)
    → is_shown_in s caller (if_shown s caller o) ≡ is_shown_in s caller o
shown_if_shown s caller None = refl
shown_if_shown s caller (Some r) =
    elim (may_show s caller (seen_request r)) as (λ b. may_show s caller (seen_request r) ≡ b
    → is_shown_in s caller (cond b (Some (as_seen s caller r)) None) ≡ b) [
      | true ↦ λ e. e
      | false ↦ λ e. refl
    ] refl

-- in the view the same requests are shown
pub shown_in_view : (s : Settings) (caller : List ℕ) (desk : Desk) (id : ℕ) → IsDesk desk
    → is_shown s caller (view s caller desk) id ≡ is_shown s caller desk id
shown_in_view s caller desk id is =
    ap (λ (o : Option Request). is_shown_in s caller o) (in_view s caller desk id is)
    ∙ shown_if_shown s caller (request_at desk id)

-- a request that is there is shown to a caller who may show it
pub shown_there : (s : Settings) (caller : List ℕ) (desk : Desk) (r : Request) (id : ℕ)
    → request_at desk id ≡ Some r
    → may_show s caller (seen_request r) ≡ true → is_shown s caller desk r.row.id ≡ true
shown_there s caller desk r id there may =
    ap (is_shown s caller desk) (number_found desk id r there)
    ∙ ap (λ (o : Option Request). is_shown_in s caller o) there ∙ may

-- a request that the caller may show is in the view, as it is seen
pub found_in_view : (s : Settings) (caller : List ℕ) (desk : Desk) (id : ℕ) (r : Request)
    → IsDesk desk → request_at desk id ≡ Some r → may_show s caller (seen_request r) ≡ true
    → request_at (view s caller desk) id ≡ Some (as_seen s caller r)
found_in_view s caller desk id r is there may =
    in_view s caller desk id is
    ∙ ap (if_shown s caller) there
    ∙ ap (λ b. cond b (Some (as_seen s caller r)) None) may

-- what is found by a name is found where all of that name are kept
found_by_name : (keep : List ℕ → Bool) (name : List ℕ) (xs : List QueueRow) → keep name ≡ true
    → find (λ q. bytes_eq q.name name) (filter (λ q. keep q.name) xs)
    ≡ find (λ q. bytes_eq q.name name) xs
found_by_name keep name [] k = refl
found_by_name keep name (y ∷ ys) k =
    elim (bytes_eq y.name name) as (λ b. bytes_eq y.name name ≡ b
    → find (λ q. bytes_eq q.name name)
    (cond (keep y.name) (y ∷ filter (λ q. keep q.name) ys) (filter (λ q. keep q.name) ys))
    ≡ cond b (Some y) (find (λ q. bytes_eq q.name name) ys)) [
      | true ↦ λ e.
          let kept : keep y.name ≡ true = ap keep ((bytes_eq-Decides y.name name).0 e) ∙ k in
          rw (kept, e) refl
      | false ↦ λ e.
          elim (keep y.name) as (λ c. find (λ q. bytes_eq q.name name)
          (cond c (y ∷ filter (λ q. keep q.name) ys) (filter (λ q. keep q.name) ys))
          ≡ find (λ q. bytes_eq q.name name) ys) [
            | true ↦ rw e (found_by_name keep name ys k)
            | false ↦ found_by_name keep name ys k
          ]
    ] refl

-- the names of queues that a view keeps
abbrev keeps : Settings → List ℕ → Desk → List ℕ → Bool
keeps s caller desk name = holds_on_queue s caller see_queue name || has_shown s caller desk name

-- a queue with a request that the caller may show is in the view
pub queue_kept : (s : Settings) (caller : List ℕ) (desk : Desk) (name : List ℕ)
    → has_shown s caller desk name ≡ true
    → queue_at (view s caller desk) name ≡ queue_at desk name
queue_kept s caller desk name has =
    found_by_name (keeps s caller desk) name desk.queues
    (or_right (holds_on_queue s caller see_queue name) (has_shown s caller desk name) has)

-- the queue of a request that the caller may show is in the view
pub queue_in_view : (s : Settings) (caller : List ℕ) (desk : Desk) (id : ℕ) (r : Request)
    → request_at desk id ≡ Some r
    → may_show s caller (seen_request r) ≡ true
    → queue_at (view s caller desk) r.row.queue ≡ queue_at desk r.row.queue
queue_in_view s caller desk id r there shown =
    queue_kept s caller desk r.row.queue
    (found_among (λ x. x.row.id == id)
    (λ x. may_show s caller (seen_request x)
    && bytes_eq x.row.queue r.row.queue) desk.requests r there
    (and_from (may_show s caller (seen_request r)) (bytes_eq r.row.queue r.row.queue) shown
    ((bytes_eq-Decides r.row.queue r.row.queue).1 refl)))

-- no queue of a name is found where none of that name is kept
none_kept : (keep : List ℕ → Bool) (name : List ℕ) (xs : List QueueRow) → keep name ≡ false
    → find (λ q. bytes_eq q.name name) (filter (λ q. keep q.name) xs) ≡ None
none_kept keep name [] k = refl
none_kept keep name (y ∷ ys) k =
    elim (keep y.name) as (λ b. keep y.name ≡ b
    → find (λ q. bytes_eq q.name name)
    (cond b (y ∷ filter (λ q. keep q.name) ys) (filter (λ q. keep q.name) ys)) ≡ None) [
      | true ↦ λ kept.
          elim (bytes_eq y.name name) as (λ b. bytes_eq y.name name ≡ b
          → cond b (Some y) (find (λ q. bytes_eq q.name name) (filter (λ q. keep q.name) ys))
          ≡ None) [
            | true ↦ λ e.
                let same : y.name ≡ name = (bytes_eq-Decides y.name name).0 e in
                absurd (let no : true ≡ false = sym kept ∙ ap keep same ∙ k in cc)
            | false ↦ λ e. none_kept keep name ys k
          ] refl
      | false ↦ λ gone. none_kept keep name ys k
    ] refl

-- a queue of a name that isn't seen is not there, or isn't seen
all_unseen : (sees : List ℕ → Bool) (name : List ℕ) (xs : List QueueRow) → sees name ≡ false
    → option_map_or (λ q. not (sees q.name)) (find (λ q. bytes_eq q.name name) xs) true ≡ true
all_unseen sees name [] unseen = refl
all_unseen sees name (y ∷ ys) unseen =
    elim (bytes_eq y.name name) as (λ b. bytes_eq y.name name ≡ b
    → option_map_or (λ q. not (sees q.name))
    (cond b (Some y) (find (λ q. bytes_eq q.name name) ys)) true ≡ true) [
      | true ↦ λ e. ap not (ap sees ((bytes_eq-Decides y.name name).0 e) ∙ unseen)
      | false ↦ λ e. all_unseen sees name ys unseen
    ] refl

-- in the view the same queues are seen
pub unseen_in_view : (s : Settings) (caller : List ℕ) (desk : Desk) (name : List ℕ)
    → option_map_or (λ q. not (sees_queue s caller q)) (queue_at (view s caller desk) name) true
    ≡ option_map_or (λ q. not (sees_queue s caller q)) (queue_at desk name) true
unseen_in_view s caller desk name =
    let sees : List ℕ → Bool = holds_on_queue s caller see_queue in
    let unseen : Option QueueRow → Bool = λ o. option_map_or (λ q. not (sees q.name)) o true in
    elim (keeps s caller desk name) as (λ b. keeps s caller desk name ≡ b
    → unseen (queue_at (view s caller desk) name) ≡ unseen (queue_at desk name)) [
      | true ↦ λ kept. ap unseen (found_by_name (keeps s caller desk) name desk.queues kept)
      | false ↦ λ gone.
          ap unseen (none_kept (keeps s caller desk) name desk.queues gone)
          ∙ sym (all_unseen sees name desk.queues
          (unless_left (sees name) (has_shown s caller desk name) gone))
    ] refl
