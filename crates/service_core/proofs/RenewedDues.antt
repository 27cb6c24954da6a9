-- Once the due moments that differ are written, each request has that of the desk: the numbers
-- differ, so each is written for one request alone.
use Rattle.std.proofs.Common.{◌≡◌, ◌∙◌, ℕ, ◌+◌, ◌<◌, ◌≤◌, ◌==◌, Bool, true, false, cond, not}
use Rattle.std.proofs.Common.{List, [], ◌∷◌, filter, length, map, Option, Some, None, refl}
use Rattle.std.proofs.Common.{◌++◌, ap, ap₂, arith, get_or, sym, take, subst, Ok, Err, OnOk, Result}
use Rattle.std.proofs.lemmas.List.{append-nil, map-append}
use Rattle.std.proofs.lemmas.List.Elements.{filter_more}
use Rattle.std.specs.List.{All}
use Rattle.std.proofs.lemmas.Bool.{and_parts, eq-eqb, eqb-true, ne_eqb}
use Rattle.std.proofs.lemmas.List.Elements.{All-nil, All-cons, All-head, All-tail}
use Rattle.hours_core.specs.declared.stay.Stay.{Stay}
use Rattle.settings_core.specs.declared.settings.Settings.{Settings}
use Rattle.desk_model.specs.Desk.{Desk, Request}
use Rattle.desk_model.specs.IsDesk.{IsDesk, are_numbered}
use Rattle.desk_model.specs.declared.rows.QueueRow.{QueueRow}
use Rattle.desk_model.specs.declared.rows.RequestRow.{RequestRow}
use Rattle.desk_core.proofs.EachRequest.{each_both, each_so, numbers_lie}
use Rattle.sqlite.specs.State.{State}
use Rattle.report_core.specs.Rows.{QueuesRise}
use Rattle.store_tables.specs.Contents.{Contents, contents_of, request_rows}
use Rattle.store_tables.specs.Contents.Request.{Dated, dated_by, due_but, dues_but}
use Rattle.store_tables.specs.Stands.{HoldCommitted}
use Rattle.store_tables.specs.declared.fault.StoreFault.{StoreFault}
use Rattle.store_core.specs.Applying.{DatesDesk}
use Rattle.store_core.specs.Due.{due_of_row}
use Rattle.store_core.specs.Rows.{dated_rows}
use Rattle.service_core.specs.Renewing.{AreRenewedFrom, StaysRise, all_stays, due_by, due_with}
use Rattle.service_core.specs.Renewing.{is_same_moment, is_stale, renewal, renewals}
use Rattle.service_core.proofs.StayLemmas.{stays_found, stays_rise}

same_moment : (a b : Option ℕ) → not (is_same_moment a b) ≡ false → b ≡ a
same_moment None None is = refl
same_moment (Some a) (Some b) is = ap Some (sym (eqb-true a b (same (a == b) is)))
  where
    same : (t : Bool) → not t ≡ false → t ≡ true
    same true e = refl
    same false e = cc
same_moment None (Some b) is = cc
same_moment (Some a) None is = cc

module _ (s : Settings) (queues : List QueueRow) (stays : List (ℕ × Stay))
    (due : RequestRow → Option ℕ) where
  abbrev pairs : List Request → List Dated
  pairs rs = map (dated_by due) (map (λ r. r.row) rs)

  abbrev stale : List Request → List Dated
  stale rs = filter (is_stale s queues stays) (pairs rs)

  abbrev after : List Dated → (RequestRow → Option ℕ) → RequestRow → Option ℕ
  after ps d = dues_but (map (renewal s queues stays) ps) d

  -- what is written of others changes nothing here
  others : (rs : List Request) (d : RequestRow → Option ℕ) (row : RequestRow)
      → All (λ r. row.id ≡ r.row.id → ⊥) rs → after (stale rs) d row ≡ d row
  others [] d row apart = refl
  others (r ∷ rs) d row apart =
      let one : Dated = (r.row, due r.row) in
      let rest = All-tail (λ r. row.id ≡ r.row.id → ⊥) r rs apart in
      elim (is_stale s queues stays one)
      as (λ b. after (cond b (one ∷ stale rs) (stale rs)) d row ≡ d row) [
        | true ↦
            others rs (due_but r.row.id (due_by s queues stays r.row) d) row rest
            ∙ ap (λ b. cond b (due_by s queues stays r.row) (d row))
            (ne_eqb row.id r.row.id (All-head (λ r. row.id ≡ r.row.id → ⊥) r rs apart))
        | false ↦ others rs d row rest
      ]

  -- each has the desk's
  each : (n : ℕ) (rs : List Request) (d : RequestRow → Option ℕ)
      → are_numbered n (map (λ r. r.row.id) rs) ≡ true → All (λ r. d r.row ≡ due r.row) rs
      → All (λ r. after (stale rs) d r.row ≡ due_by s queues stays r.row) rs
  each n [] d numbered agrees = All-nil (λ r. after [] d r.row ≡ due_by s queues stays r.row)
  each n (r ∷ rs) d numbered agrees =
      let parts = and_parts (r.row.id == n)
      (are_numbered (n + 1) (map (λ r. r.row.id) rs)) numbered in
      let number : r.row.id ≡ n = eqb-true r.row.id n parts.0 in
      let higher = numbers_lie (n + 1) (n + 1 + length rs) (n + 1) rs (omega arith) (omega arith)
      parts.1 in
      let apart : All (λ x. r.row.id ≡ x.row.id → ⊥) rs =
      each_so (λ x. (n + 1 ≤ x.row.id) × (x.row.id < n + 1 + length rs))
      (λ x. r.row.id ≡ x.row.id → ⊥) rs (λ x lies e. omega (arith, lies.0, e, number)) higher in
      let agree = All-tail (λ x. d x.row ≡ due x.row) r rs agrees in
      let one : Dated = (r.row, due r.row) in
      let moment = due_by s queues stays r.row in
      elim (is_stale s queues stays one)
      as (λ b. is_stale s queues stays one ≡ b
      → All (λ x. after (cond b (one ∷ stale rs) (stale rs)) d x.row ≡ due_by s queues stays x.row)
      (r ∷ rs)) [
        | true ↦ λ e.
            let next : RequestRow → Option ℕ = due_but r.row.id moment d in
            All-cons (λ x. after (one ∷ stale rs) d x.row ≡ due_by s queues stays x.row) r rs
            (others rs next r.row apart
            ∙ ap (λ b. cond b moment (d r.row)) (eq-eqb r.row.id r.row.id refl))
            (each (n + 1) rs next parts.1
            (each_so (λ x. (r.row.id ≡ x.row.id → ⊥) × (d x.row ≡ due x.row))
            (λ x. next x.row ≡ due x.row) rs
            (λ x h. ap (λ b. cond b moment (d x.row))
            (ne_eqb x.row.id r.row.id (λ e. h.0 (sym e))) ∙ h.1)
            (each_both (λ x. r.row.id ≡ x.row.id → ⊥) (λ x. d x.row ≡ due x.row) rs apart
            agree)))
        | false ↦ λ e.
            All-cons (λ x. after (stale rs) d x.row ≡ due_by s queues stays x.row) r rs
            (others rs d r.row apart ∙ All-head (λ x. d x.row ≡ due x.row) r rs agrees
            ∙ same_moment moment (due r.row) e)
            (each (n + 1) rs d parts.1 agree)
      ] refl

  as_itself : (rs : List Request) → All (λ r. due r.row ≡ due r.row) rs
  as_itself [] = All-nil (λ r. due r.row ≡ due r.row)
  as_itself (r ∷ rs) = All-cons (λ r. due r.row ≡ due r.row) r rs refl (as_itself rs)

same_pairs : (one other : RequestRow → Option ℕ) (rs : List Request)
    → All (λ r. one r.row ≡ other r.row) rs
    → map (dated_by one) (map (λ r. r.row) rs) ≡ map (dated_by other) (map (λ r. r.row) rs)
same_pairs one other [] all = refl
same_pairs one other (r ∷ rs) all =
    ap₂ (λ (d : Option ℕ) (ds : List Dated). (r.row, d) ∷ ds)
    (All-head (λ r. one r.row ≡ other r.row) r rs all)
    (same_pairs one other rs (All-tail (λ r. one r.row ≡ other r.row) r rs all))

-- of the queues and the stays of a desk, a request is due as on the desk
due_on_desk : (s : Settings) (desk : Desk) → IsDesk desk → (row : RequestRow)
    → due_by s desk.queues (all_stays desk) row ≡ due_of_row s desk row
due_on_desk s desk is row =
    ap (λ stays. due_with s desk.queues stays row) (stays_found desk row.id is)

-- of whatever due moments the tables kept
pub renewed_dues : (s : Settings) (desk : Desk) (due : RequestRow → Option ℕ) → IsDesk desk
    → contents_of (dues_but (renewals s desk.queues (all_stays desk)
    (map (dated_by due) (request_rows desk))) due) desk
    ≡ contents_of (due_of_row s desk) desk
renewed_dues s desk due is =
    let stays = all_stays desk in
    let dues =
    dues_but (renewals s desk.queues stays (map (dated_by due) (request_rows desk))) due in
    ap (λ (ds : List Dated). record (contents_of due desk) { dated = ds })
    (same_pairs dues (due_of_row s desk) desk.requests
    (each_so (λ r. dues r.row ≡ due_by s desk.queues stays r.row)
    (λ r. dues r.row ≡ due_of_row s desk r.row) desk.requests
    (λ r renewed. renewed ∙ due_on_desk s desk is r.row)
    (each s desk.queues stays due 1 desk.requests due is.requests
    (as_itself s desk.queues stays due desk.requests))))

-- ---- a loop's step

mapped : {X Y : Type 0} (f : X → Y) (b : Bool) (x : X)
    → cond b (f x ∷ []) [] ≡ map f (cond b (x ∷ []) [])
mapped f true x = refl
mapped f false x = refl

pub renewals_more : (s : Settings) (queues : List QueueRow) (stays : List (ℕ × Stay))
    (xs : List Dated) (i : ℕ) (d : Dated)
    (b : Bool) (was now : List (ℕ × Option ℕ)) → i < length xs
    → b ≡ is_stale s queues stays (get_or xs i d)
    → now ≡ was ++ cond b (renewal s queues stays (get_or xs i d) ∷ []) []
    → was ≡ renewals s queues stays (take i xs)
    → now ≡ renewals s queues stays (take (i + 1) xs)
renewals_more s queues stays xs i d b was now low b_is now_is was_is =
    let f : Dated → ℕ × Option ℕ = renewal s queues stays in
    let x = get_or xs i d in
    let so_far = filter (is_stale s queues stays) (take i xs) in
    now_is
    ∙ ap (λ ys. ys ++ cond b (f x ∷ []) []) was_is
    ∙ ap (λ c. map f so_far ++ cond c (f x ∷ []) []) b_is
    ∙ ap (λ ys. map f so_far ++ ys) (mapped f (is_stale s queues stays x) x)
    ∙ sym (map-append f so_far (cond (is_stale s queues stays x) (x ∷ []) []))
    ∙ ap (map f) (sym (filter_more (is_stale s queues stays) xs i d low))

pub one_put : {X : Type 0} (b : Bool) (x : X) (was now : List X) → b ≡ true → now ≡ was ++ x ∷ []
    → now ≡ was ++ cond b (x ∷ []) []
one_put b x was now is put = put ∙ ap (λ (t : Bool). was ++ cond t (x ∷ []) []) (sym is)

pub none_put : {X : Type 0} (b : Bool) (x : X) (was now : List X) → b ≡ false → now ≡ was
    → now ≡ was ++ cond b (x ∷ []) []
none_put b x was now is same =
    same ∙ sym (append-nil was) ∙ ap (λ (t : Bool). was ++ cond t (x ∷ []) []) (sym is)

-- once those that differ are set, the tables keep the desk's
pub renewed_from : {X : Type 0} (s : Settings) (queues : List QueueRow) (stays : List (ℕ × Stay))
    (dated : List Dated) (dues : List (ℕ × Option ℕ)) (old new : State) (r : Result X StoreFault)
    → (QueuesRise queues → StaysRise stays → dues ≡ renewals s queues stays dated)
    → DatesDesk dues old new r → OnOk r (AreRenewedFrom s queues stays dated old new)
renewed_from s queues stays dated dues old new (Err e) made dates = tt
renewed_from s queues stays dated dues old new (Ok x) made dates =
    λ desk is due these all those stand.
    let rise : QueuesRise queues = subst QueuesRise (sym these) is.queues in
    let up : StaysRise stays = subst StaysRise (sym all) (stays_rise desk is) in
    let made_of : dues ≡ renewals s desk.queues (all_stays desk) (dated_rows due desk) =
    made rise up
    ∙ ap (λ qs. renewals s qs stays dated) these
    ∙ ap₂ (renewals s desk.queues) all those in
    subst (λ (c : Contents). HoldCommitted c new)
    (ap (λ ds. contents_of (dues_but ds due) desk) made_of ∙ renewed_dues s desk due is)
    (dates desk due stand)
