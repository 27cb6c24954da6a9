-- The stays of a history to which entries are added, of which at most one begins a stay.
use Rattle.std.proofs.Common.{◌≡◌, ◌∙◌, ℕ, ◌==◌, true, false, cond, if◌then◌else◌}
use Rattle.std.proofs.Common.{List, [], ◌∷◌, ◌++◌, length, Option, Some, None, inl, inr}
use Rattle.std.proofs.Common.{refl, ap, sym, arith}
use Rattle.std.proofs.lemmas.Bool.{cases_Bool}
use Rattle.hours_core.specs.declared.stay.Stay.{Stay}
use Rattle.desk_model.proofs.StayLemmas.{stays_joined}
use Rattle.desk_model.specs.Stays.{begins_stay, next_begin, stay_from, stays_after, stays_of}
use Rattle.desk_model.specs.declared.rows.Entry.{Entry}
use Rattle.desk_core.proofs.Changed.{entries_for}
use Rattle.desk_core.specs.Carried.{beginning}

-- the last of the stays, if there is one, with this end
abbrev pub closed : List Stay → ℕ → List Stay
closed [] moment = []
closed (stay ∷ []) moment = record stay { until = Some moment } ∷ []
closed (stay ∷ next ∷ stays) moment = stay ∷ closed (next ∷ stays) moment

-- the stay that an entry begins, without an end
abbrev pub open_stay : Entry → Stay
open_stay e = record { status = e.body; from = e.moment; until = None }

full : (e : Entry) (es : List Entry) → e ∷ es ≡ [] → ⊥
full e es none = omega (arith, ap length none)

first_is : (e f : Entry) (es fs : List Entry) → e ∷ es ≡ f ∷ fs → e ≡ f
first_is e f es fs same = cc

rest_is : (e f : Entry) (es fs : List Entry) → e ∷ es ≡ f ∷ fs → es ≡ fs
rest_is e f es fs same = cc

next_none : (more : List Entry) → beginning more ≡ [] → next_begin more ≡ None
next_none [] none = refl
next_none (e ∷ more) none =
    elim (begins_stay e.kind)
    as (λ b. cond b (e ∷ beginning more) (beginning more) ≡ []
    → (if b then Some e.moment else next_begin more) ≡ None) [
      | true ↦ λ some. absurd (full e (beginning more) some)
      | false ↦ next_none more
    ] none

stays_none : (more : List Entry) → beginning more ≡ [] → stays_of more ≡ []
stays_none [] none = refl
stays_none (e ∷ more) none =
    elim (begins_stay e.kind)
    as (λ b. cond b (e ∷ beginning more) (beginning more) ≡ []
    → (if b then stay_from e more ∷ stays_of more else stays_of more) ≡ []) [
      | true ↦ λ some. absurd (full e (beginning more) some)
      | false ↦ stays_none more
    ] none

next_one : (more : List Entry) (one : Entry) → beginning more ≡ one ∷ []
    → next_begin more ≡ Some one.moment
next_one [] one is = absurd (full one [] (sym is))
next_one (e ∷ more) one is =
    elim (begins_stay e.kind)
    as (λ b. cond b (e ∷ beginning more) (beginning more) ≡ one ∷ []
    → (if b then Some e.moment else next_begin more) ≡ Some one.moment) [
      | true ↦ λ here.
          ap (λ (x : Entry). Some x.moment) (first_is e one (beginning more) [] here)
      | false ↦ next_one more one
    ] is

stays_one : (more : List Entry) (one : Entry) → beginning more ≡ one ∷ []
    → stays_of more ≡ open_stay one ∷ []
stays_one [] one is = absurd (full one [] (sym is))
stays_one (e ∷ more) one is =
    elim (begins_stay e.kind)
    as (λ b. cond b (e ∷ beginning more) (beginning more) ≡ one ∷ []
    → (if b then stay_from e more ∷ stays_of more else stays_of more) ≡ open_stay one ∷ []) [
      | true ↦ λ here.
          let none : beginning more ≡ [] = rest_is e one (beginning more) [] here in
          rw (next_none more none, stays_none more none)
          (ap (λ (x : Entry). open_stay x ∷ []) (first_is e one (beginning more) [] here))
      | false ↦ stays_one more one
    ] is

next_kept : (old more : List Entry) → beginning more ≡ []
    → next_begin (old ++ more) ≡ next_begin old
next_kept [] more none = next_none more none
next_kept (e ∷ old) more none =
    ap (λ (o : Option ℕ). if begins_stay e.kind then Some e.moment else o)
    (next_kept old more none)

-- where none of the entries begins a stay, the stays are the same
pub none_more : (old more : List Entry) → beginning more ≡ []
    → stays_of (old ++ more) ≡ stays_of old
none_more [] more none = stays_none more none
none_more (e ∷ old) more none =
    rw (next_kept old more none, none_more old more none) refl

closed_after : (stays : List Stay) (more : List Entry) (one : Entry)
    → beginning more ≡ one ∷ []
    → stays_after stays more ≡ closed stays one.moment ++ open_stay one ∷ []
closed_after [] more one is = stays_one more one is
closed_after (stay ∷ []) more one is = rw (next_one more one is, stays_one more one is) refl
closed_after (stay ∷ next ∷ stays) more one is =
    ap (λ (rest : List Stay). stay ∷ rest) (closed_after (next ∷ stays) more one is)

-- where one of them begins a stay, the last one so far ends there, and there is one more
pub one_more : (old more : List Entry) (one : Entry) → beginning more ≡ one ∷ []
    → stays_of (old ++ more) ≡ closed (stays_of old) one.moment ++ open_stay one ∷ []
one_more old more one is =
    sym (stays_joined old more) ∙ closed_after (stays_of old) more one is

-- of a request's entries, those that begin a stay are its own among all that do
pub beginning_for : (id : ℕ) (entries : List Entry)
    → beginning (entries_for id entries) ≡ entries_for id (beginning entries)
beginning_for id [] = refl
beginning_for id (e ∷ entries) =
    elim (cases_Bool (id == e.id)) [
      | inl own ↦
          elim (cases_Bool (begins_stay e.kind)) [
            | inl begins ↦ rw (own, begins) (rw own
                (ap (λ (es : List Entry). e ∷ es) (beginning_for id entries)))
            | inr none ↦ rw (own) (rw none (beginning_for id entries))
          ]
      | inr other ↦
          elim (cases_Bool (begins_stay e.kind)) [
            | inl begins ↦ rw (other, begins) (rw other (beginning_for id entries))
            | inr none ↦ rw (other, none) (beginning_for id entries)
          ]
    ]
