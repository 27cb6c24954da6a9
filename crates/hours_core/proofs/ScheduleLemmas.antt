-- How the intervals of local days become spans of moments.
use Rattle.std.proofs.Common.{◌≡◌, ℕ, ◌+◌, ◌-◌, ◌*◌, ◌/◌, ◌%◌, ◌<◌, ◌≤◌, Bool, true, false}
use Rattle.std.proofs.Common.{◌&&◌, ◌||◌, ◌==◌, nat_le, nat_lt, List, [], ◌∷◌, min, max, ℤ}
use Rattle.std.proofs.Common.{◌⊎◌, pos, ◌+ℤ◌, unsigned_abs, inl, inr, refl, sym, ◌∙◌, arith}
use Rattle.std.specs.List.{list_any}
use Rattle.std.proofs.lemmas.Bool.{cases_lt, lt-ltb, le-ltb, le-leb}
use Rattle.std.proofs.lemmas.Bool.{lt-leb, and_parts, leb-true, ltb-true}
use Rattle.std.proofs.lemmas.Int.{ints}
use Rattle.hours_core.specs.Date.{date_of_day}
use Rattle.hours_core.specs.Hours.{Hours, is_between, is_open, is_open_on, is_within, are_intervals}
use Rattle.hours_core.specs.Moment.{first_minute, end_minute, is_moment}
use Rattle.hours_core.specs.Schedule.{HoldBefore}
use Rattle.hours_core.specs.Spans.{is_held, last_end}
use Rattle.hours_core.specs.Zone.{Offsets, local_minute}
use Rattle.hours_core.specs.declared.spans.Span.{Span}
use Rattle.hours_core.proofs.SpanLemmas.{within, under, over, and-false, or-false}

inside : (midnight from to s e m : ℕ) → midnight ≤ from → from ≤ m → m < to
    → is_within m (max from (midnight + s), min to (midnight + e)) ≡ is_within (m - midnight) (s, e)
inside midnight from to s e m h low high =
    let a = max from (midnight + s) in
    let b = min to (midnight + e) in
    elim (cases_lt (m - midnight) s) [
      | inl before ↦ rw (under s e (m - midnight) before, under a b m (omega arith)) refl
      | inr begun ↦ elim (cases_lt (m - midnight) e) [
        | inl still ↦ rw (
          within s e (m - midnight) begun still,
          within a b m (omega arith) (omega arith),
        ) refl
        | inr after ↦ rw (over s e (m - midnight) after, over a b m (omega arith)) refl
      ]
    ]

-- the part of a local interval that lies between two minutes
pub clipped : (midnight from to s e m : ℕ) → midnight ≤ from
    → is_within m (max from (midnight + s), min to (midnight + e))
    ≡ (is_within m (from, to) && is_within (m - midnight) (s, e))
clipped midnight from to s e m h =
    let a = max from (midnight + s) in
    let b = min to (midnight + e) in
    elim (cases_lt m from) [
      | inl early ↦ rw (under from to m early, under a b m (omega arith)) refl
      | inr low ↦ elim (cases_lt m to) [
        | inr late ↦ rw (over from to m late, over a b m (omega arith)) refl
        | inl high ↦ rw (within from to m low high) (inside midnight from to s e m h low high)
      ]
    ]

-- one interval more
pub one_more : (old between some more : Bool)
    → ((old || (between && some)) || (between && more)) ≡ (old || (between && (some || more)))
one_more true between some more = refl
one_more false true some more = refl
one_more false false some more = refl

-- where the clipped interval is empty nothing is added
pub nothing_more : (a b m : ℕ) (held : Bool) → b ≤ a → held ≡ (held || is_within m (a, b))
nothing_more a b m true h = refl
nothing_more a b m false h =
    elim (cases_lt m a) [
      | inl early ↦ rw (under a b m early) refl
      | inr from ↦ rw (over a b m (omega arith)) refl
    ]

pub next_interval : (e : ℕ) (interval : ℕ × ℕ) (intervals : List (ℕ × ℕ))
    → are_intervals e (interval ∷ intervals) ≡ true
    → (e ≤ interval.0) × (interval.0 < interval.1) × (interval.1 ≤ 1440)
    × (are_intervals interval.1 intervals ≡ true)
next_interval e interval intervals h =
    let p = and_parts (nat_le e interval.0 && nat_lt interval.0 interval.1
    && nat_le interval.1 1440) (are_intervals interval.1 intervals) h in
    let q = and_parts (nat_le e interval.0 && nat_lt interval.0 interval.1)
    (nat_le interval.1 1440) p.0 in
    let r = and_parts (nat_le e interval.0) (nat_lt interval.0 interval.1) q.0 in
    (leb-true _ _ r.0, ltb-true _ _ r.1, leb-true _ _ q.1, p.1)

-- a minute of a local day is open where the day's intervals hold it
open_at : (hours : Hours) (m day minute : ℕ) → first_minute ≤ m → m < end_minute → minute < 1440
    → local_minute hours.zone m ≡ day * 1440 + minute
    → is_open hours m ≡ is_open_on hours day minute
unfolding is_open
open_at hours m day minute low high small e =
    let quotient : (day * 1440 + minute) / 1440 ≡ day = omega arith in
    let rest : (day * 1440 + minute) % 1440 ≡ minute = omega arith in
    rw (e, quotient, rest, le-leb first_minute m low, lt-ltb m end_minute high) refl

and-true : (a b : Bool) → a ≡ b → a ≡ (true && b)
and-true a b e = e

-- a stretch of a local day more
pub held_more : (hours : Hours) (point next midnight day : ℕ) (intervals : List (ℕ × ℕ))
    (old new : List Span) → HoldBefore hours point old
    → first_minute ≤ point → midnight ≤ point → point ≤ next → next ≤ midnight + 1440
    → next ≤ end_minute
    → ((m : ℕ) → point ≤ m → m < next → local_minute hours.zone m ≡ day * 1440 + (m - midnight))
    → ((minute : ℕ) → list_any (is_within minute) intervals ≡ is_open_on hours day minute)
    → ((m : ℕ) → is_held new m
    ≡ (is_held old m || (is_within m (point, next)
    && list_any (is_within (m - midnight)) intervals)))
    → last_end first_minute new ≤ next
    → HoldBefore hours next new
held_more hours point next midnight day intervals old new before low begins order short high clock
    opens grown last = record {
      held = λ m.
          elim (cases_lt m point) [
            | inl early ↦
                rw (
                  grown m,
                  before.held m,
                  under point next m early,
                  lt-ltb m point early,
                  lt-ltb m next (omega arith),
                ) (or-false (is_open hours m))
            | inr from ↦ elim (cases_lt m next) [
              | inl inside ↦
                  rw (
                    grown m,
                    before.held m,
                    within point next m from inside,
                    le-ltb m point from,
                    lt-ltb m next inside,
                  )
                  (opens (m - midnight)
                  ∙ sym
                  (open_at hours m day (m - midnight) (omega arith) (omega arith) (omega arith)
                  (clock m from inside)))
              | inr late ↦
                  rw (
                    grown m,
                    before.held m,
                    over point next m late,
                    le-ltb m point from,
                    le-ltb m next late,
                  ) refl
            ]
          ];
      last = last;
    }

third_false : (a b c : Bool) → c ≡ false → (a && (b && c)) ≡ false
third_false false b c e = refl
third_false true false c e = refl
third_false true true c e = e

-- where no local day is of the years, nothing is open
pub shut_beside : (hours : Hours) (first end : ℕ)
    → ((m : ℕ) → first_minute ≤ m → m < end_minute → ((m < first) ⊎ (end ≤ m))
    → is_between hours.years (date_of_day (local_minute hours.zone m / 1440)).0 ≡ false)
    → (m : ℕ) → ((m < first) ⊎ (end ≤ m)) → is_open hours m ≡ false
unfolding is_open
shut_beside hours first end beside m side =
    elim (cases_lt m first_minute) [
      | inl early ↦ rw (lt-leb first_minute m early) refl
      | inr from ↦ elim (cases_lt m end_minute) [
        | inr late ↦ rw (le-ltb m end_minute late, and-false (nat_le first_minute m)) refl
        | inl within ↦
            third_false (is_moment m) _
            (is_between hours.years (date_of_day (local_minute hours.zone m / 1440)).0)
            (beside m from within side)
      ]
    ]

-- before the minutes of the years nothing is open
pub none_yet : (hours : Hours) (first : ℕ) → first_minute ≤ first
    → ((m : ℕ) → m < first → is_open hours m ≡ false) → HoldBefore hours first []
none_yet hours first low shut = record {
  held = λ m.
      elim (cases_lt m first) [
        | inl early ↦ rw (lt-ltb m first early, shut m early) refl
        | inr from ↦ rw (le-ltb m first from) refl
      ];
  last = low;
}

-- before the end of the minutes of the years everything is
pub all_held : (hours : Hours) (point end m : ℕ) (spans : List Span) → HoldBefore hours point spans
    → end ≤ point → ((m : ℕ) → end ≤ m → is_open hours m ≡ false)
    → is_held spans m ≡ is_open hours m
all_held hours point end m spans before h shut =
    elim (cases_lt m point) [
      | inl early ↦ before.held m ∙ rw (lt-ltb m point early) refl
      | inr late ↦
          before.held m ∙ rw (le-ltb m point late) (sym (shut m (omega arith)))
    ]

-- the order of holidays, and how often each is named, doesn't matter
pub same_holidays : (zone : Offsets) (week : List (List (ℕ × ℕ))) (years : ℤ × ℤ) (xs ys : List ℕ)
    (m : ℕ)
    → ((day : ℕ) → list_any (λ holiday. holiday == day) xs
    ≡ list_any (λ holiday. holiday == day) ys)
    → is_open (record { zone = zone; week = week; holidays = xs; years = years }) m
    ≡ is_open (record { zone = zone; week = week; holidays = ys; years = years }) m
unfolding is_open
same_holidays zone week years xs ys m same = rw (same (local_minute zone m / 1440)) refl

-- the local minute of a later moment with the same offset
pub clock_at : (point local m : ℕ) (offset : ℤ) → pos local ≡ pos point +ℤ offset → point ≤ m
    → 1440 ≤ point
    → unsigned_abs (pos m +ℤ offset) ≡ local / 1440 * 1440 + (m - (point - local % 1440))
clock_at point local m offset e low day =
    let moved : pos m +ℤ offset ≡ pos (local + (m - point)) = omega (arith, ints) in
    rw moved (omega arith)
