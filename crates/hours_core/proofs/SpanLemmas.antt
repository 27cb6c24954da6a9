-- What a list of spans holds when one is added at its end.
use Rattle.std.proofs.Common.{◌≡◌, ℕ, ◌+◌, ◌^◌, ◌<◌, ◌≤◌, Bool, true, false, ◌&&◌, ◌||◌, nat_le}
use Rattle.std.proofs.Common.{List, [], ◌∷◌, ◌++◌, length, inl, inr, refl, sym, ap, ◌∙◌, arith}
use Rattle.std.proofs.lemmas.Bool.{cases_lt, lt-ltb, le-ltb, le-leb, lt-leb}
use Rattle.std.proofs.lemmas.List.Folds.{list_any-append}
use Rattle.hours_core.specs.Hours.{is_within}
use Rattle.hours_core.specs.Moment.{first_minute, end_minute}
use Rattle.hours_core.specs.Spans.{is_in, is_held, length_of, AreSpans, last_end}
use Rattle.hours_core.specs.declared.spans.Span.{Span}

-- within and without an interval
pub within : (a b m : ℕ) → a ≤ m → m < b → is_within m (a, b) ≡ true
within a b m low high = rw (le-leb a m low, lt-ltb m b high) refl

pub under : (a b m : ℕ) → m < a → is_within m (a, b) ≡ false
under a b m h = rw (lt-leb a m h) refl

pub and-false : (x : Bool) → (x && false) ≡ false
and-false true = refl
and-false false = refl

pub over : (a b m : ℕ) → b ≤ m → is_within m (a, b) ≡ false
over a b m h = rw (le-ltb m b h) (and-false (nat_le a m))

pub or-false : (x : Bool) → (x || false) ≡ x
or-false true = refl
or-false false = refl

or-assoc : (x y z : Bool) → (x || (y || z)) ≡ ((x || y) || z)
or-assoc true y z = refl
or-assoc false y z = refl

-- two intervals that touch are one
pub joined : (a b e m : ℕ) → a ≤ b → b ≤ e
    → is_within m (a, e) ≡ (is_within m (a, b) || is_within m (b, e))
joined a b e m h k =
    elim (cases_lt m a) [
      | inl before ↦
          let p : m < b = omega arith in
          rw (under a e m before, under a b m before, under b e m p) refl
      | inr from ↦ elim (cases_lt m b) [
        | inl early ↦
            let p : m < e = omega arith in
            rw (within a e m from p, within a b m from early) refl
        | inr late ↦ elim (cases_lt m e) [
          | inl inside ↦ rw (within a e m from inside, within b e m late inside, over a b m late)
              refl
          | inr after ↦ rw (over a e m after, over a b m late, over b e m after) refl
        ]
      ]
    ]

-- the least start that the next span may have, and its total
abbrev pub next_of : ℕ → List Span → ℕ
next_of earliest [] = earliest
next_of earliest (span ∷ spans) = next_of (span.end + 1) spans

abbrev pub total_of : ℕ → List Span → ℕ
total_of before [] = before
total_of before (span ∷ spans) = total_of (before + length_of span) spans

pub record IsNext (earliest before : ℕ) (spans : List Span) (span : Span) : Type 0 where
  pub from : next_of earliest spans ≤ span.start
  pub some : span.start < span.end
  pub to : span.end ≤ end_minute
  pub total : span.before ≡ total_of before spans

pub join : (e b : ℕ) (xs : List Span) (s : Span) → AreSpans e b xs → IsNext e b xs s
    → AreSpans e b (xs ++ s ∷ [])
join e b [] s h n = (n.from, n.some, n.to, n.total, tt)
join e b (x ∷ xs) s h n =
    let rest : IsNext (x.end + 1) (b + length_of x) xs s =
    record { from = n.from; some = n.some; to = n.to; total = n.total } in
    (h.0, h.1, h.2, h.3, join (x.end + 1) (b + length_of x) xs s h.4 rest)

pub front : (e b : ℕ) (xs : List Span) (s : Span) → AreSpans e b (xs ++ s ∷ []) → AreSpans e b xs
front e b [] s h = tt
front e b (x ∷ xs) s h = (h.0, h.1, h.2, h.3, front (x.end + 1) (b + length_of x) xs s h.4)

pub last : (e b : ℕ) (xs : List Span) (s : Span) → AreSpans e b (xs ++ s ∷ []) → IsNext e b xs s
last e b [] s h = record { from = h.0; some = h.1; to = h.2; total = h.3 }
last e b (x ∷ xs) s h =
    let rest = last (x.end + 1) (b + length_of x) xs s h.4 in
    record { from = rest.from; some = rest.some; to = rest.to; total = rest.total }

pub next_of-last : (e : ℕ) (xs : List Span) (s : Span) → next_of e (xs ++ s ∷ []) ≡ s.end + 1
next_of-last e [] s = refl
next_of-last e (x ∷ xs) s = next_of-last (x.end + 1) xs s

pub total_of-last : (b : ℕ) (xs : List Span) (s : Span)
    → total_of b (xs ++ s ∷ []) ≡ total_of b xs + length_of s
total_of-last b [] s = refl
total_of-last b (x ∷ xs) s = total_of-last (b + length_of x) xs s

pub last_end-last : (e : ℕ) (xs : List Span) (s : Span) → last_end e (xs ++ s ∷ []) ≡ s.end
last_end-last e [] s = refl
last_end-last e (x ∷ xs) s = last_end-last x.end xs s

-- no more minutes are open than pass
total_small : (e b : ℕ) (xs : List Span) → b ≤ e → AreSpans e b xs → total_of b xs ≤ next_of e xs
total_small e b [] h s = h
total_small e b (x ∷ xs) h s =
    let start = s.0 in
    let some = s.1 in
    total_small (x.end + 1) (b + length_of x) xs (omega arith) s.4

pub before_small : (xs : List Span) (s : Span) → AreSpans first_minute 0 (xs ++ s ∷ [])
    → s.before ≤ s.start
before_small xs s h =
    let n = last first_minute 0 xs s h in
    let small = total_small first_minute 0 xs (omega arith) (front first_minute 0 xs s h) in
    omega (arith, n.from, n.total)

pub is_held-last : (xs : List Span) (s : Span) (m : ℕ)
    → is_held (xs ++ s ∷ []) m ≡ (is_held xs m || is_in m s)
is_held-last xs s m =
    list_any-append (is_in m) xs (s ∷ [])
    ∙ ap (λ (b : Bool). is_held xs m || b) (or-false (is_in m s))

-- the new spans hold what the old ones do and the minutes from `start` to before `end`, which come
-- last
pub record Appends (old new : List Span) (start «end» : ℕ) : Type 0 where
  pub spans : AreSpans first_minute 0 new
  pub held : (m : ℕ) → is_held new m ≡ (is_held old m || is_within m (start, «end»))
  pub last : last_end first_minute new ≡ «end»

pub first_added : (xs : List Span) (start «end» : ℕ) → length xs ≡ 0 → first_minute ≤ start
    → start < «end» → «end» ≤ end_minute
    → Appends (xs ++ []) (xs ++ record { start = start; end = «end»; before = 0 } ∷ []) start «end»
first_added [] start e none low some high = record {
  spans = (low, some, high, refl, tt);
  held = λ m. or-false (is_within m (start, e));
  last = refl;
}
first_added (x ∷ xs) start e none low some high = absurd (omega arith)

pub lengthened : (xs : List Span) (s : Span) (start «end» : ℕ)
    → AreSpans first_minute 0 (xs ++ s ∷ []) → s.end ≡ start → start < «end» → «end» ≤ end_minute
    → Appends (xs ++ s ∷ []) (xs ++ record s { end = «end» } ∷ []) start «end»
lengthened xs s start e h touches some high =
    let n = last first_minute 0 xs s h in
    let t : Span = record s { end = e } in
    let longer : s.start < e = omega (arith, n.some) in
    let next : IsNext first_minute 0 xs t =
    record { from = n.from; some = longer; to = high; total = n.total } in
    let old : s.start ≤ start = omega (arith, n.some) in
    record {
      spans = join first_minute 0 xs t (front first_minute 0 xs s h) next;
      held = λ m.
          is_held-last xs t m
          ∙ ap (λ (b : Bool). is_held xs m || b)
          (joined s.start start e m old (omega arith)
          ∙ ap (λ (x : ℕ). is_within m (s.start, x) || is_within m (start, e)) (sym touches))
          ∙ or-assoc (is_held xs m) (is_in m s) (is_within m (start, e))
          ∙ ap (λ (b : Bool). b || is_within m (start, e)) (sym (is_held-last xs s m));
      last = last_end-last first_minute xs t;
    }

pub added : (xs : List Span) (s : Span) (start «end» : ℕ) → AreSpans first_minute 0 (xs ++ s ∷ [])
    → s.end < start → start < «end» → «end» ≤ end_minute
    → Appends (xs ++ s ∷ [])
    ((xs ++ s ∷ []) ++ record { start = start; end = «end»; before = s.before + length_of s } ∷ [])
    start «end»
added xs s start e h gap some high =
    let n = last first_minute 0 xs s h in
    let ys = xs ++ s ∷ [] in
    let t : Span = record { start = start; end = e; before = s.before + length_of s } in
    let from : next_of first_minute ys ≤ start =
    rw (next_of-last first_minute xs s) (omega arith) in
    let total : t.before ≡ total_of 0 ys =
    sym (total_of-last 0 xs s ∙ ap (λ (x : ℕ). x + length_of s) (sym n.total)) in
    let next : IsNext first_minute 0 ys t =
    record { from = from; some = some; to = high; total = total } in
    record {
      spans = join first_minute 0 ys t h next;
      held = λ m. is_held-last ys t m;
      last = last_end-last first_minute ys t;
    }

-- there are no more spans than minutes
few : (e b : ℕ) (xs : List Span) → AreSpans e b xs → e ≤ end_minute + 1
    → length xs + e ≤ end_minute + 1
few e b [] h k = omega arith
few e b (x ∷ xs) h k =
    let start = h.0 in
    let some = h.1 in
    let to = h.2 in
    omega (arith, few (x.end + 1) (b + length_of x) xs h.4 (omega arith))

pub spans_fit : (xs : List Span) → AreSpans first_minute 0 xs → length xs < 2 ^ 32
spans_fit xs h = omega (arith, few first_minute 0 xs h (omega arith))
