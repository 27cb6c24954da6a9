-- Which minutes one stay more pauses.
use Rattle.std.proofs.Common.{◌≡◌, ℕ, zero, suc, ◌+◌, ◌<◌, ◌≤◌, true, false, ◌||◌, List, [], ◌∷◌}
use Rattle.std.proofs.Common.{length, take, nat_le}
use Rattle.std.proofs.Common.{get_or, unwrap_or, Option, Some, None, inl, inr, refl, ap, sym, ◌∙◌}
use Rattle.std.proofs.Common.{arith}
use Rattle.std.specs.List.{list_any}
use Rattle.std.proofs.lemmas.Bool.{cases_lt, lt-ltb, le-ltb, le-leb, lt-leb, and_from, and_left}
use Rattle.std.proofs.lemmas.Bool.{and_right, and_parts, or_from, or_left, or_parts, or_right}
use Rattle.std.proofs.lemmas.Bool.{leb-true}
use Rattle.std.proofs.lemmas.List.Folds.{list_any_at, list_any_more}
use Rattle.text_core.specs.Texts.{is_among}
use Rattle.hours_core.specs.Least.{NoneHolds, AllHold}
use Rattle.hours_core.specs.Moment.{end_minute}
use Rattle.hours_core.specs.Pauses.{are_in_order, is_before, pauses, is_paused}
use Rattle.hours_core.specs.declared.stay.Stay.{Stay}

-- where a stay ends, and `END` while it lasts
abbrev pub end_of : Stay → ℕ
end_of stay = unwrap_or stay.until end_minute

before_end : (end : Option ℕ) (k : ℕ) → k < unwrap_or end end_minute → is_before end k ≡ true
before_end None k h = refl
before_end (Some end) k h = lt-ltb k end h

after_end : (end : Option ℕ) (k : ℕ) → unwrap_or end end_minute ≤ k → k < end_minute
    → is_before end k ≡ false
after_end None k h to = absurd (omega arith)
after_end (Some end) k h to = le-ltb k end h

pub within : (ignored : List (List ℕ)) (x : Stay) (k : ℕ) → is_among ignored x.status ≡ true
    → x.from ≤ k → k < end_of x → pauses ignored k x ≡ true
within ignored x k is low high =
    and_from _ _ is (and_from _ _ (le-leb x.from k low) (before_end x.until k high))

pub earlier : (ignored : List (List ℕ)) (x : Stay) (k : ℕ) → k < x.from
    → pauses ignored k x ≡ false
earlier ignored x k h = and_right _ _ (and_left _ _ (lt-leb x.from k h))

pub later : (ignored : List (List ℕ)) (x : Stay) (k : ℕ) → end_of x ≤ k → k < end_minute
    → pauses ignored k x ≡ false
later ignored x k h to = and_right _ _ (and_right _ _ (after_end x.until k h to))

pub counted : (ignored : List (List ℕ)) (x : Stay) (k : ℕ) → is_among ignored x.status ≡ false
    → pauses ignored k x ≡ false
counted ignored x k isnt = and_left _ _ isnt

-- one stay more pauses its minutes too
one_more : (ignored : List (List ℕ)) (xs : List Stay) (i : ℕ) (x : Stay) (k : ℕ) → i < length xs
    → x ≡ get_or xs i x
    → is_paused ignored (take (i + 1) xs) k
    ≡ (is_paused ignored (take i xs) k || pauses ignored k x)
unfolding is_paused
one_more ignored xs i x k h e =
    list_any_more (pauses ignored k) xs i x h
    ∙ ap (λ y. list_any (pauses ignored k) (take i xs) || pauses ignored k y) (sym e)

-- what is paused stays so
pub still_paused : (ignored : List (List ℕ)) (xs : List Stay) (i : ℕ) (x : Stay) (m past : ℕ)
    → i < length xs → x ≡ get_or xs i x → AllHold (is_paused ignored (take i xs)) m past
    → AllHold (is_paused ignored (take (i + 1) xs)) m past
still_paused ignored xs i x m past h e all =
    λ k low high. one_more ignored xs i x k h e ∙ or_left _ _ (all k low high)

-- a stay over the end of a pause makes it longer
pub longer : (ignored : List (List ℕ)) (xs : List Stay) (i : ℕ) (x : Stay) (m past : ℕ)
    → i < length xs → x ≡ get_or xs i x → is_among ignored x.status ≡ true → x.from ≤ past
    → AllHold (is_paused ignored (take i xs)) m past
    → AllHold (is_paused ignored (take (i + 1) xs)) m (end_of x)
longer ignored xs i x m past h e is low all =
    λ k from to. elim (cases_lt k past) [
      | inl before ↦ one_more ignored xs i x k h e ∙ or_left _ _ (all k from before)
      | inr over ↦
          one_more ignored xs i x k h e ∙ or_right _ _ (within ignored x k is (omega arith) to)
    ]

-- what isn't paused stays so up to where the stay pauses nothing
pub still_clear : (ignored : List (List ℕ)) (xs : List Stay) (i : ℕ) (x : Stay) (m next to : ℕ)
    → i < length xs → x ≡ get_or xs i x → NoneHolds (is_paused ignored (take i xs)) m next
    → to ≤ next → ((k : ℕ) → m ≤ k → k < to → pauses ignored k x ≡ false)
    → NoneHolds (is_paused ignored (take (i + 1) xs)) m to
still_clear ignored xs i x m next to h e none less clear =
    λ k low high. one_more ignored xs i x k h e
    ∙ or_from _ _ (none k low (omega arith)) (clear k low high)

-- ---- stays that begin in order

none_early : (ignored : List (List ℕ)) (e : ℕ) (xs : List Stay) (k : ℕ) → are_in_order e xs ≡ true
    → k < e → is_paused ignored xs k ≡ false
unfolding is_paused
none_early ignored e [] k order h = refl
none_early ignored e (x ∷ xs) k order h =
    let parts = and_parts (nat_le e x.from) (are_in_order x.from xs) order in
    let low = leb-true e x.from parts.0 in
    or_from _ _ (earlier ignored x k (omega (arith, low)))
    (none_early ignored x.from xs k parts.1 (omega (arith, low)))

-- before a stay begins those after it pause nothing
pub clear_before : (ignored : List (List ℕ)) (e : ℕ) (xs : List Stay) (i : ℕ) (x : Stay) (k : ℕ)
    → are_in_order e xs ≡ true → i < length xs → x ≡ get_or xs i x
    → is_paused ignored (take i xs) k ≡ false → k < x.from → is_paused ignored xs k ≡ false
unfolding is_paused
clear_before ignored e [] i x k order h is none low = refl
clear_before ignored e (y ∷ ys) zero x k order h is none low =
    let parts = and_parts (nat_le e y.from) (are_in_order y.from ys) order in
    let same : x.from ≡ y.from = ap (λ (s : Stay). s.from) is in
    or_from _ _ (earlier ignored y k (omega (arith, low, same)))
    (none_early ignored y.from ys k parts.1 (omega (arith, low, same)))
clear_before ignored e (y ∷ ys) (suc i) x k order h is none low =
    let parts = and_parts (nat_le e y.from) (are_in_order y.from ys) order in
    let before = or_parts _ _ none in
    or_from _ _ before.0 (clear_before ignored y.from ys i x k parts.1 (omega arith) is before.1 low)

-- a stay pauses its minutes, whatever the others do
pub paused_by : (ignored : List (List ℕ)) (xs : List Stay) (i : ℕ) (x : Stay) (k : ℕ)
    → i < length xs → x ≡ get_or xs i x → is_among ignored x.status ≡ true → x.from ≤ k
    → k < end_of x → is_paused ignored xs k ≡ true
unfolding is_paused
paused_by ignored xs i x k h e is low high =
    list_any_at (pauses ignored k) xs i x h
    (ap (pauses ignored k) (sym e) ∙ within ignored x k is low high)

-- the stays pause no minute from there on
abbrev pub AreOver : List (List ℕ) → List Stay → ℕ → Type 0
AreOver ignored xs place = NoneHolds (is_paused ignored xs) place end_minute

pub over_more : (ignored : List (List ℕ)) (xs : List Stay) (i : ℕ) (x : Stay) (place to : ℕ)
    → i < length xs → x ≡ get_or xs i x → AreOver ignored (take i xs) place → place ≤ to
    → ((k : ℕ) → to ≤ k → k < end_minute → pauses ignored k x ≡ false)
    → AreOver ignored (take (i + 1) xs) to
over_more ignored xs i x place to h e over less none =
    λ k low high. one_more ignored xs i x k h e
    ∙ or_from _ _ (over k (omega arith) high) (none k low high)
