-- The offset of a rule stays up to the next transition, within a year on a clock at UTC.
use Rattle.std.proofs.Common.{◌≡◌, ℕ, ℤ, pos, negsuc, neg_ℤ, true, false, Option, Some, None, arith, refl, sym, ap, ◌∙◌, int_le, int_lt, ◌≤ℤ◌, ◌<ℤ◌, ◌+ℤ◌, cond}
use Rattle.std.proofs.lemmas.Int.{ints, by_lt_z}
use Rattle.jiff_core.proofs.SignedLemmas.{signed_arith}
use Rattle.jiff_tz.specs.PosixRule.{in_window, ordered, transition_of, next_by, next_at, utc_window, next_year, offset_at, dst_at_by, match_some}
use Rattle.jiff_tz.specs.Year.{year_of_nanos}
use Rattle.jiff_tz.specs.declared.posix.TimeZone.{TimeZone}
use Rattle.jiff_tz.specs.declared.posix.Dst.{Dst}
use Rattle.jiff_tz.specs.declared.info.OffsetInfo.{OffsetInfo}
use Rattle.jiff_tz.specs.Zone as Given
use Rattle.jiff_tz.specs.declared.timezone.TimeZone.{TimeZone as Zone}
use Rattle.jiff_tz.specs.Year.{year_of_day}
use Rattle.jiff_tz.proofs.YearLemmas.{years_within_is}
use Rattle.jiff_core.specs.Calendar.{days_of_years}
use Rattle.std.proofs.Common.{rules, suc, unsigned_abs, ◌-ℤ◌, ◌≤◌}
use Rattle.jiff.specs.Transitions.{Search, search_from, Steps}
use Rattle.jiff.specs.declared.tz.transitions.TimeZoneTransition.{TimeZoneTransition}
use Rattle.jiff.specs.ZoneView.{plain_transition}
use Rattle.jiff_tz.specs.PosixRule.{transition_view}
use Rattle.std.specs.Prelude.{IfSome}
use Rattle.zone_rules.specs.Rule.{IsBefore}

le_yes : (a b : ℤ) → a ≤ℤ b → int_le a b ≡ true
le_yes a b h = grind (arith, ints)

le_no : (a b : ℤ) → b <ℤ a → int_le a b ≡ false
le_no a b h = grind (arith, ints)

lt_yes : (a b : ℤ) → a <ℤ b → int_lt a b ≡ true
lt_yes a b h = grind (arith, ints)

lt_no : (a b : ℤ) → b ≤ℤ a → int_lt a b ≡ false
lt_no a b h = grind (arith, ints)

-- an end that does not lie between two instants is on one side of both
same_le : (e a b : ℤ) → a ≤ℤ b → (e ≤ℤ b → e ≤ℤ a) → int_le e a ≡ int_le e b
same_le e a b h k = by_lt_z a e
    (λ above. by_lt_z b e
    (λ below. le_no e a above ∙ sym (le_no e b below))
    (λ reached. let back = k reached in absurd (omega (arith, ints))))
    (λ before. le_yes e a before ∙ sym (le_yes e b (omega (arith, ints))))

same_lt : (e a b : ℤ) → a ≤ℤ b → (e ≤ℤ b → e ≤ℤ a) → int_lt a e ≡ int_lt b e
same_lt e a b h k = by_lt_z a e
    (λ above. by_lt_z b e
    (λ below. lt_yes a e above ∙ sym (lt_yes b e below))
    (λ reached. let back = k reached in absurd (omega (arith, ints))))
    (λ before. lt_no a e before ∙ sym (lt_no b e (omega (arith, ints))))

-- a window holds either both of two instants or none, where none of its ends lies after the first
-- and up to the second
pub window_stays : (w : ℤ × ℤ) (a b : ℤ) → a ≤ℤ b → (w.0 ≤ℤ b → w.0 ≤ℤ a) → (w.1 ≤ℤ b → w.1 ≤ℤ a) → in_window w a ≡ in_window w b
window_stays w a b h s e =
    rw (same_le w.0 a b h s, same_lt w.1 a b h e, same_le w.1 a b h e, same_lt w.0 a b h s) refl

-- a moment that is a transition, if it is an instant at all, comes after each instant before that
-- transition
after_transition : (tz : TimeZone) (d : Dst) (w : ℤ × ℤ) (e n b : ℤ) → n ≤ℤ e → neg_ℤ (pos 377_705_023_201_000_000_000) ≤ℤ n → b ≤ℤ pos 253_402_207_200_999_999_999 → IsBefore b (transition_of tz d w e) → b <ℤ e
after_transition tz d w e n b h low high k = by_lt_z (pos 253_402_207_200_999_999_999) e
    (λ beyond. omega (arith, ints))
    (λ within. rw (le_yes (neg_ℤ (pos 377_705_023_201_000_000_000)) e (omega (arith, ints)), le_yes e (pos 253_402_207_200_999_999_999) within) at k)

-- the two ends in order are the window's two ends
ordered_le : (w : ℤ × ℤ) → (ordered w).0 ≤ℤ (ordered w).1
ordered_le w = by_lt_z w.1 w.0
    (λ above. rw (le_no w.0 w.1 above) (omega (arith, ints)))
    (λ below. rw (le_yes w.0 w.1 below) below)

first_end : (w : ℤ × ℤ) (n b : ℤ) → ((ordered w).0 ≤ℤ b → (ordered w).0 ≤ℤ n) → ((ordered w).1 ≤ℤ b → (ordered w).1 ≤ℤ n) → w.0 ≤ℤ b → w.0 ≤ℤ n
first_end w n b = by_lt_z w.1 w.0
    (λ above. rw (le_no w.0 w.1 above) (λ f s. s))
    (λ below. rw (le_yes w.0 w.1 below) (λ f s. f))

second_end : (w : ℤ × ℤ) (n b : ℤ) → ((ordered w).0 ≤ℤ b → (ordered w).0 ≤ℤ n) → ((ordered w).1 ≤ℤ b → (ordered w).1 ≤ℤ n) → w.1 ≤ℤ b → w.1 ≤ℤ n
second_end w n b = by_lt_z w.1 w.0
    (λ above. rw (le_no w.0 w.1 above) (λ f s. f))
    (λ below. rw (le_yes w.0 w.1 below) (λ f s. s))

ordered_from : (tz : TimeZone) (d : Dst) (w : ℤ × ℤ) (e f : ℤ) → e ≤ℤ f → (later : Option (ℤ × OffsetInfo)) (n b : ℤ) → n ≤ℤ b → neg_ℤ (pos 377_705_023_201_000_000_000) ≤ℤ n → b ≤ℤ pos 253_402_207_200_999_999_999
    → IsBefore b (cond (int_lt n e) (transition_of tz d w e) (cond (int_lt n f) (transition_of tz d w f) later))
    → (e ≤ℤ b → e ≤ℤ n) × (f ≤ℤ b → f ≤ℤ n)
ordered_from tz d w e f order later n b h low high k = by_lt_z n e
    (λ before.
    let t : b <ℤ e = after_transition tz d w e n b (omega (arith, ints)) low high (rw (lt_yes n e before) at k) in
    ((λ x. absurd (omega (arith, ints))), (λ x. absurd (omega (arith, ints)))))
    (λ past. by_lt_z n f
    (λ before.
    let t : b <ℤ f = after_transition tz d w f n b (omega (arith, ints)) low high (rw (lt_no n e past, lt_yes n f before) at k) in
    ((λ x. past), (λ x. absurd (omega (arith, ints)))))
    (λ beyond. ((λ x. past), (λ x. beyond))))

-- up to the next transition no end of the year's window is passed
next_ends : (tz : TimeZone) (d : Dst) (y n b : ℤ) → n ≤ℤ b → neg_ℤ (pos 377_705_023_201_000_000_000) ≤ℤ n → b ≤ℤ pos 253_402_207_200_999_999_999 → IsBefore b (next_by tz d y n)
    → ((ordered (utc_window d y tz.std_offset)).0 ≤ℤ b → (ordered (utc_window d y tz.std_offset)).0 ≤ℤ n) × ((ordered (utc_window d y tz.std_offset)).1 ≤ℤ b → (ordered (utc_window d y tz.std_offset)).1 ≤ℤ n)
next_ends tz d y n b h low high k =
    let w : ℤ × ℤ = utc_window d y tz.std_offset in
    ordered_ends tz d y w (next_year tz d y) n b h low high k
  where
    ordered_ends : (tz : TimeZone) (d : Dst) (y : ℤ) (w : ℤ × ℤ) (later : Option (ℤ × OffsetInfo)) (n b : ℤ) → n ≤ℤ b → neg_ℤ (pos 377_705_023_201_000_000_000) ≤ℤ n → b ≤ℤ pos 253_402_207_200_999_999_999
        → IsBefore b (cond (int_lt n (ordered w).0) (transition_of tz d w (ordered w).0) (cond (int_lt n (ordered w).1) (transition_of tz d w (ordered w).1) later))
        → ((ordered w).0 ≤ℤ b → (ordered w).0 ≤ℤ n) × ((ordered w).1 ≤ℤ b → (ordered w).1 ≤ℤ n)
    ordered_ends tz d y w later n b h low high k = ordered_from tz d w (ordered w).0 (ordered w).1 (ordered_le w) later n b h low high k

-- the next transition of a rule, in the year of the instant
pub offset_stays : (tz : TimeZone) (n b : ℤ) → n ≤ℤ b → year_of_nanos n ≡ year_of_nanos b → neg_ℤ (pos 377_705_023_201_000_000_000) ≤ℤ n → b ≤ℤ pos 253_402_207_200_999_999_999
    → IsBefore b (next_at tz n) → offset_at tz n ≡ offset_at tz b
offset_stays tz n b h year low high k = stays tz.dst n b h year low high k
  where
    stays : (o : Option Dst) (n b : ℤ) → n ≤ℤ b → year_of_nanos n ≡ year_of_nanos b → neg_ℤ (pos 377_705_023_201_000_000_000) ≤ℤ n → b ≤ℤ pos 253_402_207_200_999_999_999
        → IsBefore b (match_some o None (λ d. next_by tz d (year_of_nanos n) n)) → match_some (dst_at_by tz.std_offset o n) tz.std_offset (λ d. d.offset) ≡ match_some (dst_at_by tz.std_offset o b) tz.std_offset (λ d. d.offset)
    stays None n b h year low high k = refl
    stays (Some d) n b h year low high k =
        let ends = next_ends tz d (year_of_nanos n) n b h low high k in
        let same = window_stays (utc_window d (year_of_nanos n) tz.std_offset) n b h (first_end _ n b ends.0 ends.1) (second_end _ n b ends.0 ends.1) in
        rw (← year, same) refl

nonneg_abs : (z : ℤ) → pos 0 ≤ℤ z → pos (unsigned_abs z) ≡ z
nonneg_abs (pos n) h = refl
nonneg_abs (negsuc n) h = absurd (omega (arith, signed_arith))

-- days within a year are of that year
pub year_is : (k : ℕ) (day : ℤ) → k ≤ 20000 → pos (days_of_years k) ≤ℤ (day +ℤ pos 4_371_953) → (day +ℤ pos 4_371_953) <ℤ pos (days_of_years (suc k)) → year_of_day day ≡ pos k -ℤ pos 10000
year_is k day small low high =
    let a : pos (unsigned_abs (day +ℤ pos 4_371_953)) ≡ day +ℤ pos 4_371_953 = nonneg_abs (day +ℤ pos 4_371_953) (omega (arith, signed_arith)) in
    let within = years_within_is 20000 k (unsigned_abs (day +ℤ pos 4_371_953)) small (omega (arith, signed_arith)) (omega (arith, signed_arith)) in
    ap (λ y. pos y -ℤ pos 10000) within

-- what a search that begins at an instant gives first bounds the stretch from there
pub first_found : (zone : Zone) (n b : ℤ) (s t : Search) (r : Option TimeZoneTransition) → s ≡ search_from zone n → Steps Given.next_at s r t → IfSome r (λ x. b <ℤ (plain_transition x).timestamp.nanosecond) → IsBefore b (Given.next_at zone n)
first_found zone n b s t None e st k =
    let f : None ≡ Given.next_at s.zone s.at = st.found (rw e (omega arith)) in
    rw (← (f ∙ ap (λ (x : Search). Given.next_at x.zone x.at) e)) (search rules)
first_found zone n b s t (Some x) e st k =
    let f : Some (transition_view (plain_transition x)) ≡ Given.next_at s.zone s.at = st.found (rw e (omega arith)) in
    rw (← (f ∙ ap (λ (x : Search). Given.next_at x.zone x.at) e)) k
