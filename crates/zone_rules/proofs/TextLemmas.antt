-- What a rule's text says gives the zone's offset, and up to the next transition it stays.
use Rattle.std.proofs.Common.{◌≡◌, ℕ, ℤ, pos, neg_ℤ, Bool, true, false, Option, Some, None, refl}
use Rattle.std.proofs.Common.{sym, ap, ◌∙◌, List, if◌then◌else◌, option_map, ◌≤ℤ◌, arith}
use Rattle.jiff_core.specs.declared.Offset.{Offset}
use Rattle.jiff_tz.specs.PosixRule.{match_some, dst_at_by, utc_window, rule_nanos, in_window}
use Rattle.jiff_tz.specs.PosixRule as PosixRule
use Rattle.jiff_tz.specs.PosixText.{TzText, tz_view, dst_view}
use Rattle.jiff_tz.specs.Year.{year_of_nanos}
use Rattle.jiff_tz.specs.Zone as Given
use Rattle.jiff_tz.specs.declared.posix.Dst.{Dst}
use Rattle.jiff_tz.specs.declared.posix.TimeZone.{TimeZone}
use Rattle.jiff_tz.specs.declared.timezone.TimeZone.{TimeZone as Zone}
use Rattle.jiff_tz.specs.declared.timezone.TimeZone.TheVariants.{UTC, Unknown, Fixed, Posix, Tzif}
use Rattle.jiff.specs.Placed.{IsPosixZone}
use Rattle.jiff.specs.Words.{read_whole}
use Rattle.std.proofs.Common.{◌*◌, ◌/◌, ◌≤◌, ◌<◌, ◌<ℤ◌, inl, inr, negsuc}
use Rattle.std.proofs.lemmas.Int.{ints}
use Rattle.std.proofs.lemmas.Bool.Decides.{leb_tells}
use Rattle.std.specs.Int.RustNames.{int_div}
use Rattle.jiff_tz.specs.Year.{year_of_day}
use Rattle.zone_rules.proofs.RuleLemmas.{offset_stays}
use Rattle.zone_rules.specs.Rule.{seconds_at, summer_in, text_of, IsRule, IsBefore, nanos}

chosen : (b : Bool) (d : Dst) (std : Offset)
    → (match_some (if b then Some d else None) std (λ d. d.offset)).seconds
    ≡ (if b then d.offset.seconds else std.seconds)
chosen true d std = refl
chosen false d std = refl

window_is : (d : Dst) (y : ℤ) (std : Offset)
    → utc_window d y std ≡ summer_in (dst_view d) y std.seconds
unfolding utc_window rule_nanos
window_is d y std = refl

by_summer : (o : Option Dst) (std : Offset) (n : ℤ)
    → (match_some (dst_at_by std o n) std (λ d. d.offset)).seconds
    ≡ match_some (option_map dst_view o) std.seconds (λ summer.
    if in_window (summer_in summer (year_of_nanos n) std.seconds) n then summer.seconds
    else std.seconds)
by_summer None std n = refl
by_summer (Some d) std n =
    chosen (in_window (utc_window d (year_of_nanos n) std) n) d std
    ∙ ap (λ w. if in_window w n then d.offset.seconds else std.seconds)
    (window_is d (year_of_nanos n) std)

pub rule_offset : (tz : TimeZone) (n : ℤ)
    → (PosixRule.offset_at tz n).seconds ≡ seconds_at (tz_view tz) n
unfolding seconds_at
rule_offset tz n = by_summer tz.dst tz.std_offset n

-- the offset of a rule's zone is the one that its text says
pub zone_offset : (zone : Zone) (n : ℤ) → IsRule zone
    → Given.offset_at zone n ≡ seconds_at (text_of zone) n
unfolding Given.offset_at
zone_offset (Posix tz) n is = rule_offset tz n
zone_offset UTC n is = absurd is
zone_offset Unknown n is = absurd is
zone_offset (Fixed o) n is = absurd is
zone_offset (Tzif z) n is = absurd is

-- the zone that jiff reads a text as has the offsets that the text says
pub read_seconds : (text : List ℕ) (zone : Zone) (rule : TzText) (n : ℤ) → IsPosixZone text zone
    → read_whole text ≡ Some rule → Given.offset_at zone n ≡ seconds_at rule n
unfolding Given.offset_at
read_seconds text (Posix tz) rule n is read =
    let same : tz_view tz ≡ rule = cc in
    rule_offset tz n ∙ ap (λ r. seconds_at r n) same
read_seconds text UTC rule n is read = absurd is
read_seconds text Unknown rule n is read = absurd is
read_seconds text (Fixed o) rule n is read = absurd is
read_seconds text (Tzif z) rule n is read = absurd is

-- jiff reads a text that is no rule as no zone
pub reads_none : (text : List ℕ) (zone : Zone) → read_whole text ≡ None → IsPosixZone text zone → ⊥
reads_none text (Posix tz) none is = cc
reads_none text UTC none is = is
reads_none text Unknown none is = is
reads_none text (Fixed o) none is = is
reads_none text (Tzif z) none is = is

-- in one year, up to the next transition, the offset of a rule's zone stays
rule_stays : (zone : Zone) (n b : ℤ) → IsRule zone → n ≤ℤ b → year_of_nanos n ≡ year_of_nanos b
    → neg_ℤ (pos 377_705_023_201_000_000_000) ≤ℤ n → b ≤ℤ pos 253_402_207_200_999_999_999
    → IsBefore b (Given.next_at zone n) → Given.offset_at zone n ≡ Given.offset_at zone b
unfolding Given.offset_at Given.next_at
rule_stays (Posix tz) n b is h year low high k =
    ap (λ o. o.seconds) (offset_stays tz n b h year low high k)
rule_stays UTC n b is h year low high k = refl
rule_stays Unknown n b is h year low high k = refl
rule_stays (Fixed o) n b is h year low high k = refl
rule_stays (Tzif z) n b is h year low high k = absurd is

day_of_minute : (m : ℕ) → (m * 60_000_000_000) / 86_400_000_000_000 ≡ m / 1440
day_of_minute m = omega arith

year_of_minute : (m : ℕ) → year_of_nanos (nanos m) ≡ year_of_day (pos (m / 1440))
year_of_minute m = ap (λ d. year_of_day (pos d)) (day_of_minute m)

seconds_after : (zone : Zone) (rule : TzText) (minute m : ℕ) → IsRule zone → text_of zone ≡ rule
    → minute ≤ m → m ≤ 200_000_000
    → year_of_day (pos (m / 1440)) ≡ year_of_day (pos (minute / 1440))
    → IsBefore (nanos m) (Given.next_at zone (nanos minute))
    → seconds_at rule (nanos m) ≡ seconds_at rule (nanos minute)
seconds_after zone rule minute m is view low high year quiet =
    ap (λ r. seconds_at r (nanos m)) (sym view)
    ∙ sym (zone_offset zone (nanos m) is)
    ∙ sym (rule_stays zone (nanos minute) (nanos m) is (omega (arith, ints))
    (year_of_minute minute ∙ sym year ∙ sym (year_of_minute m))
    (omega (arith, ints)) (omega (arith, ints)) quiet)
    ∙ zone_offset zone (nanos minute) is
    ∙ ap (λ r. seconds_at r (nanos minute)) view

-- the same of what the rule's text says, from minute to minute
pub seconds_stay : (zone : Zone) (rule : TzText) (minute m : ℕ) → IsRule zone
    → text_of zone ≡ rule → minute ≤ m → m ≤ 200_000_000
    → year_of_day (pos (m / 1440)) ≡ year_of_day (pos (minute / 1440))
    → (minute < m → IsBefore (nanos m) (Given.next_at zone (nanos minute)))
    → seconds_at rule (nanos m) ≡ seconds_at rule (nanos minute)
seconds_stay zone rule minute m is view low high year quiet = elim (leb_tells m minute) [
  | inl same ↦
      let equal : m ≡ minute = omega arith in
      ap (λ k. seconds_at rule (nanos k)) equal
  | inr after ↦
      seconds_after zone rule minute m is view low high year (quiet (omega arith))
]

-- what begins before a transition's whole second comes before the transition
pub after_second : (m : ℕ) (n : ℤ) → pos (m * 60) <ℤ int_div n (pos 1_000_000_000) → nanos m <ℤ n
after_second m (pos k) h = omega (arith, ints)
after_second m (negsuc k) h = absurd (omega (arith, ints))
