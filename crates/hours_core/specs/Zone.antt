-- Local time: an offset in minutes that changes at given minutes.
use Rattle.std.specs.Prelude.{◌≡◌, ◌⊎◌, ℕ, Bool, true, not, ◌&&◌, List, [], ◌∷◌, ◌++◌}
use Rattle.std.specs.Prelude.{length, nat_lt, ℤ, pos, neg_ℤ, ◌+ℤ◌, ◌≤ℤ◌, int_le}
use Rattle.std.specs.Prelude.{int_lt, unsigned_abs, if◌then◌else◌, Result, Ok, Err}
use Rattle.std.specs.Prelude.{Option, Some, None}
use Rattle.std.specs.List.{list_all}
use Rattle.hours_core.specs.Moment.{end_minute, is_due_moment}
use Rattle.hours_core.specs.declared.fault.HoursFault.{HoursFault}
use Rattle.hours_core.specs.declared.fault.HoursFault.TheVariants.{BadOffset, ChangesOutOfOrder}
use Rattle.hours_core.specs.declared.fault.HoursFault.TheVariants.{TooManyChanges}

-- the offset before all changes, and the changes in order: the minute of each, and the offset from
-- there on
pub record Offsets : Type 0 where
  pub first : ℤ
  pub changes : List (ℤ × ℤ)

-- a change at or before the minute gives its own offset
abbrev pub offset_after : ℤ → ℤ × ℤ → ℕ → ℤ
offset_after offset change m = if int_le change.0 (pos m) then change.1 else offset

-- the offset that holds at a minute: that of the last change at or before it, or the first
abbrev pub offset_at : ℤ → List (ℤ × ℤ) → ℕ → ℤ
offset_at first [] m = first
offset_at first (change ∷ changes) m = offset_at (offset_after first change m) changes m

-- the local minute of a moment, which is never negative since moments begin in 2000
abbrev pub local_minute : Offsets → ℕ → ℕ
local_minute zone m = unsigned_abs (pos m +ℤ offset_at zone.first zone.changes m)

-- what clocks show at a moment, where that may be a moment too
abbrev pub local_time : Offsets → ℕ → Option ℕ
local_time zone m =
    if is_due_moment (local_minute zone m) then Some (local_minute zone m) else None

-- less than a day
abbrev pub is_offset : ℤ → Bool
is_offset z = int_le (neg_ℤ (pos 1439)) z && int_le z (pos 1439)

-- the changes lie from a minute to the end of all moments, each after the one before
abbrev pub are_in_order : ℤ → List (ℤ × ℤ) → Bool
are_in_order earliest [] = true
are_in_order earliest (change ∷ changes) =
    int_le earliest change.0 && int_le change.0 (pos end_minute)
    && are_in_order (change.0 +ℤ pos 1) changes

-- the zone of these parts, or their least fault
abbrev pub zone_of : ℤ → List (ℤ × ℤ) → Result Offsets HoursFault
zone_of first changes =
    if not (is_offset first && list_all (λ change. is_offset change.1) changes) then Err BadOffset
    else (if not (are_in_order (pos 0) changes) then Err ChangesOutOfOrder
    else (if nat_lt 400 (length changes) then Err TooManyChanges
    else Ok (record { first = first; changes = changes })))

-- a change comes after the minute
abbrev pub comes_after : ℕ → ℤ × ℤ → Bool
comes_after m change = int_lt (pos m) change.0

-- the offset of a minute: that of the last change at or before it, or the first where every change
-- comes later
abbrev pub IsOffsetAt : ℤ → List (ℤ × ℤ) → ℕ → ℤ → Type 0
IsOffsetAt first changes m offset =
    ((offset ≡ first) × (list_all (comes_after m) changes ≡ true))
    ⊎ ((earlier : List (ℤ × ℤ)) × (change : ℤ × ℤ) × (later : List (ℤ × ℤ))
    × (changes ≡ earlier ++ change ∷ later) × (offset ≡ change.1) × (change.0 ≤ℤ pos m)
    × (list_all (comes_after m) later ≡ true))
