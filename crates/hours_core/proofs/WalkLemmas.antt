-- The walk from pause to pause, over minutes of any kind and any that are paused.
use Rattle.std.proofs.Common.{◌≡◌, ℕ, ◌+◌, ◌-◌, ◌<◌, ◌≤◌, Bool, true, false, ◌&&◌, ◌⊎◌}
use Rattle.std.proofs.Common.{Option, refl, arith}
use Rattle.hours_core.specs.Counting.{count, has_passed}
use Rattle.hours_core.specs.Least.{NoneHolds, AllHold, IsLeast}
use Rattle.hours_core.specs.Limit.{counts}
use Rattle.hours_core.proofs.StretchLemmas.{count_join, count_same, count_none}
use Rattle.hours_core.proofs.StretchLemmas.{agree_end, from_place}

off : (t : Bool) → (t && false) ≡ false
off true = refl
off false = refl

on : (t : Bool) → (t && true) ≡ t
on true = refl
on false = refl

-- where no minute is paused each counts as it did
pub unpaused : (kind paused : ℕ → Bool) (k : ℕ) → paused k ≡ false → counts kind paused k ≡ kind k
unpaused kind paused k none = rw none (on (kind k))

-- a stretch without pause counts as before
clear_counts : (kind paused : ℕ → Bool) (a b : ℕ) → NoneHolds paused a b
    → count (counts kind paused) a b ≡ count kind a b
clear_counts kind paused a b clear =
    count_same kind (counts kind paused) a b
    (λ k low high. unpaused kind paused k (clear k low high))

-- a paused stretch counts none
paused_counts : (kind paused : ℕ → Bool) (a b : ℕ) → AllHold paused a b
    → count (counts kind paused) a b ≡ 0
paused_counts kind paused a b all =
    count_none (counts kind paused) a b (λ k low high. rw (all k low high) (off (kind k)))

-- over a pause nothing is taken
pub skip : (kind paused : ℕ → Bool) (a b c left n : ℕ) → a ≤ b → b ≤ c → AllHold paused b c
    → count (counts kind paused) a b + left ≡ n → count (counts kind paused) a c + left ≡ n
skip kind paused a b c left n h k all e =
    omega (arith, count_join (counts kind paused) a b c h k, paused_counts kind paused b c all, e)

-- over a stretch without pause all its minutes of the kind are taken
pub take_all : (kind paused : ℕ → Bool) (a b c left n : ℕ) → a ≤ b → b ≤ c → NoneHolds paused b c
    → count (counts kind paused) a b + left ≡ n → count kind b c < left
    → count (counts kind paused) a c + (left - count kind b c) ≡ n
take_all kind paused a b c left n h k clear e less =
    omega (
      arith,
      count_join (counts kind paused) a b c h k,
      clear_counts kind paused b c clear,
      e,
      less,
    )

-- the end without pauses is the end, where it lies before the next pause or none begins
pub ends_here : (kind paused : ℕ → Bool) (a b c left n bound : ℕ) (r : Option ℕ) → a ≤ b → b ≤ c
    → c < bound → 0 < left → NoneHolds paused b c → count (counts kind paused) a b + left ≡ n
    → (left ≤ count kind b c) ⊎ (bound ≤ c + 1) → IsLeast (has_passed kind b left) b bound r
    → IsLeast (has_passed (counts kind paused) a n) a bound r
ends_here kind paused a b c left n bound r h k to some clear e side least =
    from_place (counts kind paused) a b n left bound r h e some
    (agree_end kind (counts kind paused) b c left bound r k some
    (λ j low high. unpaused kind paused j (clear j low high)) side to least)
