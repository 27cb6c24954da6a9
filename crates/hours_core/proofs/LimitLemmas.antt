-- Where no stay's status is ignored, a limit is due as if there were no stay.
use Rattle.std.proofs.Common.{◌≡◌, ℕ, ◌+◌, Bool, false, List, [], ◌∷◌, Option}
use Rattle.std.proofs.Common.{Some, None, option_and_then, refl, sym}
use Rattle.std.proofs.lemmas.Bool.{and_left, or_from, or_parts}
use Rattle.hours_core.specs.Counting.{has_passed, add_of}
use Rattle.hours_core.specs.Limit.{begin_of, kind_of, counts, end_of, limit_due, plain_end}
use Rattle.hours_core.specs.Limit.{plain_due}
use Rattle.hours_core.specs.Moment.{end_minute}
use Rattle.hours_core.specs.Pauses.{is_paused, IgnoresNone}
use Rattle.hours_core.specs.declared.level.Level.{Level}
use Rattle.hours_core.specs.declared.level.Limit.{Limit}
use Rattle.hours_core.specs.declared.level.Limit.TheVariants.{RealMinutes, BusinessMinutes}
use Rattle.hours_core.specs.declared.stay.Stay.{Stay}
use Rattle.hours_core.proofs.LeastLemmas.{least_is, same_least, is_least}
use Rattle.hours_core.proofs.StretchLemmas.{count_same, all_end}
use Rattle.hours_core.proofs.WalkLemmas.{unpaused}

-- where no status is ignored, none of a stay is
pub ignores_none : (stays : List Stay) → IgnoresNone [] stays
ignores_none [] = refl
ignores_none (stay ∷ stays) = ignores_none stays

never_paused : (ignored : List (List ℕ)) (stays : List Stay) (k : ℕ) → IgnoresNone ignored stays
    → is_paused ignored stays k ≡ false
unfolding is_paused
never_paused ignored [] k none = refl
never_paused ignored (stay ∷ stays) k none =
    let both = or_parts _ _ none in
    or_from _ _ (and_left _ _ both.0) (never_paused ignored stays k both.1)

-- where no minute is paused, the end is that without pauses
plain : (opens paused : ℕ → Bool) (limit : Limit) (begin : ℕ) → ((k : ℕ) → paused k ≡ false)
    → end_of opens paused limit begin ≡ plain_end opens limit begin
plain opens paused (RealMinutes n) begin none =
    let kind = kind_of (RealMinutes n) opens in
    sym (is_least (has_passed (counts kind paused) begin n) begin (end_minute + 1) _
    (all_end (counts kind paused) begin n (λ k. unpaused kind paused k (none k))))
plain opens paused (BusinessMinutes n) begin none =
    sym (is_least (has_passed (counts opens paused) begin n) begin (end_minute + 1)
    (add_of opens begin n)
    (same_least (has_passed opens begin n) (has_passed (counts opens paused) begin n) begin
    (end_minute + 1) (add_of opens begin n)
    (λ k low. rw (count_same opens (counts opens paused) begin k
    (λ j from to. unpaused opens paused j (none j))) refl)
    (least_is (has_passed opens begin n) begin (end_minute + 1))))

then_same : (f g : ℕ → Option ℕ) (o : Option ℕ) → ((n : ℕ) → f n ≡ g n)
    → option_and_then f o ≡ option_and_then g o
then_same f g None same = refl
then_same f g (Some n) same = same n

pub due_without_pause : (opens : ℕ → Bool) (level : Level) (stays : List Stay) (event : ℕ)
    (limit : Limit) → IgnoresNone level.ignore stays
    → limit_due opens level stays event limit ≡ plain_due opens level.start_immediately event limit
due_without_pause opens level stays event limit none =
    then_same _ _ (begin_of opens level.start_immediately event)
    (λ begin. plain opens (is_paused level.ignore stays) limit begin
    (λ k. never_paused level.ignore stays k none))
