-- Pieces that are put one after the other.
use Rattle.std.proofs.Common.{◌≡◌, ◌∙◌, ℕ, List, ◌++◌, ap}
use Rattle.std.proofs.Common.{append_assoc, Result, Ok, Err, OnOk}

-- the second is put behind the first
pub then_added : {T E : Type 0} (r : Result T E) (old mid new first second : List ℕ)
    → mid ≡ old ++ first → OnOk r (new ≡ mid ++ second) → OnOk r (new ≡ old ++ (first ++ second))
then_added (Ok x) old mid new first second was is =
    is ∙ ap (λ (l : List ℕ). l ++ second) was ∙ append_assoc old first second
then_added (Err e) old mid new first second was is = tt
