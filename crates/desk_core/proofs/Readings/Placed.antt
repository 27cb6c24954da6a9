-- What holds of each of a list and of one more holds of each where that one has its place.
use Rattle.std.proofs.Common.{Bool, true, false, cond, List, [], ◌∷◌}
use Rattle.std.specs.List.{AllByRecursion}
use Rattle.desk_model.specs.Desk.{placed}

pub all_at_place : {X : Type 0} (P : X → Type 0) (lower : X → X → Bool) (xs : List X) (x : X) → P x
    → AllByRecursion P xs → AllByRecursion P (placed lower xs x)
all_at_place P lower [] x one all = (one, tt)
all_at_place P lower (y ∷ ys) x one all =
    elim (lower x y) as (λ b. AllByRecursion P (cond b (x ∷ y ∷ ys) (y ∷ placed lower ys x))) [
      | true ↦ (one, all)
      | false ↦ (all.0, all_at_place P lower ys x one all.1)
    ]
