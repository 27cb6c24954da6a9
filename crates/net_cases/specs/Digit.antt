-- How many bytes follow a head of the cases: the digit with which it begins.
use Rattle.std.specs.Prelude.{ℕ, ◌-◌, ◌&&◌, nat_le, if◌then◌else◌, List, [], ◌∷◌, Option, Some}

abbrev pub digit_of : ℕ → ℕ
digit_of b = if nat_le 48 b && nat_le b 57 then b - 48 else 0

abbrev pub stated : List ℕ → Option ℕ
stated [] = Some 0
stated (b ∷ bs) = Some (digit_of b)
