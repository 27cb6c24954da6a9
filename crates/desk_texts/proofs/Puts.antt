-- Three texts put one after the other.
use Rattle.std.proofs.Common.{◌≡◌, ℕ, List, ◌++◌, Result, Ok, Err, OnOk, ap, ◌∙◌, append_assoc}

put_in_turn : (o x y z m k n : List ℕ) → m ≡ o ++ x → k ≡ m ++ y → n ≡ k ++ z
    → n ≡ o ++ (x ++ (y ++ z))
put_in_turn o x y z m k n first second third =
    third ∙ ap (λ t. t ++ z) (second ∙ ap (λ t. t ++ y) first) ∙ append_assoc (o ++ x) y z
    ∙ append_assoc o x (y ++ z)

-- the third may fail
pub put_three : {A E : Type 0} (r : Result A E) (o x y z m k n : List ℕ)
    → m ≡ o ++ x → k ≡ m ++ y → OnOk r (n ≡ k ++ z) → OnOk r (n ≡ o ++ (x ++ (y ++ z)))
put_three (Ok a) o x y z m k n first second third = put_in_turn o x y z m k n first second third
put_three (Err e) o x y z m k n first second third = tt
