-- Bytes that are two others, one after the other.
use Rattle.std.proofs.Common.{◌≡◌, ◌∙◌, ℕ, ◌==◌, Bool, true, false, ◌&&◌, List, [], ◌∷◌}
use Rattle.std.proofs.Common.{bytes_eq, length, take, drop, refl, ap}
use Rattle.browser_core.specs.Site.{is_both}

both_and : (a b c : Bool) → (a && (b && c)) ≡ (a && b && c)
both_and true b c = refl
both_and false b c = refl

pub both_parts : (bytes first second : List ℕ) → is_both bytes first second
    ≡ (bytes_eq (take (length first) bytes) first && bytes_eq (drop (length first) bytes) second)
both_parts bytes [] second = refl
both_parts [] (f ∷ first) second = refl
both_parts (b ∷ bytes) (f ∷ first) second =
    ap (λ rest. (b == f) && rest) (both_parts bytes first second)
    ∙ both_and (b == f) (bytes_eq (take (length first) bytes) first)
    (bytes_eq (drop (length first) bytes) second)
