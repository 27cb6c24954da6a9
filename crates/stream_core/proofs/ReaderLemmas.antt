-- Bytes that a reader has lost in more than one turn.
use Rattle.std.proofs.Common.{◌∙◌, ℕ, ◌≤◌, ◌+◌, ◌-◌, List, [], ◌++◌, length, Option, Some}
use Rattle.std.proofs.Common.{None, refl, ap, sym, append_assoc, length-append, arith}
use Rattle.std.specs.Io.KnownBytes.{Consumes, IsAtEnd}
use Rattle.stream_core.specs.Streams.{ConsumesAtMost, Takes}

pub consumes_none : (a : Option (List ℕ)) → Consumes a a []
consumes_none None = tt
consumes_none (Some xs) = refl

pub consumes_both : (a b c : Option (List ℕ)) (x y : List ℕ)
    → Consumes a b x → Consumes b c y → Consumes a c (x ++ y)
consumes_both None b c x y first second = tt
consumes_both (Some xs) None c x y first second = absurd first
consumes_both (Some xs) (Some ys) None x y first second = absurd second
consumes_both (Some xs) (Some ys) (Some zs) x y first second =
    first ∙ ap (λ (l : List ℕ). x ++ l) second ∙ sym (append_assoc x y zs)

-- at most that many bytes were lost in two turns
pub consumes_at_most_both : (a b c : Option (List ℕ)) (x : List ℕ) (most : ℕ) → Consumes a b x
    → ConsumesAtMost b c (most - length x) → length x ≤ most → ConsumesAtMost a c most
consumes_at_most_both a b c x most first (y, second, few) within =
    (x ++ y, consumes_both a b c x y first second, omega (arith, length-append x y))

-- the same of two bounds
pub consumes_within : (a b c : Option (List ℕ)) (first second most : ℕ) → ConsumesAtMost a b first
    → ConsumesAtMost b c second → first + second ≤ most → ConsumesAtMost a c most
consumes_within a b c first second most (x, one, few) (y, other, fewer) within =
    (x ++ y, consumes_both a b c x y one other, omega (arith, length-append x y))

-- what was lost stood in front of what is left
pub takes : (old new : Option (List ℕ)) (taken : List ℕ)
    → Consumes old new taken → (rest : List ℕ) × Takes old new taken rest
takes None None taken lost = ([], record { lost = lost; had = tt; has = tt })
takes None (Some ys) taken lost = (ys, record { lost = lost; had = tt; has = refl })
takes (Some xs) None taken lost = absurd lost
takes (Some xs) (Some ys) taken lost = (ys, record { lost = lost; had = lost; has = refl })

-- at the stream's end what was lost was all
pub takes_all : (old new : Option (List ℕ)) (taken : List ℕ)
    → Consumes old new taken → IsAtEnd new → Takes old new taken []
takes_all None None taken lost ended = record { lost = lost; had = tt; has = tt }
takes_all None (Some ys) taken lost ended = record { lost = lost; had = tt; has = ended }
takes_all (Some xs) None taken lost ended = absurd lost
takes_all (Some xs) (Some ys) taken lost ended =
    record { lost = lost; had = lost ∙ ap (λ (l : List ℕ). taken ++ l) ended; has = ended }
