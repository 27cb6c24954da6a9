-- Escaping loses nothing: what a byte became is read back, and what stands after it.
use Rattle.std.proofs.Common.{◌≡◌, ◌≢◌, ◌∙◌, ℕ, ◌==◌, List, [], ◌∷◌, ◌++◌, drop}
use Rattle.std.proofs.Common.{if◌then◌else◌, refl, ap, sym}
use Rattle.page_core.specs.Escape.{escape, escaped}
use Rattle.page_core.proofs.Harmless.{by_cases}

-- which entity it is, by the byte after its `&`
named : List ℕ → ℕ × List ℕ
named [] = (0, [])
named (c ∷ rest) =
    if c == 97 then (38, drop 3 rest)
    else if c == 108 then (60, drop 2 rest)
    else if c == 103 then (62, drop 2 rest)
    else if c == 113 then (34, drop 4 rest)
    else (39, drop 3 rest)

first_of_bytes : List ℕ → ℕ × List ℕ
first_of_bytes [] = (0, [])
first_of_bytes (b ∷ rest) = if b == 38 then named rest else (b, rest)

reads_back : (b : ℕ) (rest : List ℕ) → first_of_bytes (escape b ++ rest) ≡ (b, rest)
unfolding first_of_bytes named
reads_back b rest =
    by_cases b (λ l. first_of_bytes (l ++ rest) ≡ (b, rest))
    (λ e. ap (λ (n : ℕ). (n, rest)) (sym e))
    (λ e. ap (λ (n : ℕ). (n, rest)) (sym e))
    (λ e. ap (λ (n : ℕ). (n, rest)) (sym e))
    (λ e. ap (λ (n : ℕ). (n, rest)) (sym e))
    (λ e. ap (λ (n : ℕ). (n, rest)) (sym e))
    (λ m n o p q. rw m refl)

never_empty : (b : ℕ) (rest : List ℕ) → [] ≢ escape b ++ rest
never_empty b rest =
    by_cases b (λ l. [] ≢ l ++ rest) (λ e. λ f. cc) (λ e. λ f. cc) (λ e. λ f. cc) (λ e. λ f. cc)
    (λ e. λ f. cc) (λ m n o p q. λ f. cc)

pub lossless : (text other : List ℕ) → escaped text ≡ escaped other → text ≡ other
lossless [] [] same = refl
lossless [] (c ∷ other) same = absurd (never_empty c (escaped other) same)
lossless (b ∷ text) [] same = absurd (never_empty b (escaped text) (sym same))
lossless (b ∷ text) (c ∷ other) same =
    let both : (b, escaped text) ≡ (c, escaped other) =
    sym (reads_back b (escaped text)) ∙ ap first_of_bytes same ∙ reads_back c (escaped other) in
    ap (λ (n : ℕ). n ∷ text) (ap (λ (p : ℕ × List ℕ). p.0) both)
    ∙ ap (λ (l : List ℕ). c ∷ l) (lossless text other (ap (λ (p : ℕ × List ℕ). p.1) both))
