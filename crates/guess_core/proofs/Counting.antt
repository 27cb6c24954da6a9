-- How many wrong tokens of an address a table has after one more, and after all.
use Rattle.std.proofs.Common.{◌≡◌, ◌<◌, ◌≤◌, ◌+◌, ℕ, Bool, true, false, cond, List, [], ◌∷◌, ◌++◌}
use Rattle.std.proofs.Common.{arith, length, refl, subst, sym}
use Rattle.std.specs.Prelude.{◌==◌, ◌&&◌, nat_le, nat_lt, if◌then◌else◌}
use Rattle.std.specs.Str.{bytes_eq}
use Rattle.std.proofs.lemmas.Bool.{eqb-true, lt-ltb}
use Rattle.std.proofs.lemmas.Bool.Decides.{nat_tests}
use Rattle.std.proofs.lemmas.List.Sums.{sum_by-append}
use Rattle.std.proofs.lemmas.Slice.Eq.{bytes_eq-Decides}
use Rattle.guess_core.specs.Guesses.{Table, begun, count_of, noted, one_more, table, with_one}
use Rattle.guess_core.specs.Laws.{EachCounts, Guess, OnlyGuessersAreBarred, after, guesses_of, is_of}

grown : (ws : List (List ℕ)) (b a : List ℕ)
    → count_of (ws ++ (b ∷ [])) a ≡ count_of ws a + cond (bytes_eq b a) 1 0
grown ws b a = omega (arith, sum_by-append (λ w. cond (bytes_eq w a) 1 0) ws (b ∷ []))

grown_if : (c : Bool) (ws : List (List ℕ)) (b a : List ℕ)
    → count_of (if c then ws ++ (b ∷ []) else ws) a ≤ count_of ws a + cond (bytes_eq b a) 1 0
grown_if true ws b a = omega (arith, grown ws b a)
grown_if false ws b a = omega arith

-- the wrong tokens of an address in a minute
abbrev in_minute : Table → List ℕ → ℕ → ℕ
in_minute t a m = if t.minute == m then count_of t.wrong a else 0

nothing_if : (d : Bool) (a : List ℕ) → (if d then count_of [] a else 0) ≡ 0
nothing_if true a = refl
nothing_if false a = refl

raised : (d : Bool) (ws : List (List ℕ)) (b a : List ℕ)
    → (if d then count_of (one_more ws b) a else 0)
    ≤ (if d then count_of ws a else 0) + cond (d && bytes_eq b a) 1 0
raised true ws b a = grown_if (nat_lt (length ws) 10240) ws b a
raised false ws b a = omega arith

step_if : (c : Bool) (t : Table) (b a : List ℕ) (n m : ℕ) → (t.minute == n) ≡ c
    → in_minute (with_one (if c then t else table n []) b) a m
    ≤ in_minute t a m + cond ((n == m) && bytes_eq b a) 1 0
step_if true t b a n m is =
    subst (λ k. in_minute (with_one t b) a m ≤ in_minute t a m + cond ((k == m) && bytes_eq b a) 1 0)
    (eqb-true t.minute n is) (raised (t.minute == m) t.wrong b a)
step_if false t b a n m is = omega (arith, raised (n == m) [] b a, nothing_if (n == m) a)

one_before : (g : Guess) (gs : List Guess) (a : List ℕ) (m : ℕ)
    → guesses_of (g ∷ gs) a m ≡ cond ((g.1 == m) && bytes_eq g.0 a) 1 0 + guesses_of gs a m
one_before g gs a m = omega (arith, sum_by-append (λ x. cond (is_of a m x) 1 0) (g ∷ []) gs)

after_all : (gs : List Guess) (t : Table) (a : List ℕ) (m : ℕ)
    → in_minute (after t gs) a m ≤ in_minute t a m + guesses_of gs a m
after_all [] t a m = omega arith
after_all (g ∷ gs) t a m =
    omega (
      arith,
      after_all gs (noted t g.0 g.1) a m,
      step_if (t.minute == g.1) t g.0 a g.1 m refl,
      one_before g gs a m,
    )

ten_if : (d : Bool) (k : ℕ) → (d && nat_le 10 k) ≡ true → 10 ≤ (if d then k else 0)
ten_if true k is = grind (arith, nat_tests, is)
ten_if false k is = let no : false ≡ true = is in cc

pub only_guessers : OnlyGuessersAreBarred
only_guessers gs a m is =
    let t = after (table 0 []) gs in
    omega (
      arith,
      ten_if (t.minute == m) (count_of t.wrong a) is,
      after_all gs (table 0 []) a m,
      nothing_if (0 == m) a,
    )

counted : (ws : List (List ℕ)) (a : List ℕ) → length ws < 10240
    → count_of (one_more ws a) a ≡ count_of ws a + 1
counted ws a low =
    let own = subst (λ (x : Bool). count_of (ws ++ (a ∷ [])) a ≡ count_of ws a + cond x 1 0)
    ((bytes_eq-Decides a a).1 refl) (grown ws a a) in
    subst (λ (x : Bool). count_of (if x then ws ++ (a ∷ []) else ws) a ≡ count_of ws a + 1)
    (sym (lt-ltb (length ws) 10240 low)) own

pub each_counts : EachCounts
each_counts t a n low = counted (begun t n).wrong a low
