-- Bytes that are taken one after the other, up to a line feed.
use Rattle.std.proofs.Common.{◌≡◌, ◌≢◌, ◌∙◌, ◌≤◌, ◌<◌, ◌+◌, ◌==◌, ◌||◌, ℕ, zero, suc, Bool, true}
use Rattle.std.proofs.Common.{false, List, [], ◌∷◌, ◌++◌, Option, Some, None, take, length, ap, sym}
use Rattle.std.proofs.Common.{refl, subst, append_assoc, append-nil, arith, inl, inr, length-append}
use Rattle.std.proofs.lemmas.Bool.Decides.{leb_tells}
use Rattle.std.proofs.lemmas.List.{length-take, take-append-le, take_all}
use Rattle.std.specs.Io.KnownBytes.{Consumes, IsAtEnd, Keeps}
use borrow.Author.Tests.{ne_eqb}
use Rattle.line_core.specs.Lines.{Holds, IsFirst, IsGrown, IsJudged, IsTaken, KeepsByte, Reads}
use Rattle.line_core.specs.Lines.{ReadsUpTo, TakesMore, TakesSome, has_feed, line_limit}
use Rattle.line_core.specs.declared.lines.Stop.{Stop}
use Rattle.line_core.specs.declared.lines.Stop.TheVariants as stop
use Rattle.line_core.specs.declared.lines.Taken.{Taken}
use Rattle.line_core.specs.declared.lines.Taken.TheVariants.{Line, TooLong, End, Fault}

-- ---- what a stream loses

pub consumes_none : (a : Option (List ℕ)) → Consumes a a []
consumes_none None = tt
consumes_none (Some xs) = refl

consumes_both : (a b c : Option (List ℕ)) (x y : List ℕ)
    → Consumes a b x → Consumes b c y → Consumes a c (x ++ y)
consumes_both None b c x y first second = tt
consumes_both (Some xs) None c x y first second = absurd first
consumes_both (Some xs) (Some ys) None x y first second = absurd second
consumes_both (Some xs) (Some ys) (Some zs) x y first second =
    first ∙ ap (λ (l : List ℕ). x ++ l) second ∙ sym (append_assoc x y zs)

consumes_as : (a b : Option (List ℕ)) (x y : List ℕ) → x ≡ y → Consumes a b x → Consumes a b y
consumes_as a b x y e lost = subst (λ (l : List ℕ). Consumes a b l) e lost

-- a read that fails takes nothing
pub keeps : (a b : Option (List ℕ)) → Keeps a b → TakesSome a b
keeps None b kept = ([], tt)
keeps (Some xs) None kept = absurd kept
keeps (Some xs) (Some ys) kept = ([], sym kept)

-- ---- a byte more

pub takes_more : (r : Option Stop) (b : ℕ) (old new : Option (List ℕ)) (held more : List ℕ)
    → Consumes old new (b ∷ []) → KeepsByte r b held more → TakesMore r old new held more
takes_more None b old new held more lost kept = (b, kept.0, lost, kept.1)
takes_more (Some stop.Feed) b old new held more lost kept =
    (consumes_as old new (b ∷ []) (10 ∷ []) (ap (λ (x : ℕ). x ∷ []) kept.0) lost, kept.1)
takes_more (Some stop.End) b old new held more lost kept = absurd kept
takes_more (Some stop.Fault) b old new held more lost kept = (b ∷ [], lost)

-- what was taken so far has no line feed, and the buffer holds its beginning
abbrev pub SoFar : Option (List ℕ) → Option (List ℕ) → List ℕ → Type 0
SoFar old new held =
    (bytes : List ℕ) × (has_feed bytes ≡ false) × Consumes old new bytes × Holds held bytes

pub none_so_far : (old : Option (List ℕ)) (held : List ℕ) → held ≡ [] → SoFar old old held
none_so_far old held empty = ([], refl, consumes_none old, empty)

-- a test that fails, and another that fails where a third does
neither : (first rest more : Bool) → (first || rest) ≡ false → (rest ≡ false → more ≡ false)
    → (first || more) ≡ false
neither true rest more none then = none
neither false rest more none then = then none

no_feed_on : (bytes : List ℕ) (b : ℕ) → has_feed bytes ≡ false → b ≢ 10
    → has_feed (bytes ++ b ∷ []) ≡ false
no_feed_on [] b none other = rw (ne_eqb b 10 other) refl
no_feed_on (x ∷ bytes) b none other =
    neither (x == 10) (has_feed bytes) (has_feed (bytes ++ b ∷ [])) none
    (λ e. no_feed_on bytes b e other)

-- where a buffer holds no more than a line may have, it holds all bytes
held_whole : (bytes held : List ℕ) → Holds held bytes → length held ≤ line_limit → held ≡ bytes
held_whole bytes held holds within =
    let short : length (take (line_limit + 1) bytes) ≤ line_limit =
    subst (λ (l : List ℕ). length l ≤ line_limit) holds within in
    let few : length bytes ≤ line_limit + 1 =
    omega (arith, length-take (line_limit + 1) bytes, short) in
    holds ∙ take_all (line_limit + 1) bytes few

-- more than that, of more bytes than a line may have
held_part : (bytes held : List ℕ) → Holds held bytes → line_limit < length held
    → line_limit < length bytes
held_part bytes held holds long =
    let long_held : line_limit < length (take (line_limit + 1) bytes) =
    subst (λ (l : List ℕ). line_limit < length l) holds long in
    omega (arith, length-take (line_limit + 1) bytes, long_held)

-- what a buffer holds of bytes and of one more
holds_on : (held more bytes : List ℕ) (b : ℕ) → Holds held bytes → IsGrown b held more
    → Holds more (bytes ++ b ∷ [])
holds_on held more bytes b holds grown =
    elim (leb_tells (length held) line_limit) [
      | inl few ↦
          let whole = held_whole bytes held holds few.1 in
          let now : more ≡ bytes ++ b ∷ [] =
          grown.1 few.1 ∙ ap (λ (l : List ℕ). l ++ b ∷ []) whole in
          let short : length bytes ≤ line_limit =
          subst (λ (l : List ℕ). length l ≤ line_limit) whole few.1 in
          let within : length (bytes ++ b ∷ []) ≤ line_limit + 1 =
          omega (arith, length-append bytes (b ∷ []), short) in
          now ∙ sym (take_all (line_limit + 1) (bytes ++ b ∷ []) within)
      | inr many ↦
          let long = held_part bytes held holds many.1 in
          let within : line_limit + 1 ≤ length bytes = omega (arith, long) in
          grown.0 many.1 ∙ holds ∙ sym (take-append-le (line_limit + 1) bytes (b ∷ []) within)
    ]

pub one_more : (old mid new : Option (List ℕ)) (held more : List ℕ) → SoFar old mid held
    → TakesMore None mid new held more → SoFar old new more
one_more old mid new held more (bytes, none, lost, holds) (b, other, took, now) = (
  bytes ++ b ∷ [],
  no_feed_on bytes b none other,
  consumes_both old mid new bytes (b ∷ []) lost took,
  holds_on held more bytes b holds now,
)

-- where reading stops
pub stops : (s : Stop) (old mid new : Option (List ℕ)) (held more : List ℕ) → SoFar old mid held
    → TakesMore (Some s) mid new held more → ReadsUpTo s old new more
stops stop.Feed old mid new held more (bytes, none, lost, holds) (took, same) =
    (bytes, (none, consumes_both old mid new bytes (10 ∷ []) lost took), same ∙ holds)
stops stop.End old mid new held more (bytes, none, lost, holds) (took, ends, same) = (
  bytes,
  (
    none,
    consumes_as old new (bytes ++ []) bytes (append-nil bytes)
        (consumes_both old mid new bytes [] lost took),
    ends,
  ),
  same ∙ holds,
)
stops stop.Fault old mid new held more (bytes, none, lost, holds) (some, took) =
    (bytes ++ some, consumes_both old mid new bytes some lost took)

pub some_so_far : (old new : Option (List ℕ)) (held : List ℕ) → SoFar old new held
    → TakesSome old new
some_so_far old new held (bytes, none, lost, holds) = (bytes, lost)

-- ---- a line

-- more than a line may have is something
some_if_long : (bytes : List ℕ) → line_limit < length bytes → bytes ≢ []
some_if_long bytes long e =
    let none : length bytes ≡ 0 = ap (λ (l : List ℕ). length l) e in omega (arith, long, none)

at_end : (old new : Option (List ℕ)) (bytes : List ℕ) → Reads old new bytes false → bytes ≡ []
    → Consumes old new [] × IsAtEnd new
at_end old new bytes (none, lost, ends) empty = (consumes_as old new bytes [] empty lost, ends)

-- bytes that were read, and judged by what a buffer holds of them, are a line, one that is too long,
-- or the end
pub judged : (taken : Taken) (old new : Option (List ℕ)) (bytes held text : List ℕ) (ended : Bool)
    → Reads old new bytes ended → Holds held bytes → IsJudged taken held ended text
    → IsTaken taken old new text
judged Line old new bytes held text ended reads holds (within, some, is) =
    let whole = held_whole bytes held holds within in (
      held,
      ended,
      (subst (λ (l : List ℕ). Reads old new l ended) (sym whole) reads, some),
      within,
      is,
    )
judged TooLong old new bytes held text ended reads holds long =
    let longer = held_part bytes held holds long in
    (bytes, ended, (reads, λ _. some_if_long bytes longer), longer)
judged End old new bytes held text ended reads holds (empty, over) =
    let none : length held ≡ 0 = ap (λ (l : List ℕ). length l) empty in
    let whole = held_whole bytes held holds (omega (arith, none)) in
    at_end old new bytes (subst (λ (b : Bool). Reads old new bytes b) over reads)
    (sym whole ∙ empty)
judged Fault old new bytes held text ended reads holds none = absurd none
