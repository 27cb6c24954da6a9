-- What a turn takes: a byte more of a stream that may have a head.
use Rattle.std.proofs.Common.{◌≡◌, ◌≢◌, ◌∙◌, ℕ, ◌≤◌, ◌<◌, List, [], ◌∷◌, ◌++◌, length, Option, ap, sym}
use Rattle.std.proofs.Common.{subst, arith, length-append}
use Rattle.std.specs.Io.KnownBytes.{Consumes}
use Rattle.httparse.specs.Grammar.{HasNoRequest, print_request}
use Rattle.httparse.specs.Spans.{RequestOverflows}
use Rattle.stream_core.specs.Streams.{ConsumesAtMost}
use Rattle.stream_core.proofs.ReaderLemmas.{consumes_both, consumes_within, takes}
use Rattle.message_core.specs.Head.{HasLimitedHead, HasNoLimitedHead, IsHead, LacksHead}
use Rattle.message_core.proofs.Fronts.{shorter}
use Rattle.message_core.proofs.HeadEnds.{head_ends}
use Rattle.message_core.proofs.HeadLemmas.{head_with_byte, no_head_within, over_more}

-- nothing was taken yet
pub no_head_yet : HasNoLimitedHead []
no_head_yet = λ h rest reads few.
    let ends = head_ends h in
    omega (
      arith,
      ap length reads.1,
      length-append (print_request h) rest,
      ap length ends.1,
      length-append ends.0 (10 ∷ []),
    )

-- what was lost before, and a byte more
pub lost_more : (a b c : Option (List ℕ)) (before now : List ℕ) (byte : ℕ)
    → now ≡ before ++ byte ∷ [] → Consumes a b before → Consumes b c (byte ∷ [])
    → Consumes a c now
lost_more a b c before now byte e first second =
    let both = consumes_both a b c before (byte ∷ []) first second in
    subst (λ (l : List ℕ). Consumes a c l) (sym e) both

pub lost_at_most : (a b c : Option (List ℕ)) (before : List ℕ) → Consumes a b before
    → ConsumesAtMost b c 1 → length before < 8192 → ConsumesAtMost a c 8192
lost_at_most a b c before first one room =
    consumes_within a b c (length before) 1 8192 (before, first, omega arith) one (omega arith)

-- the bytes are a head, now that they start with one

pub whole_head : (before now seen : List ℕ) (byte : ℕ) → now ≡ before ++ byte ∷ [] → seen ≡ now
    → HasNoLimitedHead before → HasLimitedHead seen → length before < 8192 → IsHead now
whole_head before now seen byte e same none found room =
    subst IsHead (sym e)
    (head_with_byte before byte none (subst HasLimitedHead (same ∙ e) found)
    (omega (arith, length-append before (byte ∷ []), room)))

pub over_now : (now seen : List ℕ) → seen ≡ now → RequestOverflows 32 seen
    → RequestOverflows 32 now
over_now now seen same over = subst (RequestOverflows 32) same over

pub over_still : (before now : List ℕ) (byte : ℕ) → now ≡ before ++ byte ∷ []
    → RequestOverflows 32 before → RequestOverflows 32 now
over_still before now byte e over =
    subst (RequestOverflows 32) (sym e) (over_more before (byte ∷ []) over)

pub none_now : (now seen : List ℕ) → seen ≡ now → HasNoRequest seen → HasNoLimitedHead now
none_now now seen same none = subst HasNoLimitedHead same (λ h rest reads few. none h rest reads)

pub none_still : (before now : List ℕ) (byte : ℕ) → now ≡ before ++ byte ∷ [] → byte ≢ 10
    → HasNoLimitedHead before → HasNoLimitedHead now
none_still before now byte e other none =
    subst HasNoLimitedHead (sym e) (no_head_within before byte other none)

-- ---- what has no head

pub lacks_over : (old new : Option (List ℕ)) (taken : List ℕ) → Consumes old new taken
    → RequestOverflows 32 taken → LacksHead old new
lacks_over old new taken lost over =
    let t = takes old new taken lost in
    (taken, t.0, t.1, λ h rest begins. omega (arith, over t.0 h rest begins.reads, begins.few))

pub lacks_far : (old new : Option (List ℕ)) (taken : List ℕ) → Consumes old new taken
    → length taken ≡ 8192 → HasNoLimitedHead taken → LacksHead old new
lacks_far old new taken lost full none =
    let t = takes old new taken lost in (
      taken,
      t.0,
      t.1,
      λ h rest begins.
          let fits : length (print_request h) ≤ length taken = omega (arith, begins.short, full) in
          let s = shorter (print_request h) rest taken t.0 begins.reads.1 fits in
          none h s.0 (begins.reads.0, s.1) begins.few,
    )
