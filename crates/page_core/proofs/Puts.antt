-- What was there stays in front, whatever is put after it.
use Rattle.std.proofs.Common.{◌≡◌, ◌∙◌, ℕ, List, ◌++◌, length, take, ap, append_assoc}
use Rattle.std.proofs.Math.Seq.{take-append_seam}
use Rattle.page_core.specs.Extends.{Extends}

pub extends_more : (old mid new front : List ℕ) → mid ≡ old ++ front → Extends mid new
    → Extends old new
extends_more old mid new front first second = record {
  more = front ++ second.more;
  is = second.is ∙ ap (λ l. l ++ second.more) first ∙ append_assoc old front second.more;
}

pub cut_back : (old new : List ℕ) → Extends old new → take (length old) new ≡ old
cut_back old new longer = ap (λ l. take (length old) l) longer.is ∙ take-append_seam old longer.more

pub extends_on : (old mid new : List ℕ) → Extends old mid → Extends mid new → Extends old new
extends_on old mid new first second = extends_more old mid new first.more first.is second
