-- One piece after another.
use Rattle.std.proofs.Common.{◌≡◌, ◌∙◌, ℕ, List, ◌++◌, Result, Ok, Err, OnOk, ap, append_assoc, sym}
use Rattle.std.proofs.lemmas.Grind.{flat_map-append}
use Rattle.page_core.specs.Page.{Part, page_bytes, part_bytes}

pub afterwards : {E : Type 0} (result : Result (Unit {0}) E) (old mid new : List ℕ)
    (parts others : List Part) → mid ≡ old ++ page_bytes parts
    → OnOk result (new ≡ mid ++ page_bytes others)
    → OnOk result (new ≡ old ++ page_bytes (parts ++ others))
afterwards (Ok done) old mid new parts others first second =
    second ∙ ap (λ l. l ++ page_bytes others) first
    ∙ append_assoc old (page_bytes parts) (page_bytes others)
    ∙ ap (λ l. old ++ l) (sym (flat_map-append part_bytes parts others))
afterwards (Err refused) old mid new parts others first second = second
