use Rattle.std.proofs.Common.{◌≡◌, ℕ, Bool, true, false, List, None, Some, ap, refl}
use Rattle.std.proofs.Common.{if◌then◌else◌}
use Rattle.std.proofs.lemmas.Str.{IsUtf8-from_is_utf8, is_utf8-from_IsUtf8}
use Rattle.std.specs.Str.{is_utf8}
use Rattle.check_core.proofs.bad_words.text_of.Goals as goal

chosen : (b : Bool) (s t : List ℕ) → b ≡ true → s ≡ t → Some s ≡ (if b then Some t else None)
chosen true s t is same = ap Some same
chosen false s t is same = absurd (cc)

left : (b : Bool) (t : List ℕ) → (b ≡ true → ⊥) → None ≡ (if b then Some t else None)
left false t none = refl
left true t none = absurd (none refl)

pub returns-in-Ok : goal.returns-in-Ok
returns-in-Ok c =
    let bytes = c.args.bytes.now in
    chosen (is_utf8 bytes) _ bytes (is_utf8-from_IsUtf8 bytes c.in-Ok.ensures.cases.1)
    c.in-Ok.ensures.cases.0

pub returns-in-Err : goal.returns-in-Err
returns-in-Err c =
    let bytes = c.args.bytes.now in
    left (is_utf8 bytes) bytes (λ is. c.in-Err.ensures.cases.0 (IsUtf8-from_is_utf8 bytes is))
