-- bytes are a text exactly where they pass the test for text
use Rattle.std.proofs.Common.{◌≡◌, false, refl}
use Rattle.std.specs.Str.{is_utf8}
use Rattle.std.proofs.lemmas.Str.{is_utf8-from_IsUtf8, IsUtf8-from_is_utf8}
use Rattle.std.proofs.lemmas.Bool.{false_from_ne_true}
use Rattle.message_core.proofs.heading.text_of.Goals as goal

pub returns-in-Ok : goal.returns-in-Ok
returns-in-Ok c =
    let text = is_utf8-from_IsUtf8 c.in-Some.value.now c.in-Ok.ensures.cases.1 in
    let same = c.in-Ok.ensures.cases.0 in
    rw (c.in-Some.is, text, same) refl

pub returns-in-Err : goal.returns-in-Err
returns-in-Err c =
    let value = c.in-Some.value.now in
    let other : is_utf8 value ≡ false =
    false_from_ne_true (is_utf8 value)
    (λ e. c.in-Err.ensures.cases.0 (IsUtf8-from_is_utf8 value e)) in
    rw (c.in-Some.is, other) refl
