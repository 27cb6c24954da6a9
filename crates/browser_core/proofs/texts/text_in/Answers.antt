-- bytes are a text exactly where they pass the test for text
use Rattle.std.proofs.Common.{◌≡◌, false, refl}
use Rattle.std.specs.Str.{is_utf8}
use Rattle.std.proofs.lemmas.Bool.{false_from_ne_true}
use Rattle.std.proofs.lemmas.Str.{is_utf8-from_IsUtf8, IsUtf8-from_is_utf8}
use Rattle.browser_core.proofs.texts.text_in.Goals as goal

pub returns-in-Ok : goal.returns-in-Ok
returns-in-Ok c =
    rw (
      is_utf8-from_IsUtf8 c.args.bytes.now c.in-Ok.ensures.cases.1,
      c.in-Ok.ensures.cases.0,
    ) refl

pub returns-in-Err : goal.returns-in-Err
returns-in-Err c =
    let bytes = c.args.bytes.now in
    let other : is_utf8 bytes ≡ false =
    false_from_ne_true (is_utf8 bytes)
    (λ e. c.in-Err.ensures.cases.0 (IsUtf8-from_is_utf8 bytes e)) in
    rw other refl
