-- the commands are text exactly where they pass the test for text
use Rattle.std.proofs.Common.{◌≡◌, false, Some, refl}
use Rattle.std.specs.Str.{is_utf8}
use Rattle.std.proofs.lemmas.Str.{is_utf8-from_IsUtf8, IsUtf8-from_is_utf8}
use Rattle.std.proofs.lemmas.Bool.{false_from_ne_true}
use Rattle.desk_program.proofs.input.script_of.Goals as goal

pub returns-in-Ok-clause-ok : goal.returns-in-Ok-clause-ok
returns-in-Ok-clause-ok c =
    let text = is_utf8-from_IsUtf8 c.in-Some.rest.now c.in-Ok.ensures.cases.1 in
    let same = c.in-Ok.ensures.cases.0 in
    (Some (c.in-Some.settings.now, c.in-Some.rest.now), c.in-Some.ensures, rw (text, same) refl)

pub returns-in-Err-clause-err : goal.returns-in-Err-clause-err
returns-in-Err-clause-err c =
    let rest = c.in-Some.rest.now in
    let other : is_utf8 rest ≡ false =
    false_from_ne_true (is_utf8 rest)
    (λ e. c.in-Err.ensures.cases.0 (IsUtf8-from_is_utf8 rest e)) in
    (Some (c.in-Some.settings.now, rest), c.in-Some.ensures, rw other refl)
