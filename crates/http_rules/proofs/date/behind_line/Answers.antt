-- all that stands behind the line
use Rattle.std.proofs.Common.{◌≡◌, ◌∙◌, true, sym}
use Rattle.std.proofs.lemmas.List.{take_rest}
use Rattle.http_rules.specs.Date.{begins_with_line}
use Rattle.http_rules.proofs.date.behind_line.Goals as goal

pub returns-then-begins_with_line : goal.returns-then-begins_with_line
returns-then-begins_with_line c =
    let bytes = c.args.bytes.now in
    let begins : begins_with_line bytes ≡ true =
    sym c.begins_with_line.ensures ∙ c.if-begins_with_line.true in
    rw begins (take_rest bytes 37)
