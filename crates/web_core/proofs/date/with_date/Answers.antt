-- the bytes that were given the date are the reply's
use Rattle.std.proofs.Common.{◌∙◌, ap, inr, ℕ, List}
use Rattle.http_rules.specs.Date.{dated}
use Rattle.httpdate.specs.Date.{date_text}
use Rattle.web_core.proofs.date.with_date.Goals as goal

pub returns-in-Some : goal.returns-in-Some
returns-in-Some c =
    let (date, is, put) = c.in-Some.ensures in
    inr (date, is, put ∙ ap (λ (bytes : List ℕ). dated (date_text date) bytes) c.bytes.ensures)
