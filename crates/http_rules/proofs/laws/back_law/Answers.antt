-- the text of a date has 29 bytes, and is one
use Rattle.std.proofs.Common.{◌∙◌, ◌≡◌, ap, arith, length, sym}
use Rattle.httpdate.specs.Date.{date_text}
use Rattle.http_rules.specs.Date.{is_date}
use Rattle.http_rules.proofs.Cuts.{back}
use Rattle.http_rules.proofs.laws.back_law.Goals as goal

pub returns : goal.returns
returns c bytes =
    let same = c.to_bytes-text.ensures in
    let long : length (date_text c.args.date) ≡ 29 = ap length (sym same) ∙ omega arith in
    back (date_text c.args.date) bytes long
    (ap is_date (sym same) ∙ sym c.is_date-is_date.ensures.is
    ∙ c.is_date-is_date.ensures.of_all c.args.date same)
