use Rattle.std.proofs.Common.{◌∙◌, subst}
use Rattle.desk_reports.specs.Streams.{IsPrintedOf}
use Rattle.desk_reports.proofs.rows.put_row.Goals as goal

pub returns-clause-gathered : goal.returns-clause-gathered
returns-clause-gathered g c =
    let it = c.gather.ensures.gathered in (
      it.0,
      it.1,
      λ rise. subst (λ text. IsPrintedOf text it.0 c.gather.result)
          (c.as_str.ensures.value ∙ c.in_ok-text.ensures rise) it.2,
    )
