use Rattle.page_core.proofs.Templates.{emptied_filled, page_of, template_shows}
use Rattle.page_core.proofs.laws.template_law.Goals as goal

pub returns-clause-page : goal.returns-clause-page
returns-clause-page c = page_of

pub returns-clause-empty : goal.returns-clause-empty
returns-clause-empty c = emptied_filled

pub returns-clause-markup : goal.returns-clause-markup
returns-clause-markup c = λ template texts flags fine. (template_shows template texts flags fine).outlined
