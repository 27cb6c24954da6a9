use Rattle.std.proofs.Common.{rules}
use Rattle.page_core.specs.Values.{text_of}
use Rattle.page_core.proofs.Fills.{next_is, one_later}
use Rattle.page_core.proofs.template.put_next.Goals as goal

pub returns-in_ok-put_shown-in-Some-clause-put : goal.returns-in_ok-put_shown-in-Some-clause-put
returns-in_ok-put_shown-in-Some-clause-put c =
    rw (next_is text_of c.args.values.now c.args.used c.in-Some.value.now (search rules) (search rules))
    (search rules)

pub returns-in_ok-put_shown-in-Some-clause-later : goal.returns-in_ok-put_shown-in-Some-clause-later
returns-in_ok-put_shown-in-Some-clause-later c = search (rules, one_later)
