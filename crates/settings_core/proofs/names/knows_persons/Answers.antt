use Rattle.std.proofs.Common.{not, refl}
use Rattle.rights_core.specs.People.{knows}
use Rattle.rights_core.proofs.Failing.{none_found}
use Rattle.settings_core.proofs.names.knows_persons.Goals as goal

pub returns : goal.returns
returns c =
    let people = c.args.people.now in
    none_found (λ t. t.now) (λ t. knows people t.person) (λ t. not (knows people t.person))
    c.unknown_person.result c.is_none.result c.args.tokens.now (λ t. refl) c.is_none.ensures
    c.unknown_person.ensures
