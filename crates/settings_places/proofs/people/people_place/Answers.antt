-- of the people that the text has
use Rattle.std.proofs.Common.{◌≡◌, IfOk, subst, sym}
use Rattle.std.specs.Option.{option_map}
use Rattle.toml.specs.View.{table_view}
use Rattle.settings_places.specs.Place as spec
use Rattle.settings_places.proofs.people.people_place.Goals as goal

pub returns-in-BadName : goal.returns-in-BadName
returns-in-BadName c =
    let ms = table_view c.args.table.now in
    subst (λ fault. IfOk c.misnamed_place.result (λ place. option_map spec.seen place
    ≡ spec.people_place ms fault)) (sym c.in-BadName.is)
    (subst (λ parts. IfOk c.misnamed_place.result (λ place. option_map spec.seen place
    ≡ spec.misnamed_place ms parts)) c.in_ok-parts.ensures c.misnamed_place.ensures)
