use Rattle.std.proofs.Common.{rules}
use Rattle.std.proofs.lemmas.Fn.{filter_same}
use Rattle.find_core.specs.Places.{is_before}
use Rattle.find_core.proofs.places.rows_behind.Goals as goal

pub returns : goal.returns
returns c =
    filter_same _ (λ p. is_before c.args.descending c.args.place p.0) _
    (λ x b f' k. search rules) _ _ c.retain.ensures.filtered
