use Rattle.std.proofs.Common.{arith, ⊎_elim}
use Rattle.std.proofs.lemmas.Bool.{cases_Bool}
use Rattle.std.proofs.lemmas.Map.Text.{text_keys}
use Rattle.std.specs.Str.{bytes_eq}
use Rattle.lifecycle_core.proofs.pairs.put.Goals as goal

pub returns-clause-new : goal.returns-clause-new
returns-clause-new c = grind (arith, text_keys, c.in_ok-added.ensures.new)

pub returns-clause-kept : goal.returns-clause-kept
returns-clause-kept c =
    λ f t.
    ⊎_elim
    (λ same. grind (arith, text_keys, c.in_ok-added.ensures.kept t))
    (λ other. grind (arith, text_keys))
    (cases_Bool (bytes_eq f c.args.from.now))
