use Rattle.std.proofs.Common.{arith, ⊎_elim}
use Rattle.std.proofs.lemmas.Bool.{cases_Bool}
use Rattle.std.proofs.lemmas.Map.Text.{text_keys}
use Rattle.std.specs.Str.{bytes_eq}
use Rattle.rights_core.proofs.grants.put.Goals as goal

pub returns : goal.returns
returns c =
    λ r n.
    ⊎_elim
    (λ same. grind (arith, text_keys, c.in_ok-put_under.ensures n))
    (λ other. grind (arith, text_keys))
    (cases_Bool (bytes_eq r c.args.right.now))
