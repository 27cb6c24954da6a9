use Rattle.std.proofs.Common.{not, refl}
use Rattle.rights_core.proofs.Failing.{none_found}
use Rattle.settings_core.specs.Tokens.{is_token}
use Rattle.settings_core.proofs.tokens.are_tokens.Goals as goal

pub returns : goal.returns
returns c =
    none_found (λ t. t.now) (λ t. is_token t.token) (λ t. not (is_token t.token))
    c.bad_token.result c.is_none.result c.args.tokens.now (λ t. refl) c.is_none.ensures
    c.bad_token.ensures
