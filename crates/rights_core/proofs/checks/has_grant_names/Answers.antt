use Rattle.std.proofs.Common.{◌≡◌, Bool, true, false, ℕ, List, Option, Some, None, not, is_some}
use Rattle.std.proofs.Common.{◌&&◌, ◌∙◌, ap, refl, option_and_then, if◌then◌else◌}
use Rattle.std.specs.Option.{option_map_or}
use Rattle.text_core.specs.Form.{is_name, is_right_name}
use Rattle.rights_core.specs.declared.grant.Grant.{Grant}
use Rattle.rights_core.proofs.Failing.{same_none, some_mapped}
use Rattle.rights_core.proofs.checks.has_grant_names.Goals as goal

some_if : {A : Type 0} (fits : Bool) (x : A) → is_some (if fits then None else Some x) ≡ not fits
some_if true x = refl
some_if false x = refl

some_misname : (fits : Bool) (right : List ℕ) (queue : Option (List ℕ))
    → is_some (if fits
    then option_and_then (λ q. if is_name q then None else Some q) queue
    else Some right) ≡ not (fits && option_map_or is_name queue true)
some_misname false right queue = refl
some_misname true right None = refl
some_misname true right (Some queue) = some_if (is_name queue) queue

pub returns : goal.returns
returns c =
    let grant = c.args.grant.now in
    same_none (is_some c.misname.result) c.is_none.result
    (is_right_name grant.right && option_map_or is_name grant.queue true) c.is_none.ensures
    (some_mapped (λ t. t.now) c.misname.result ∙ ap is_some c.misname.ensures
    ∙ some_misname (is_right_name grant.right) grant.right grant.queue)
