use Rattle.std.proofs.Common.{ℕ, Bool, ◌||◌, List, not, ap, ◌∙◌}
use Rattle.std.proofs.Math.Path.{fun_ext}
use Rattle.std.specs.List.{position}
use Rattle.rights_core.specs.Right.{standard_rights}
use Rattle.text_core.specs.Texts.{is_among}
use Rattle.settings_core.proofs.names.unknown_right.Goals as goal

pub returns : goal.returns
returns c =
    c.right_beside.ensures
    ∙ ap
    (λ (p : List ℕ → Bool). position (λ g. not (is_among standard_rights g.right || p g.right))
    c.args.grants.now)
    (fun_ext c.in_ok-named.ensures)
