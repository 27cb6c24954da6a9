-- the right is that of the words, which is a right's name
use Rattle.std.proofs.Common.{◌≡◌, ℕ, List, true, subst, sym, rules}
use Rattle.text_core.specs.Form.{is_right_name}
use Rattle.lifecycle_core.specs.Lifecycle.{right_of_move}
use Rattle.lifecycle_core.proofs.Rights.{right_named}
use Rattle.lifecycle_core.proofs.lifecycle.Lifecycle.right_for.Goals as goal

pub returns-clause-right : goal.returns-clause-right
unfolding right_of_move
returns-clause-right c = search rules

pub returns-clause-named : goal.returns-clause-named
returns-clause-named c =
    subst (λ (right : List ℕ). is_right_name right ≡ true) (sym (returns-clause-right c))
    (right_named c.args.self.now c.args.from.now c.args.to.now c.right_of_entry.ensures.sound)
