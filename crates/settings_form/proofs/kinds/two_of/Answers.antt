use Rattle.settings_form.proofs.Trees.{not_two}
use Rattle.settings_form.proofs.kinds.two_of.Goals as goal

pub returns-else-values-eq2 : goal.returns-else-values-eq2
returns-else-values-eq2 c =
    not_two _ (rw c.as_slice-values.ensures.value at c.if-values-eq2.false)
