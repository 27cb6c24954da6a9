use Rattle.desk_forms.proofs.Texts.{none_seen}
use Rattle.desk_forms.proofs.laws.many_law.Goals as goal

pub returns : goal.returns
returns c = none_seen
