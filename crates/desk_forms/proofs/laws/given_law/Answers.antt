use Rattle.desk_forms.proofs.Blank.{none_seen}
use Rattle.desk_forms.proofs.laws.given_law.Goals as goal

pub returns : goal.returns
returns c = none_seen
