use Rattle.settings_parts.proofs.Restored.{whole}
use Rattle.settings_parts.proofs.Right.{right}
use Rattle.settings_parts.proofs.laws.whole_law.Goals as goal

pub returns-clause-right : goal.returns-clause-right
returns-clause-right c = right

pub returns-clause-whole : goal.returns-clause-whole
returns-clause-whole c = whole
