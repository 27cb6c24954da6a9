-- what is told goes by the dossier alone, and that is one of the view
use Rattle.page_wire.proofs.AlikePages.{texts_alike}
use Rattle.page_wire.proofs.laws.text_alike_law.Goals as goal

pub returns : goal.returns
returns c = texts_alike
