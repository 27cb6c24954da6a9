use Rattle.session_core.proofs.Texts.{cookies_are_texts}
use Rattle.session_core.proofs.laws.text_law.Goals as goal

pub returns : goal.returns
returns c = cookies_are_texts
