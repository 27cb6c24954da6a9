use Rattle.page_routes.proofs.CookieLaws.{cookies_are_texts_here}
use Rattle.page_routes.proofs.laws.cookie_law.Goals as goal

pub returns : goal.returns
returns c = cookies_are_texts_here
