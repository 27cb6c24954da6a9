-- whose a post is comes before the cookie
use Rattle.page_wire.proofs.PageLaws.{other_sites_leave}
use Rattle.page_wire.proofs.laws.other_site_law.Goals as goal

pub returns : goal.returns
returns c = other_sites_leave
