use Rattle.desk_pages.proofs.Requests.{request_same}
use Rattle.desk_pages.proofs.laws.request_page_law.Goals as goal

pub returns : goal.returns
returns c = request_same
