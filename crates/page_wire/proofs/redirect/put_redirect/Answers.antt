-- the number stands between the two parts of the place
use Rattle.std.proofs.Common.{◌∙◌, ◌++◌, ap, codes, List, ℕ}
use Rattle.page_reply.specs.PageReply.{way_to}
use Rattle.page_wire.proofs.redirect.put_redirect.Goals as goal

pub returns : goal.returns
returns c =
    c.put_way.ensures
    ∙ ap (λ (l : List ℕ). l ++ way_to
    (codes "/desk/requests/" ++ (c.format.result.now ++ codes "#reply"))) c.requires.empty
    ∙ ap (λ (l : List ℕ). way_to (codes "/desk/requests/" ++ (l ++ codes "#reply")))
    c.format.ensures.text
