-- at the end all pieces have been read
use Rattle.std.proofs.Common.{◌∙◌, ap, lit<, map}
use Rattle.std.proofs.lemmas.Iterator.Consumers.{YieldsList-at, YieldsList-end}
use Rattle.std.proofs.lemmas.Iterator.Splits.{YieldsList-from_str_split}
use Rattle.std.specs.List.{filter, flat_map}
use Rattle.find_form.specs.Query.{behind, is_other}
use Rattle.find_form.proofs.query.others_of.Goals as goal

pub returns : goal.returns
returns c =
    let t = YieldsList-end
    (YieldsList-at c.into_iter-piece-iterator.ensures.into_iter_gives
    (YieldsList-from_str_split 38 c.args.query.now (lit< tt) c.split-piece-items.ensures.text
    c.split-piece-items.ensures.has_more c.split-piece-items.ensures.pattern))
    c.loop-piece.yielded _ c.loop-piece.yielded_by _ _ c.in-None.is c.next.ensures.steps in
    c.from.ensures ∙ c.loop-piece.invariant
    ∙ ap (λ pieces. flat_map behind (filter (is_other (map (λ n. n.now) c.args.names.now)) pieces))
    t.0
