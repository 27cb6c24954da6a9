-- at the end all pieces have been read
use Rattle.std.proofs.Common.{◌∙◌, ap, lit<}
use Rattle.std.proofs.lemmas.Iterator.Consumers.{YieldsList-at, YieldsList-end}
use Rattle.std.proofs.lemmas.Iterator.Splits.{YieldsList-from_str_split}
use Rattle.std.specs.List.{filter}
use Rattle.page_routes.specs.FormArguments.{is_filled}
use Rattle.page_routes.proofs.filled.names_in.Goals as goal

pub returns : goal.returns
returns c =
    let t = YieldsList-end
    (YieldsList-at c.into_iter-name-iterator.ensures.into_iter_gives
    (YieldsList-from_str_split 32 c.args.text.now (lit< tt) c.split-name-items.ensures.text
    c.split-name-items.ensures.has_more c.split-name-items.ensures.pattern))
    c.loop-name.yielded _ c.loop-name.yielded_by _ _ c.in-None.is c.next.ensures.steps in
    c.from.ensures ∙ c.loop-name.invariant ∙ ap (filter is_filled) t.0
