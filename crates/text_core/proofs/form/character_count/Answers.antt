-- the characters that the iterator gives are those of the text
use Rattle.std.proofs.lemmas.Iterator.{YieldsList-from_chars}
use Rattle.std.proofs.lemmas.Iterator.Consumers.{count_from_yields_List}
use Rattle.text_core.proofs.form.character_count.Goals as goal

pub returns : goal.returns
returns c =
    let yields = YieldsList-from_chars c.args.text.now c.utf8.text c.chars.ensures.rest in
    count_from_yields_List c.chars.result c.count.result c.count.ensures.ran yields
