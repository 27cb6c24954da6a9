-- the text of a minute is ASCII, and so it is text
use Rattle.std.proofs.lemmas.Str.{IsUtf8-from_ascii}
use Rattle.hours_core.proofs.TextLemmas.{ascii_minute}
use Rattle.desk_texts.proofs.texts.minute.as_text.Goals as goal

pub unreachable-requires : goal.unreachable-requires
unreachable-requires c =
    let minute = c.requires.minute in
    c.in-Err.ensures.cases.0
    (rw minute.1 (IsUtf8-from_ascii _ (ascii_minute minute.0)))
