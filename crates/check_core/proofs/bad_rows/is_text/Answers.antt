use Rattle.std.proofs.Common.{ap}
use Rattle.sqlite_value.specs.Value.{owned}
use Rattle.check_core.proofs.KindLemmas.{text_decided}
use Rattle.check_core.proofs.bad_rows.is_text.Goals as goal

pub returns-in-Text : goal.returns-in-Text
returns-in-Text c =
    text_decided c.is_utf8.result (owned c.args.value) c.in-Text.bytes.now (ap owned c.in-Text.is)
    c.is_utf8.ensures
