use Rattle.std.proofs.lemmas.Str.{IsUtf8-string_bytes}
use Rattle.store_tables.proofs.columns.text_at.Goals as goal

pub returns-clause-value : goal.returns-clause-value
returns-clause-value c = record {
  wide = c.in_ok-text.ensures.wide;
  value = (_, c.in_ok-text.ensures.ok, IsUtf8-string_bytes c.in_ok-text.text);
}
