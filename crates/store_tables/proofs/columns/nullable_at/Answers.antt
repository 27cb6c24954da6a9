use Rattle.std.proofs.Common.{inr}
use Rattle.std.proofs.lemmas.Str.{IsUtf8-string_bytes}
use Rattle.store_tables.proofs.columns.nullable_at.Goals as goal

pub returns-in-Some-clause-value : goal.returns-in-Some-clause-value
returns-in-Some-clause-value c = record {
  wide = c.in_ok-text.ensures.wide;
  value = inr (
    _,
    (rw c.in-Some.is at c.in_ok-text.ensures.ok).1,
    IsUtf8-string_bytes c.in-Some.text,
  );
}
