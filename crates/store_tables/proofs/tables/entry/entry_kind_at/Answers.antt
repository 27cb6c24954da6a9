use Rattle.std.proofs.Common.{◌≡◌, ◌<◌, ℕ, length}
use Rattle.sqlite.specs.Order.{Row, column}
use Rattle.desk_model.specs.declared.rows.EntryKind.{EntryKind}
use Rattle.desk_model.specs.declared.rows.EntryKind.TheVariants as what
use Rattle.store_tables.specs.Contents.Entry.{IsEntryKind, entry_kind_number}
use Rattle.store_tables.specs.Values.{HasAt, IsCount, count_value}
use Rattle.store_tables.proofs.tables.entry.entry_kind_at.Goals as goal

kind_there : {row : Row} {at n : ℕ} (k : EntryKind) → HasAt IsCount row at
    → column row at ≡ count_value n → n ≡ entry_kind_number k → HasAt IsEntryKind row at
kind_there k there spelt is = record { wide = there.wide; value = (k, rw is at spelt) }

pub returns-in-1-clause-value : goal.returns-in-1-clause-value
returns-in-1-clause-value c =
    kind_there what.Create c.in_ok-number_at.ensures.value c.in_ok-number_at.ensures.ok c.in-1.is

pub returns-in-2-clause-value : goal.returns-in-2-clause-value
returns-in-2-clause-value c =
    kind_there what.Status c.in_ok-number_at.ensures.value c.in_ok-number_at.ensures.ok c.in-2.is

pub returns-in-3-clause-value : goal.returns-in-3-clause-value
returns-in-3-clause-value c =
    kind_there what.Owner c.in_ok-number_at.ensures.value c.in_ok-number_at.ensures.ok c.in-3.is

pub returns-in-4-clause-value : goal.returns-in-4-clause-value
returns-in-4-clause-value c =
    kind_there what.Reply c.in_ok-number_at.ensures.value c.in_ok-number_at.ensures.ok c.in-4.is

pub returns-in-5-clause-value : goal.returns-in-5-clause-value
returns-in-5-clause-value c =
    kind_there what.Comment c.in_ok-number_at.ensures.value c.in_ok-number_at.ensures.ok c.in-5.is

pub returns-in-6-clause-value : goal.returns-in-6-clause-value
returns-in-6-clause-value c =
    kind_there what.Watch c.in_ok-number_at.ensures.value c.in_ok-number_at.ensures.ok c.in-6.is

pub returns-in-7-clause-value : goal.returns-in-7-clause-value
returns-in-7-clause-value c =
    kind_there what.Unwatch c.in_ok-number_at.ensures.value c.in_ok-number_at.ensures.ok c.in-7.is

pub returns-in-8-clause-value : goal.returns-in-8-clause-value
returns-in-8-clause-value c =
    kind_there what.Link c.in_ok-number_at.ensures.value c.in_ok-number_at.ensures.ok c.in-8.is

pub returns-in-9-clause-value : goal.returns-in-9-clause-value
returns-in-9-clause-value c =
    kind_there what.Unlink c.in_ok-number_at.ensures.value c.in_ok-number_at.ensures.ok c.in-9.is

pub returns-in-10-clause-value : goal.returns-in-10-clause-value
returns-in-10-clause-value c =
    kind_there what.Level c.in_ok-number_at.ensures.value c.in_ok-number_at.ensures.ok c.in-10.is
