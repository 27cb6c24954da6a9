-- The table `watcher`: its rows as values.
use Rattle.std.proofs.Common.{◌≡◌, ℤ, arith, inl, inr, refl}
use Rattle.desk_model.specs.declared.rows.Watcher.{Watcher}
use Rattle.store_tables.specs.Contents.Watcher.{watcher}
use Rattle.store_tables.specs.Contents.Watcher.{IsWatcherRow, ReadsWatcher, watcher_columns}
use Rattle.store_tables.specs.Query.{three_shown}
use Rattle.store_tables.specs.Kept.{filed, value_of}
use Rattle.store_tables.proofs.RowLemmas.{TableOf, table_of}
use Rattle.store_tables.proofs.ValueLemmas.{values_of}

pub watcher_back : (a b : Watcher) → ReadsWatcher (watcher_columns a) b → b ≡ a
watcher_back a b h = grind (arith, h)

abbrev pub watcher_table : TableOf (ℤ × Watcher) Watcher
watcher_table = table_of watcher.tree three_shown (filed watcher_columns) value_of watcher_columns
    (λ c. c.watchers) ReadsWatcher IsWatcherRow watcher_back (λ params k. refl) (λ params r. refl)
    (λ c db t. t.watchers) (λ c db t. (values_of c t.values).watchers) (λ db it. inr (inr (inl it)))
