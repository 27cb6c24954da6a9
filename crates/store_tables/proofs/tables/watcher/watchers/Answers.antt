use Rattle.std.proofs.Common.{refl}
use Rattle.sqlite.specs.Listing.{understood}
use Rattle.sqlite_tied.specs.Compute.{everything}
use Rattle.store_tables.specs.Query.{three_order}
use Rattle.store_tables.proofs.Contents.Watcher.{watcher_table}
use Rattle.store_tables.proofs.RowLemmas.{lists_all, ranked, told_of}
use Rattle.store_tables.proofs.TextLemmas.{none_given}
use Rattle.store_tables.proofs.tables.watcher.watchers.Goals as goal

pub watcher_rows-requires : goal.watcher_rows-requires
unfolding everything
watcher_rows-requires g c schema k found = none_given schema _ k found (λ s n. refl)

pub returns : goal.returns
unfolding understood everything
returns g c = lists_all watcher_table (told_of c.watcher_rows.ensures.read c.watcher_rows.ensures.leaves) three_order
    (record { is = refl; plain = (refl, refl); unlisted = refl; none = λ s n. refl })
    (λ a b. simp ranked)
