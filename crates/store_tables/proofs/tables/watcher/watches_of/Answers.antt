use Rattle.std.proofs.Common.{refl}
use Rattle.std.proofs.lemmas.Map.Text.{is_eq-slice_cmp}
use Rattle.sqlite.specs.Listing.{understood}
use Rattle.sqlite_tied.proofs.RuleLemmas.{and_true}
use Rattle.sqlite_tied.specs.Compute.{everything}
use Rattle.store_tables.specs.Contents.Watcher.{is_of_person, standing_order}
use Rattle.store_tables.proofs.Contents.Watcher.{watcher_table}
use Rattle.store_tables.proofs.RowLemmas.{answered, lists, ranked, told_of}
use Rattle.store_tables.proofs.TestLemmas.{equal_texts}
use Rattle.store_tables.proofs.TextLemmas.{none_given}
use Rattle.store_tables.proofs.tables.watcher.watches_of.Goals as goal

pub watcher_rows-requires : goal.watcher_rows-requires
unfolding everything
watcher_rows-requires g c schema k found = none_given schema _ k found (λ s n. refl)

pub returns : goal.returns
unfolding understood everything
returns g c = answered watcher_table (lists watcher_table (told_of (rw c.name.ensures.bound at c.watcher_rows.ensures.read) c.watcher_rows.ensures.leaves) standing_order
    (record { is = refl; plain = (refl, refl); unlisted = refl; none = λ s n. refl })
    (is_of_person c.args.person.now) (λ k. simp (equal_texts, is_eq-slice_cmp, and_true))
    (λ a b. simp ranked))
