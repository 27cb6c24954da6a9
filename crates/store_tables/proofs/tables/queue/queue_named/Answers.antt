use Rattle.std.proofs.Common.{refl}
use Rattle.sqlite.specs.Listing.{understood}
use Rattle.sqlite_tied.proofs.RuleLemmas.{and_true}
use Rattle.sqlite_tied.specs.Compute.{everything}
use Rattle.store_tables.specs.Contents.Queue.{is_named}
use Rattle.store_tables.proofs.Contents.Queue.{queue_table}
use Rattle.store_tables.proofs.RowLemmas.{answered, finds}
use Rattle.store_tables.proofs.TestLemmas.{equal_texts}
use Rattle.store_tables.proofs.TextLemmas.{none_given}
use Rattle.store_tables.proofs.tables.queue.queue_named.Goals as goal

pub select_one-requires : goal.select_one-requires
unfolding everything
select_one-requires g c schema k found = none_given schema _ k found (λ s n. refl)

pub returns : goal.returns
unfolding understood everything
returns g c = answered queue_table (finds queue_table
    (rw c.words.ensures.bound at c.select_one.ensures)
    (record { is = refl; plain = (refl, refl); unlisted = refl; none = λ s n. refl })
    (is_named c.args.name.now) (λ k. simp (equal_texts, and_true)))
