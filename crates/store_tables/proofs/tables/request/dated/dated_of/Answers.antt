use Rattle.std.proofs.Common.{refl}
use Rattle.sqlite.specs.Listing.{understood}
use Rattle.sqlite_tied.proofs.RuleLemmas.{and_true}
use Rattle.sqlite_tied.specs.Compute.{everything}
use Rattle.store_tables.specs.Contents.Request.{is_dated_in}
use Rattle.store_tables.specs.Query.{id_order}
use Rattle.store_tables.proofs.Contents.Request.{dated_table}
use Rattle.store_tables.proofs.RowLemmas.{answered, lists, ranked, told_of}
use Rattle.store_tables.proofs.TestLemmas.{equal_texts}
use Rattle.store_tables.proofs.TextLemmas.{none_given}
use Rattle.store_tables.proofs.tables.request.dated.dated_of.Goals as goal

pub dated_rows-requires : goal.dated_rows-requires
unfolding everything
dated_rows-requires g c schema k found = none_given schema _ k found (λ s n. refl)

pub returns : goal.returns
unfolding understood everything
returns g c = answered dated_table (lists dated_table (told_of (rw c.words.ensures.bound at c.dated_rows.ensures.read) c.dated_rows.ensures.leaves) id_order
    (record { is = refl; plain = (refl, refl); unlisted = refl; none = λ s n. refl })
    (is_dated_in c.args.queue.now) (λ k. simp (equal_texts, and_true))
    (λ a b. simp ranked))
