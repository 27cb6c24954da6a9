use Rattle.std.proofs.Common.{refl}
use Rattle.sqlite.specs.Listing.{understood}
use Rattle.sqlite_tied.proofs.RuleLemmas.{and_true}
use Rattle.sqlite_tied.specs.Compute.{everything}
use Rattle.store_tables.specs.Contents.Request.{is_filed_in}
use Rattle.store_tables.specs.Query.{id_order}
use Rattle.store_tables.proofs.Contents.Request.{request_table}
use Rattle.store_tables.proofs.RowLemmas.{answered, lists, ranked, told_of}
use Rattle.store_tables.proofs.TestLemmas.{equal_texts}
use Rattle.store_tables.proofs.TextLemmas.{none_given}
use Rattle.store_tables.proofs.tables.request.requests_of.Goals as goal

pub request_rows-requires : goal.request_rows-requires
unfolding everything
request_rows-requires g c schema k found = none_given schema _ k found (λ s n. refl)

pub returns : goal.returns
unfolding understood everything
returns g c = answered request_table (lists request_table (told_of (rw c.words.ensures.bound at c.request_rows.ensures.read) c.request_rows.ensures.leaves) id_order
    (record { is = refl; plain = (refl, refl); unlisted = refl; none = λ s n. refl })
    (is_filed_in c.args.queue.now) (λ k. simp (equal_texts, and_true))
    (λ a b. simp ranked))
