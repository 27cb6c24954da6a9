use Rattle.std.proofs.Common.{refl}
use Rattle.sqlite.specs.Listing.{understood}
use Rattle.sqlite_tied.proofs.RuleLemmas.{and_true}
use Rattle.sqlite_tied.specs.Compute.{everything}
use Rattle.store_tables.specs.Contents.Link.{starts_at}
use Rattle.store_tables.specs.Query.{three_order}
use Rattle.store_tables.proofs.Contents.Link.{link_table}
use Rattle.store_tables.proofs.RowLemmas.{answered, lists, ranked, told_of}
use Rattle.store_tables.proofs.TestLemmas.{equal_numbers}
use Rattle.store_tables.proofs.TextLemmas.{none_given}
use Rattle.store_tables.proofs.tables.link.links_from.Goals as goal

pub link_rows-requires : goal.link_rows-requires
unfolding everything
link_rows-requires g c schema k found = none_given schema _ k found (λ s n. refl)

pub returns : goal.returns
unfolding understood everything
returns g c = answered link_table (lists link_table (told_of (rw c.number.ensures.bound at c.link_rows.ensures.read) c.link_rows.ensures.leaves) three_order
    (record { is = refl; plain = (refl, refl); unlisted = refl; none = λ s n. refl })
    (starts_at c.args.source) (λ k. simp (equal_numbers, and_true))
    (λ a b. simp ranked))
