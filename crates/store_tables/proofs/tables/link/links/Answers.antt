use Rattle.std.proofs.Common.{refl}
use Rattle.sqlite.specs.Listing.{understood}
use Rattle.sqlite_tied.specs.Compute.{everything}
use Rattle.store_tables.specs.Query.{three_order}
use Rattle.store_tables.proofs.Contents.Link.{link_table}
use Rattle.store_tables.proofs.RowLemmas.{lists_all, ranked, told_of}
use Rattle.store_tables.proofs.TextLemmas.{none_given}
use Rattle.store_tables.proofs.tables.link.links.Goals as goal

pub link_rows-requires : goal.link_rows-requires
unfolding everything
link_rows-requires g c schema k found = none_given schema _ k found (λ s n. refl)

pub returns : goal.returns
unfolding understood everything
returns g c = lists_all link_table (told_of c.link_rows.ensures.read c.link_rows.ensures.leaves) three_order
    (record { is = refl; plain = (refl, refl); unlisted = refl; none = λ s n. refl })
    (λ a b. simp ranked)
