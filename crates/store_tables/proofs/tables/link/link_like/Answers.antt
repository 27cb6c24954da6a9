use Rattle.std.proofs.Common.{refl}
use Rattle.sqlite.specs.Listing.{understood}
use Rattle.sqlite_tied.proofs.RuleLemmas.{and_true}
use Rattle.sqlite_tied.specs.Compute.{everything}
use Rattle.store_tables.specs.Contents.Link.{is_link}
use Rattle.store_tables.proofs.Contents.Link.{link_table}
use Rattle.store_tables.proofs.RowLemmas.{answered, finds}
use Rattle.store_tables.proofs.TestLemmas.{equal_numbers}
use Rattle.store_tables.proofs.TextLemmas.{none_given}
use Rattle.store_tables.proofs.tables.link.link_like.Goals as goal

pub select_one-requires : goal.select_one-requires
unfolding everything
select_one-requires g c schema k found = none_given schema _ k found (λ s n. refl)

pub returns : goal.returns
unfolding understood everything
returns g c = (answered link_table (finds link_table (rw (c.number.ensures.bound, c.link_kind.ensures, c.number-2.ensures.bound) at c.select_one.ensures)
    (record { is = refl; plain = (refl, refl); unlisted = refl; none = λ s n. refl })
    (is_link c.args.link) (λ k. simp (equal_numbers, and_true)))).read
