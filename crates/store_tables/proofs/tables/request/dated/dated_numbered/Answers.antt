use Rattle.std.proofs.Common.{refl}
use Rattle.sqlite.specs.Listing.{understood}
use Rattle.sqlite_tied.proofs.RuleLemmas.{and_true}
use Rattle.sqlite_tied.specs.Compute.{everything}
use Rattle.store_tables.specs.Contents.Request.{has_number}
use Rattle.store_tables.proofs.Contents.Request.{dated_table}
use Rattle.store_tables.proofs.RowLemmas.{answered, finds}
use Rattle.store_tables.proofs.TestLemmas.{equal_numbers}
use Rattle.store_tables.proofs.TextLemmas.{none_given}
use Rattle.store_tables.proofs.tables.request.dated.dated_numbered.Goals as goal

pub select_one-requires : goal.select_one-requires
unfolding everything
select_one-requires g c schema k found = none_given schema _ k found (λ s n. refl)

pub returns : goal.returns
unfolding understood everything
returns g c = (answered dated_table (finds dated_table (rw c.number.ensures.bound at c.select_one.ensures)
    (record { is = refl; plain = (refl, refl); unlisted = refl; none = λ s n. refl })
    (has_number c.args.id) (λ k. simp (equal_numbers, and_true)))).read
