use Rattle.std.proofs.Common.{[], refl}
use Rattle.sqlite.specs.Listing.{understood}
use Rattle.sqlite_tied.proofs.RuleLemmas.{and_true}
use Rattle.sqlite_tied.specs.Compute.{everything}
use Rattle.store_tables.specs.Contents.Stay.{is_of}
use Rattle.store_tables.specs.Query.{number_order}
use Rattle.store_tables.proofs.Contents.Stay.{stay_back}
use Rattle.store_tables.proofs.Contents.Stay.{stay_table}
use Rattle.store_tables.proofs.RowLemmas.{answered, parts, ranked}
use Rattle.store_tables.proofs.TestLemmas.{equal_numbers}
use Rattle.store_tables.proofs.TextLemmas.{none_given}
use Rattle.store_tables.proofs.tables.stay.stays_of.Goals as goal

pub select_all-requires : goal.select_all-requires
unfolding everything
select_all-requires g c schema k found = none_given schema _ k found (λ s n. refl)

pub returns : goal.returns
unfolding understood everything
returns g c = answered stay_table (parts stay_table (rw c.number.ensures.bound at c.select_all.ensures) number_order
    (record { is = refl; plain = (refl, refl); unlisted = refl; none = λ s n. refl })
    (stay_table.same []) (is_of c.args.id) (λ k. simp (equal_numbers, and_true))
    (stay_table.shown []) stay_back (λ a b. simp ranked))
