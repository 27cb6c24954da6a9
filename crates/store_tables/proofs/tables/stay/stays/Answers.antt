use Rattle.std.proofs.Common.{refl}
use Rattle.sqlite.specs.Listing.{understood}
use Rattle.sqlite_tied.specs.Compute.{everything}
use Rattle.store_tables.specs.Contents.Stay.{stay_order}
use Rattle.store_tables.proofs.Contents.Stay.{request_stay_back}
use Rattle.store_tables.proofs.Contents.Stay.{stay_table}
use Rattle.store_tables.proofs.RowLemmas.{parts_all, ranked}
use Rattle.store_tables.proofs.TextLemmas.{none_given}
use Rattle.store_tables.proofs.tables.stay.stays.Goals as goal

pub select_all-requires : goal.select_all-requires
unfolding everything
select_all-requires g c schema k found = none_given schema _ k found (λ s n. refl)

pub returns : goal.returns
unfolding understood everything
returns g c = parts_all stay_table c.select_all.ensures stay_order
    (record { is = refl; plain = (refl, refl); unlisted = refl; none = λ s n. refl })
    request_stay_back (λ a b. simp ranked)
