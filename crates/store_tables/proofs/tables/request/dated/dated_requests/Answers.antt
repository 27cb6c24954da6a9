use Rattle.std.proofs.Common.{refl}
use Rattle.sqlite.specs.Listing.{understood}
use Rattle.sqlite_tied.specs.Compute.{everything}
use Rattle.store_tables.proofs.RowLemmas.{told_of}
use Rattle.store_tables.proofs.ShownDated.{dated_told}
use Rattle.store_tables.proofs.TextLemmas.{none_given}
use Rattle.store_tables.proofs.tables.request.dated.dated_requests.Goals as goal

pub dated_rows-requires : goal.dated_rows-requires
unfolding everything
dated_rows-requires g c schema k found = none_given schema _ k found (λ s n. refl)

pub returns : goal.returns
unfolding understood everything
returns g c = dated_told (told_of c.dated_rows.ensures.read c.dated_rows.ensures.leaves)
    (record { is = refl; plain = (refl, refl); unlisted = refl; none = λ s n. refl })
    c.at_rest.ensures
