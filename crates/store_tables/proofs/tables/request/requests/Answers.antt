use Rattle.std.proofs.Common.{refl}
use Rattle.sqlite.specs.Listing.{understood}
use Rattle.sqlite_tied.specs.Compute.{everything}
use Rattle.store_tables.specs.Query.{id_order}
use Rattle.store_tables.proofs.Contents.Request.{request_table}
use Rattle.store_tables.proofs.RowLemmas.{lists_all, ranked, told_of}
use Rattle.store_tables.proofs.TextLemmas.{none_given}
use Rattle.store_tables.proofs.tables.request.requests.Goals as goal

pub request_rows-requires : goal.request_rows-requires
unfolding everything
request_rows-requires g c schema k found = none_given schema _ k found (λ s n. refl)

pub returns : goal.returns
unfolding understood everything
returns g c = lists_all request_table (told_of c.request_rows.ensures.read c.request_rows.ensures.leaves) id_order
    (record { is = refl; plain = (refl, refl); unlisted = refl; none = λ s n. refl })
    (λ a b. simp ranked)
