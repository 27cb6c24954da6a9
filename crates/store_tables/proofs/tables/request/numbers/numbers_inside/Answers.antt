use Rattle.std.proofs.Common.{refl, true}
use Rattle.sqlite.specs.Listing.{understood}
use Rattle.sqlite_tied.specs.Compute.{everything}
use Rattle.store_tables.specs.Contents.{requests}
use Rattle.store_tables.specs.Contents.Request.{by_id, number_of}
use Rattle.store_tables.specs.Query.{id_order}
use Rattle.store_tables.proofs.BackLemmas.{count_back}
use Rattle.store_tables.proofs.Contents.Request.{request_table}
use Rattle.store_tables.proofs.ReadingLemmas.{every}
use Rattle.store_tables.proofs.RowLemmas.{inside, parts, ranked}
use Rattle.store_tables.proofs.Spared.{looks_of}
use Rattle.store_tables.proofs.TextLemmas.{none_given}
use Rattle.store_tables.proofs.tables.request.numbers.numbers_inside.Goals as goal

pub select_all-requires : goal.select_all-requires
unfolding everything
select_all-requires g c schema k found = none_given schema _ k found (λ s n. refl)

pub returns : goal.returns
unfolding understood everything
returns g c =
    let it = parts request_table c.select_all.ensures id_order
    (record { is = refl; plain = (refl, refl); unlisted = refl; none = λ s n. refl })
    (λ row. refl) {cmp = by_id} (λ _. true) (λ k. refl) (λ k. refl)
    (λ v. count_back (number_of v)) (λ a b. simp ranked) in record {
      same_reference = c.select_all.ensures.same;
      listed = λ d holds clean. rw (every (requests d)) at (inside it d holds clean);
      mismatch = it.fails;
      looks = looks_of _ it.leaves;
    }
