use Rattle.std.proofs.Common.{refl}
use Rattle.sqlite.specs.Listing.{understood}
use Rattle.sqlite_tied.proofs.RuleLemmas.{and_true}
use Rattle.sqlite_tied.specs.Compute.{everything}
use Rattle.store_tables.specs.Contents.Entry.{by_number, tells_of}
use Rattle.store_tables.specs.Query.{number_order}
use Rattle.store_tables.proofs.Contents.Entry.{entry_table}
use Rattle.store_tables.proofs.RowLemmas.{inside, lists, ranked}
use Rattle.store_tables.proofs.Spared.{looks_of}
use Rattle.store_tables.proofs.TestLemmas.{equal_numbers}
use Rattle.store_tables.proofs.TextLemmas.{none_given}
use Rattle.store_tables.proofs.tables.entry.entries_inside.Goals as goal

pub select_all-requires : goal.select_all-requires
unfolding everything
select_all-requires g c schema k found = none_given schema _ k found (λ s n. refl)

pub returns : goal.returns
unfolding understood everything
returns g c =
    let it = lists entry_table (rw c.number.ensures.bound at c.select_all.ensures) number_order
    (record { is = refl; plain = (refl, refl); unlisted = refl; none = λ s n. refl })
    (tells_of c.args.id) (λ k. simp (equal_numbers, and_true)) {cmp = by_number}
    (λ a b. simp ranked) in record {
      same_reference = c.select_all.ensures.same;
      listed = inside it;
      mismatch = it.fails;
      looks = looks_of _ it.leaves;
    }
