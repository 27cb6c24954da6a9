use Rattle.std.proofs.Common.{refl, rules}
use Rattle.sqlite.specs.Listing.{understood}
use Rattle.sqlite_tied.proofs.RuleLemmas.{and_true}
use Rattle.sqlite_tied.specs.Compute.{everything}
use Rattle.store_tables.specs.Contents.Entry.{place_of, tells_of}
use Rattle.store_tables.proofs.Contents.Entry.{entry_table, place_table}
use Rattle.store_tables.proofs.FoundLemmas.{greatest}
use Rattle.store_tables.proofs.ReadOn.{failed_at, giving}
use Rattle.store_tables.proofs.RowLemmas.{answered, ranked}
use Rattle.store_tables.proofs.TestLemmas.{equal_numbers}
use Rattle.store_tables.proofs.TextLemmas.{none_given}
use Rattle.store_tables.proofs.tables.entry.last_number.Goals as goal

pub select_one-requires : goal.select_one-requires
unfolding everything
select_one-requires g c schema k found = none_given schema _ k found (λ s n. refl)

pub returns-in_err-last : goal.returns-in_err-last
unfolding understood everything
returns-in_err-last g c = failed_at (answered place_table (greatest entry_table place_of (rw c.number.ensures.bound at c.in_err-last.ensures)
    (record { is = refl; plain = (refl, refl); unlisted = refl; none = λ s n. refl })
    (λ row. refl) (λ k. refl) (λ a b. simp ranked) (tells_of c.args.id) (λ k. simp (equal_numbers, and_true)))).read (search rules)

pub returns : goal.returns
unfolding understood everything
returns g c = giving (λ d greatest. rw c.unwrap_or.ensures greatest) (answered place_table (greatest entry_table place_of (rw c.number.ensures.bound at c.in_ok-last.ensures)
    (record { is = refl; plain = (refl, refl); unlisted = refl; none = λ s n. refl })
    (λ row. refl) (λ k. refl) (λ a b. simp ranked) (tells_of c.args.id) (λ k. simp (equal_numbers, and_true)))).read
