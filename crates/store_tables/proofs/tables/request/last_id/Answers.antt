use Rattle.std.proofs.Common.{refl, rules, true}
use Rattle.sqlite.specs.Listing.{understood}
use Rattle.sqlite_tied.specs.Compute.{everything}
use Rattle.store_tables.specs.Contents.{requests}
use Rattle.store_tables.specs.Contents.Request.{number_of}
use Rattle.store_tables.proofs.Contents.Request.{id_table, request_table}
use Rattle.store_tables.proofs.FoundLemmas.{greatest}
use Rattle.store_tables.proofs.ReadOn.{failed_at, giving}
use Rattle.store_tables.proofs.ReadingLemmas.{every}
use Rattle.store_tables.proofs.RowLemmas.{answered, ranked}
use Rattle.store_tables.proofs.TextLemmas.{none_given}
use Rattle.store_tables.proofs.tables.request.last_id.Goals as goal

pub select_one-requires : goal.select_one-requires
unfolding everything
select_one-requires g c schema k found = none_given schema _ k found (λ s n. refl)

pub returns-in_err-last : goal.returns-in_err-last
unfolding understood everything
returns-in_err-last g c = failed_at (answered id_table (greatest request_table number_of c.in_err-last.ensures
    (record { is = refl; plain = (refl, refl); unlisted = refl; none = λ s n. refl })
    (λ row. refl) (λ k. refl) (λ a b. simp ranked) (λ _. true) (λ k. refl))).read (search rules)

pub returns : goal.returns
unfolding understood everything
returns g c = giving (λ d greatest. rw c.unwrap_or.ensures (rw (every (requests d)) at greatest)) (answered id_table (greatest request_table number_of c.in_ok-last.ensures
    (record { is = refl; plain = (refl, refl); unlisted = refl; none = λ s n. refl })
    (λ row. refl) (λ k. refl) (λ a b. simp ranked) (λ _. true) (λ k. refl))).read
