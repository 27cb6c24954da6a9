use Rattle.std.proofs.Common.{Some, ◌<◌, ◌^◌, ◌≡◌, refl, rules}
use Rattle.sqlite.specs.Listing.{understood}
use Rattle.sqlite_tied.specs.Compute.{everything}
use Rattle.store_tables.proofs.Contents.Queue.{queue_table}
use Rattle.store_tables.proofs.FoundLemmas.{counted}
use Rattle.store_tables.proofs.ReadOn.{refusing_after}
use Rattle.store_tables.proofs.TextLemmas.{none_given}
use Rattle.store_tables.proofs.tables.queue.queue_count.Goals as goal

pub select_one-requires : goal.select_one-requires
unfolding everything
select_one-requires g c schema k found = none_given schema _ k found (λ s n. refl)

pub returns-in-Ok-Some-clause-read : goal.returns-in-Ok-Some-clause-read
unfolding understood everything
returns-in-Ok-Some-clause-read g c = counted queue_table c.in-Ok-Some.ensures
    (record { is = refl; plain = (refl, refl); unlisted = refl; none = λ s n. refl })
    (search rules) (search rules)

pub returns-in-Ok-None-clause-read : goal.returns-in-Ok-None-clause-read
returns-in-Ok-None-clause-read g c = refusing_after c.select_one.ensures.leaves.spares

pub returns-in-Ok-None-2-clause-read : goal.returns-in-Ok-None-2-clause-read
returns-in-Ok-None-2-clause-read g c = refusing_after c.select_one.ensures.leaves.spares
