use Rattle.std.proofs.Common.{refl}
use Rattle.sqlite.specs.Listing.{understood}
use Rattle.sqlite_trees.proofs.ListLemmas.{map-map}
use Rattle.sqlite_tied.specs.Compute.{everything}
use Rattle.store_tables.specs.Contents.Entry.{BareEntry, bare_of}
use Rattle.store_tables.proofs.Contents.Entry.{actor_back, bare_table}
use Rattle.store_tables.proofs.ReadOn.{telling}
use Rattle.store_tables.proofs.RowLemmas.{parts_any}
use Rattle.store_tables.proofs.TextLemmas.{none_given}
use Rattle.store_tables.proofs.tables.entry.actors.Goals as goal

pub select_all-requires : goal.select_all-requires
unfolding everything
select_all-requires g c schema k found = none_given schema _ k found (λ s n. refl)

pub returns : goal.returns
unfolding understood everything
returns g c =
    let it = parts_any bare_table {part = λ e. e.actor} c.select_all.ensures
    (record { is = refl; plain = (refl, refl); unlisted = refl; none = λ s n. refl }) actor_back in
    let read = telling (λ d xs listed. rw (map-map (λ (e : BareEntry). e.actor) bare_of d.entries)
    at listed) it.read in
    let tested = it.tested in assumption
