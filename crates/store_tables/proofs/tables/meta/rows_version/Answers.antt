use Rattle.std.proofs.Common.{[]}
use Rattle.store_tables.specs.Contents.Meta.{version_text}
use Rattle.store_tables.proofs.BlankLemmas.{refused_blank}
use Rattle.store_tables.proofs.Meaning.{alone}
use Rattle.store_tables.proofs.ReadingLemmas.{if_ok}
use Rattle.store_tables.proofs.StandLemmas.{shown_tables}
use Rattle.store_tables.proofs.VersionLemmas.{version_is}
use Rattle.store_tables.proofs.VersionLemmas.{meta_rows, shows_version}
use Rattle.store_tables.proofs.tables.meta.rows_version.Goals as goal

pub select-requires : goal.select-requires
select-requires g c = alone version_is

pub returns-clause-shown : goal.returns-clause-shown
returns-clause-shown g c d stand now =
    if_ok c.select.result (λ rows shown. shows_version d _ _ (shown_tables d version_text [] _ _
    rows.items c.select.ensures.leaves.spares.clean stand now shown) rows.items shown)
    (c.select.ensures.shown now)

pub returns-clause-blank : goal.returns-clause-blank
returns-clause-blank g c = refused_blank (λ rows. rows.items) _ _ c.select.result
    c.select.ensures.leaves.spares.clean c.select.ensures.shown c.select.ensures.fault

pub returns-clause-meta : goal.returns-clause-meta
returns-clause-meta g c = meta_rows (λ rows. rows.items) c.select.result
    c.select.ensures.leaves.spares.clean c.select.ensures.shown c.select.ensures.fault
