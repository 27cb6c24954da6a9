use Rattle.std.proofs.Common.{[], inl, sym, ℕ}
use Rattle.store_tables.specs.Contents.Meta.{version_text}
use Rattle.store_tables.proofs.Meaning.{alone}
use Rattle.store_tables.proofs.ShutLemmas.{told}
use Rattle.store_tables.proofs.Spared.{failed_leaves, shown_leaves}
use Rattle.store_tables.proofs.StandLemmas.{shown_alone}
use Rattle.store_tables.proofs.VersionLemmas.{version_is}
use Rattle.store_tables.proofs.tables.meta.is_open.Goals as goal

pub returns-in-Ok-clause-live : goal.returns-in-Ok-clause-live
returns-in-Ok-clause-live g c clean =
    sym (shown_alone version_text [] _ _ c.in-Ok.rows.items (alone version_is)
    (c.in-Ok.ensures.ok clean)).0.was_open

pub returns-in-Ok-clause-kept : goal.returns-in-Ok-clause-kept
returns-in-Ok-clause-kept g c = (shown_leaves version_text [] _ _ (alone version_is)
    c.query_all.ensures.survives c.in-Ok.rows c.in-Ok.rows.items c.in-Ok.ensures.ok).spares

pub returns-in-Err-clause-live : goal.returns-in-Err-clause-live
returns-in-Err-clause-live g c clean = told version_text [] _ _ (alone version_is) c.in-Err.error
    (c.in-Err.ensures.err clean) c.told_by.result c.told_by.ensures.shut

pub returns-in-Err-clause-kept : goal.returns-in-Err-clause-kept
returns-in-Err-clause-kept g c = (failed_leaves version_text [] _ _ (alone version_is)
    c.query_all.ensures.survives {X = ℕ} c.in-Err.error (λ clean. inl (c.in-Err.ensures.err clean))).spares
