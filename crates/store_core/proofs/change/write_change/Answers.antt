use Rattle.store_tables.proofs.StepLemmas.{does_both}
use Rattle.store_core.proofs.change.write_change.Goals as goal

pub returns-clause-made : goal.returns-clause-made
returns-clause-made g c =
    does_both (does_both (does_both c.in_ok-write_rows.ensures.made
    c.in_ok-write_persons.ensures.made) c.in_ok-write_links.ensures.made)
    c.write_history.ensures.made
