use Rattle.store_tables.proofs.StepLemmas.{does_both}
use Rattle.store_core.proofs.change.write_rows.Goals as goal

pub returns-clause-made : goal.returns-clause-made
returns-clause-made g c = does_both (does_both c.in_ok-put_any.ensures.put
    c.in_ok-file_request.ensures.filed) c.revise_request.ensures.set
