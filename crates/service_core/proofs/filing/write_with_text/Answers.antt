-- the text is of its form, and its entry is written with the filing
use Rattle.std.proofs.Common.{◌∙◌, sym}
use Rattle.store_core.specs.Seen.{state_of}
use Rattle.service_core.proofs.FilingLemmas.{texted_written}
use Rattle.service_core.proofs.filing.write_with_text.Goals as goal

pub returns-in-Ok-clause-done : goal.returns-in-Ok-clause-done
returns-in-Ok-clause-done g c =
    texted_written c.args.call.settings.now c.args.call.caller.now c.args.text.now c.args.change
    c.in-Ok.change c.write.result (state_of g.S.Store c.args.store.now)
    (state_of g.S.Store c.write.new.store) c.in-Ok.ensures (sym c.in-None.is ∙ c.refusal_of_text.ensures)
    c.write.ensures.done
