-- the command takes the text, or is done alone
use Rattle.std.proofs.Common.{◌∙◌, ap, sym}
use Rattle.std.specs.Option.{option_map}
use Rattle.service_core.specs.Seen.{settings_of, tables_of}
use Rattle.service_core.specs.TableSteps.{ask_by}
use Rattle.service_core.proofs.FilingLemmas.{filed_by_itself, filed_by_taken, taken_again}
use Rattle.service_core.proofs.desk.Desk.file.Goals as goal

pub returns-in-Some-clause-step : goal.returns-in-Some-clause-step
returns-in-Some-clause-step g c =
    let s = settings_of g.S.Store c.args.self.now in
    let ask = ask_by c.args.at c.args.caller.now c.args.command.now in
    let old = tables_of g.S.Store c.args.self.now in
    let new = tables_of g.S.Store c.file_with.new.self in
    let is = sym (ap (option_map (λ t. t.now)) c.in-Some.is) ∙ c.text_taken.ensures in
    filed_by_taken s ask c.args.text.now _ c.file_with.result old new is
    (filed_by_itself s ask c.in-Some.text.now c.file_with.result old new
    (taken_again c.args.command.now c.args.text.now c.in-Some.text.now is) c.file_with.ensures.step)

pub returns-in-None-clause-step : goal.returns-in-None-clause-step
returns-in-None-clause-step g c =
    filed_by_taken (settings_of g.S.Store c.args.self.now)
    (ask_by c.args.at c.args.caller.now c.args.command.now) c.args.text.now _ c.execute.result
    (tables_of g.S.Store c.args.self.now) (tables_of g.S.Store c.execute.new.self)
    (sym (ap (option_map (λ t. t.now)) c.in-None.is) ∙ c.text_taken.ensures) c.execute.ensures.step
