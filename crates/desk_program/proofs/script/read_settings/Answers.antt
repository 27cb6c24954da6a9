-- reading answers the settings, or a fault
use Rattle.desk_program.proofs.ReadSettings.{gives_settings}
use Rattle.desk_program.proofs.script.read_settings.Goals as goal

pub returns : goal.returns
returns c = gives_settings c.args.text.now c.read.result c.read.ensures.ok c.read.ensures.err
