use Rattle.settings_form.proofs.Prefixes.{after_is}
use Rattle.settings_form.proofs.grantee.after.Goals as goal

pub returns : goal.returns
returns c = after_is c.args.text.now c.args.start.now _ c.strip_prefix.ensures.cases
