use Rattle.std.proofs.Common.{length}
use Rattle.settings_form.proofs.text_forms.+fits.Given as goal

abbrev pub decreases-fits : goal.decreases-fits
decreases-fits l = length l.pattern.now
