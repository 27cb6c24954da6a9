use Rattle.settings_core.proofs.Sound.{sound}
use Rattle.settings_core.proofs.laws.sound_law.Goals as goal

pub returns : goal.returns
returns c = sound
