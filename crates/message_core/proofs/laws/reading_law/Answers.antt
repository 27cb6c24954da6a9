-- a stream has one head at most
use Rattle.message_core.proofs.OneReading.{leaves_one, reads_one}
use Rattle.message_core.proofs.laws.reading_law.Goals as goal

pub returns-clause-read : goal.returns-clause-read
returns-clause-read c = reads_one

pub returns-clause-left : goal.returns-clause-left
returns-clause-left c = leaves_one
