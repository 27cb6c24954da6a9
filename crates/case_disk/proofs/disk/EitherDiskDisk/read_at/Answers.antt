use Rattle.case_disk.proofs.disk.EitherDiskDisk.read_at.Goals as goal

pub returns-in-Memory-clause-read : goal.returns-in-Memory-clause-read
returns-in-Memory-clause-read g c = rw c.in-Memory.is c.read_at.ensures.read

pub returns-in-File-clause-read : goal.returns-in-File-clause-read
returns-in-File-clause-read g c = rw c.in-File.is c.read_at-in-File.ensures.read
