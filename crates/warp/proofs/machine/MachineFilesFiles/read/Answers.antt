use Rattle.warp.proofs.machine.MachineFilesFiles.read.Goals as goal

pub returns-clause-bytes : goal.returns-clause-bytes
returns-clause-bytes g c = record { all = c.in-Ok.bytes.items; is = tt; front = c.truncate.ensures.items }
